-- An erase, from the word that it has come to until its end.
use Rattle.std.proofs.Common.{◌≡◌, ◌≢◌, ◌<◌, ◌≤◌, ◌+◌, ◌*◌, ◌%◌, ◌==◌, inl, inr, ℕ, List, Bool, true, false, zero, suc, arith, refl, sym, ◌∙◌, subst}
use Rattle.std.proofs.lemmas.Bool.{cases_lt}
use Rattle.std.proofs.lemmas.Bool.Decides.{nat_tests}
use Rattle.chip_words.specs.BusPart.{BusPart}
use Rattle.chip_words.specs.Access.{Accessed}
use Rattle.chip_words.specs.Map.{is_fram}
use Rattle.chip_words.specs.Segments.{MAIN_FRAM}
use Rattle.ip_encap.specs.declared.encap.Borders.{Borders}
use Rattle.boot_code.specs.declared.boots.Keep.{Keep}
use Rattle.boot_code.specs.Place.{Place, Wipe, MarkEmpty}
use Rattle.boot_code.specs.Boot.{EMPTY, ERASING, LAST_OF_INFORMATION_FRAM, LAST_OF_MAIN_FRAM, first_wiped, no_borders, started, wiped, word_wiped}
use Rattle.boot_code.specs.Facts.{Fits, IsBlank, IsUncut, IsWiping}
use Rattle.boot_code.specs.Runs.{EndsAfter, boot_at, rested}
use Rattle.boot_code.specs.Laws.{EraseWipesFram}
use Rattle.boot_code.proofs.Accesses.{chosen, unchosen, word_wiped-is}
use Rattle.boot_code.proofs.Fitting.{first-Fits, wiping-Fits}
use Rattle.boot_code.proofs.Rows.{row-DoneWithout, row-MarkEmpty, row-Start, row-Wipe}
use Rattle.boot_code.proofs.Wiping.{fram-below, fram-info, stored-size}

-- so many words are left to wipe, from an address on
pub record IsLeft (n at : ℕ) : Type 0 where
  pub info : at < MAIN_FRAM → at + 2 * n ≡ 0x1A00 + 2 * 32256
  pub main : MAIN_FRAM ≤ at → at + 2 * n ≡ 0x14000

wiped-IsUncut : (at : ℕ) (keep : Keep) (part : BusPart) → IsUncut part → IsWiping keep part.memory at → IsUncut (rested (word_wiped at part).part)
wiped-IsUncut at keep part uncut w =
    subst (λ (a : Accessed). IsUncut (rested a.part)) (sym (word_wiped-is at part w.even w.place uncut.unbudgeted))
    (record { unbudgeted = uncut.unbudgeted; size = stored-size part.memory at ∙ uncut.size })

-- what an erase leaves to show: a fact that holds wherever FRAM is wiped
abbrev pub HoldsBlank : (Borders → List ℕ → Type 0) → Type 0
HoldsBlank P = (memory : List ℕ) → IsBlank memory → P no_borders memory

-- an erase that has so many words left ends with that fact
abbrev pub WipesFrom : (Borders → List ℕ → Type 0) → ℕ → Keep → Type 0
WipesFrom P n keep =
    (at : ℕ) (part : BusPart) → IsUncut part → IsWiping keep part.memory at → IsLeft n at →
    EndsAfter P (suc (suc n)) (boot_at (Wipe at) keep part)

-- something is left
left-none : (at : ℕ) → is_fram at ≡ true → IsLeft 0 at → ⊥
left-none at f left =
    let low : at < 0x14000 = fram-below at f in
    elim (cases_lt at 0x4400) [
      | inl below ↦ let i : at < 0x1A00 = fram-info at f below in let e = left.info below in omega arith
      | inr from ↦ let e = left.main from in omega arith
    ]

-- what is left behind the last word of information FRAM, behind that of main FRAM, and behind another one
left-info : (m at : ℕ) → at ≡ LAST_OF_INFORMATION_FRAM → IsLeft (suc m) at → IsLeft m MAIN_FRAM
left-info m at d left = let e = left.info (omega arith) in record { info = λ h. omega arith; main = λ h. omega arith }

left-main : (m at : ℕ) → at ≡ LAST_OF_MAIN_FRAM → IsLeft (suc m) at → m ≡ 0
left-main m at d left = let e = left.main (omega arith) in omega arith

left-next : (m at : ℕ) → is_fram at ≡ true → at ≢ LAST_OF_INFORMATION_FRAM → at % 2 ≡ 0 → IsLeft (suc m) at → IsLeft m (at + 2)
left-next m at f n even left = record {
  info = λ h. let e = left.info (omega arith) in omega arith;
  main = λ h. elim (cases_lt at 0x4400) [
    | inl below ↦ let i : at < 0x1A00 = fram-info at f below in absurd (omega arith)
    | inr from ↦ let e = left.main from in omega arith
  ];
}

wiping-step : (P : Borders → List ℕ → Type 0) (m : ℕ) (keep : Keep) → HoldsBlank P → WipesFrom P m keep → WipesFrom P (suc m) keep
wiping-step P m keep blank rest at part uncut w left =
    row-Wipe P (suc m) at keep part (by_low (at == LAST_OF_INFORMATION_FRAM) refl)
  where
    new : BusPart
    new = rested (word_wiped at part).part

    fresh : IsUncut new
    fresh = wiped-IsUncut at keep part uncut w

    Ends : Place → Type 0
    Ends next = EndsAfter P (suc (suc m)) (boot_at next keep new)

    fit : (next : Place) → wiped at ≡ next → Fits next keep new.memory
    fit next same = subst (λ (q : Place). Fits q keep new.memory) same (wiping-Fits at keep part uncut w)

    by_high : (v : Bool) → (at == LAST_OF_MAIN_FRAM) ≡ v → (at == LAST_OF_INFORMATION_FRAM) ≡ false → Ends (wiped at)
    by_high true d n =
        let same : wiped at ≡ MarkEmpty = unchosen (at == LAST_OF_INFORMATION_FRAM) _ _ n ∙ chosen (at == LAST_OF_MAIN_FRAM) _ _ d in
        let none : m ≡ 0 = left-main m at (grind (arith, nat_tests)) left in
        let there : Fits MarkEmpty keep new.memory = fit MarkEmpty same in
        subst Ends (sym same)
        (subst (λ k. EndsAfter P (suc (suc k)) (boot_at MarkEmpty keep new)) (sym none)
        (row-MarkEmpty P 0 keep new (row-DoneWithout P (record keep { mark = EMPTY }) (rested new) (blank new.memory there.1))))
    by_high false d n =
        let same : wiped at ≡ Wipe (at + 2) = unchosen (at == LAST_OF_INFORMATION_FRAM) _ _ n ∙ unchosen (at == LAST_OF_MAIN_FRAM) _ _ d in
        subst Ends (sym same)
        (rest (at + 2) new fresh (fit (Wipe (at + 2)) same) (left-next m at w.place (grind (arith, nat_tests)) w.even left))

    by_low : (v : Bool) → (at == LAST_OF_INFORMATION_FRAM) ≡ v → Ends (wiped at)
    by_low true d =
        let same : wiped at ≡ Wipe MAIN_FRAM = chosen (at == LAST_OF_INFORMATION_FRAM) _ _ d in
        subst Ends (sym same)
        (rest MAIN_FRAM new fresh (fit (Wipe MAIN_FRAM) same) (left-info m at (grind (arith, nat_tests)) left))
    by_low false d = by_high (at == LAST_OF_MAIN_FRAM) refl d

wiping-ends : (P : Borders → List ℕ → Type 0) (n : ℕ) (keep : Keep) → HoldsBlank P → WipesFrom P n keep
wiping-ends P zero keep blank at part uncut w left = absurd (left-none at w.place left)
wiping-ends P (suc m) keep blank at part uncut w left =
    wiping-step P m keep blank (wiping-ends P m keep blank) at part uncut w left

-- an erase from its first word on
pub wiped-ends : (P : Borders → List ℕ → Type 0) (keep : Keep) (part : BusPart) → HoldsBlank P → keep.mark ≡ ERASING → IsUncut part → EndsAfter P 32514 (boot_at first_wiped keep part)
wiped-ends P keep part blank m uncut =
    wiping-ends P 32512 keep blank 0x1800 part uncut (first-Fits keep part.memory m)
    (record { info = λ h. refl; main = λ h. absurd (omega arith) })

pub erase_wipes_fram : EraseWipesFram
erase_wipes_fram keep part m uncut =
    let P : Borders → List ℕ → Type 0 = λ borders memory. (borders ≡ no_borders) × IsBlank memory in
    let same : started keep ≡ first_wiped = chosen (keep.mark == ERASING) _ _ (grind (arith, nat_tests)) in
    row-Start P 32513 keep part
    (subst (λ (q : Place). EndsAfter P 32514 (boot_at q keep (rested part))) (sym same)
    (wiped-ends P keep (rested part) (λ memory b. (refl, b)) m (record { unbudgeted = uncut.unbudgeted; size = uncut.size })))
