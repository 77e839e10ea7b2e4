-- A step of a boot keeps its place in fit, and one that ends the boot installs what is saved.
use Rattle.std.proofs.Common.{◌≡◌, ◌≢◌, ◌+◌, ◌%◌, ◌==◌, ℕ, List, Bool, true, false, arith, refl, ap, sym, ◌∙◌, subst, if◌then◌else◌}
use Rattle.std.proofs.lemmas.Bool.Decides.{nat_tests}
use Rattle.chip_words.specs.declared.sizes.Size.TheVariants.{Word}
use Rattle.chip_words.specs.BusPart.{BusPart}
use Rattle.chip_words.specs.Access.{Accessed}
use Rattle.chip_words.specs.Map.{is_fram}
use Rattle.chip_words.specs.Memory.{stored}
use Rattle.chip_words.specs.Segments.{MAIN_FRAM}
use Rattle.boot_code.specs.declared.boots.Keep.{Keep}
use Rattle.boot_code.specs.Place.{Place, Start, Sig, Ptr, Word0, Word1, Word2, Word3, SavePtr, SaveMark, MarkErase, Wipe, MarkEmpty, DoneWith, DoneWithout, Structure}
use Rattle.boot_code.specs.Boot.{EMPTY, ERASING, LAST_OF_INFORMATION_FRAM, LAST_OF_MAIN_FRAM, POINTER_AT, SAVED, SIGNATURE, SIGNATURE_AT, WIPED, boot_step, borders_of, checked, first_wiped, is_good, run_of, signed, started, structure, wiped, word_at, word_read, word_wiped}
use Rattle.boot_code.specs.Facts.{AreInstalled, EndsWell, Fits, IsPointer, IsStructure, IsUncut, IsWiped, IsWiping, boot_word, is_mark, is_unerased, kept_behind, structure_at}
use Rattle.boot_code.proofs.Accesses.{word_read-is, word_wiped-is}
use Rattle.boot_code.proofs.Wiping.{fram-cases, fram-next, stored-wiped, wiped-first, wiped-info, wiped-main}

pub first-Fits : (keep : Keep) (memory : List ℕ) → keep.mark ≡ ERASING → Fits first_wiped keep memory
first-Fits keep memory m = record {
  marked = m;
  place = grind (arith, nat_tests, fram-cases 0x1800);
  even = refl;
  wiped = wiped-first memory;
}

-- the place behind a wiped word
wiped-Fits : (at : ℕ) (keep : Keep) (memory : List ℕ) → keep.mark ≡ ERASING → is_fram at ≡ true → at % 2 ≡ 0 → IsWiped memory (at + 2) → Fits (wiped at) keep memory
wiped-Fits at keep memory m f e w = by_low (at == LAST_OF_INFORMATION_FRAM) refl
  where
    by_high : (v : Bool) → (at == LAST_OF_MAIN_FRAM) ≡ v → at ≢ LAST_OF_INFORMATION_FRAM → Fits (if v then MarkEmpty else Wipe (at + 2)) keep memory
    by_high true d n = (m, wiped-main memory at (grind (arith, nat_tests)) w)
    by_high false d n = record { marked = m; place = fram-next at f e n (grind (arith, nat_tests)); even = omega arith; wiped = w }

    by_low : (v : Bool) → (at == LAST_OF_INFORMATION_FRAM) ≡ v → Fits (if v then Wipe MAIN_FRAM else if at == LAST_OF_MAIN_FRAM then MarkEmpty else Wipe (at + 2)) keep memory
    by_low true d = record { marked = m; place = grind (arith, nat_tests, fram-cases 0x4400); even = refl; wiped = wiped-info memory at (grind (arith, nat_tests)) w }
    by_low false d = by_high (at == LAST_OF_MAIN_FRAM) refl (grind (arith, nat_tests))

-- the first step, by mark
started-Fits : (keep : Keep) (memory : List ℕ) → is_mark keep.mark ≡ true → Fits (started keep) keep memory
started-Fits keep memory m = by_erasing (keep.mark == ERASING) refl
  where
    by_saved : (v : Bool) → (keep.mark == SAVED) ≡ v → (keep.mark == ERASING) ≡ false → Fits (if v then Word0 keep.ptr else Sig) keep memory
    by_saved true e n = record {
      marked = grind (arith, nat_tests);
      saved = λ s. refl;
      signed = λ h. absurd (grind (arith, nat_tests));
      first = λ h. absurd (grind (arith, nat_tests));
    }
    by_saved false e n = grind (arith, nat_tests)

    by_erasing : (v : Bool) → (keep.mark == ERASING) ≡ v → Fits (if v then first_wiped else if keep.mark == SAVED then Word0 keep.ptr else Sig) keep memory
    by_erasing true e = first-Fits keep memory (grind (arith, nat_tests))
    by_erasing false e = by_saved (keep.mark == SAVED) refl e

signed-Fits : (keep : Keep) (memory : List ℕ) → keep.mark ≡ EMPTY → Fits (signed (boot_word memory SIGNATURE_AT)) keep memory
signed-Fits keep memory m = by_signature (boot_word memory SIGNATURE_AT == SIGNATURE) refl
  where
    by_signature : (v : Bool) → (boot_word memory SIGNATURE_AT == SIGNATURE) ≡ v → Fits (if v then Ptr else DoneWithout) keep memory
    by_signature true e = (m, grind (arith, nat_tests))
    by_signature false e = m

pointed-Fits : (keep : Keep) (memory : List ℕ) → keep.mark ≡ EMPTY → boot_word memory SIGNATURE_AT ≡ SIGNATURE → IsPointer keep memory (boot_word memory POINTER_AT)
pointed-Fits keep memory m g = record { marked = grind (arith, nat_tests); saved = λ s. absurd (omega arith); signed = λ h. g; first = λ h. refl }

checked-Fits : (keep : Keep) (memory : List ℕ) (p : ℕ) (words : Structure) → IsPointer keep memory p →
    words.control ≡ boot_word memory (word_at p 0) → words.second_border ≡ boot_word memory (word_at p 1) →
    words.first_border ≡ boot_word memory (word_at p 2) → words.check ≡ boot_word memory (word_at p 3) →
    Fits (checked keep p words) keep memory
checked-Fits keep memory p words i w0 w1 w2 w3 = by_good (is_good words) refl
  where
    by_saved : (v : Bool) → (keep.mark == SAVED) ≡ v → is_good words ≡ true → Fits (if v then DoneWith p words else SavePtr p words) keep memory
    by_saved true e g =
        let m : keep.mark ≡ SAVED = grind (arith, nat_tests) in
        (m, i.saved m, record { control = w0; second_border = w1; first_border = w2; check = w3; good = g })
    by_saved false e g =
        let u : is_unerased keep.mark ≡ true = i.marked in
        (grind (arith, nat_tests), i, record { control = w0; second_border = w1; first_border = w2; check = w3; good = g })

    by_good : (v : Bool) → is_good words ≡ v → Fits (if v then if keep.mark == SAVED then DoneWith p words else SavePtr p words else MarkErase) keep memory
    by_good true g = by_saved (keep.mark == SAVED) refl g
    by_good false g = i.marked

pub word_at-even : (p k : ℕ) → word_at p k % 2 ≡ 0
unfolding word_at
word_at-even p k = omega arith

-- a step that reads
asked-Fits : (at : ℕ) (next : ℕ → Place) (keep : Keep) (part : BusPart) → at % 2 ≡ 0 → Fits (next (boot_word part.memory at)) keep part.memory →
    Fits (next (word_read at part).answer) keep (word_read at part).part.memory
asked-Fits at next keep part even f =
    subst (λ (a : Accessed). Fits (next a.answer) keep a.part.memory) (sym (word_read-is at part even)) f

-- a step that wipes
pub wiping-Fits : (at : ℕ) (keep : Keep) (part : BusPart) → IsUncut part → IsWiping keep part.memory at → Fits (wiped at) keep (word_wiped at part).part.memory
wiping-Fits at keep part uncut w =
    subst (λ (a : Accessed). Fits (wiped at) keep a.part.memory) (sym (word_wiped-is at part w.even w.place uncut.unbudgeted))
    (wiped-Fits at keep (stored part.memory at Word WIPED) w.marked w.place w.even
    (stored-wiped part.memory at uncut.size w.place w.even w.wiped))

saved-IsPointer : (keep : Keep) (memory : List ℕ) (p : ℕ) → keep.mark ≡ EMPTY → IsPointer keep memory p → IsPointer (record keep { ptr = p }) memory p
saved-IsPointer keep memory p m i = record { marked = i.marked; saved = λ s. refl; signed = i.signed; first = i.first }

-- what a step leaves fits, where the caller writes what it asks for
abbrev pub StaysFit : Place → Keep → BusPart → Type 0
StaysFit place keep part =
    Fits (run_of place keep part).value.place (kept_behind (run_of place keep part).value.step keep)
    (run_of place keep part).part.memory

pub step_stays_fit : (place : Place) (keep : Keep) (part : BusPart) → IsUncut part → Fits place keep part.memory → StaysFit place keep part
unfolding boot_step
step_stays_fit Start keep part u f = started-Fits keep part.memory f
step_stays_fit Sig keep part u f = asked-Fits SIGNATURE_AT signed keep part refl (signed-Fits keep part.memory f)
step_stays_fit Ptr keep part u f = asked-Fits POINTER_AT Word0 keep part refl (pointed-Fits keep part.memory f.0 f.1)
step_stays_fit (Word0 p) keep part u f = asked-Fits (word_at p 0) (Word1 p) keep part (word_at-even p 0) (f, refl)
step_stays_fit (Word1 p w0) keep part u f = asked-Fits (word_at p 1) (Word2 p w0) keep part (word_at-even p 1) (f.0, f.1, refl)
step_stays_fit (Word2 p w0 w1) keep part u f =
    asked-Fits (word_at p 2) (Word3 p w0 w1) keep part (word_at-even p 2) (f.0, f.1, f.2, refl)
step_stays_fit (Word3 p w0 w1 w2) keep part u f =
    asked-Fits (word_at p 3) (λ word. checked keep p (structure w0 w1 w2 word)) keep part (word_at-even p 3)
    (checked-Fits keep part.memory p (structure w0 w1 w2 (boot_word part.memory (word_at p 3))) f.0 f.1 f.2 f.3 refl)
step_stays_fit (SavePtr p words) keep part u f = (f.0, saved-IsPointer keep part.memory p f.0 f.1, f.2, refl)
step_stays_fit (SaveMark p words) keep part u f = (refl, f.3, f.2)
step_stays_fit MarkErase keep part u f = first-Fits (record keep { mark = ERASING }) part.memory refl
step_stays_fit (Wipe at) keep part u f = wiping-Fits at keep part u f
step_stays_fit MarkEmpty keep part u f = refl
step_stays_fit (DoneWith p words) keep part u f = f
step_stays_fit DoneWithout keep part u f = f

-- four words that are those of memory are its structure
pub structure-same : (x y : Structure) → x.control ≡ y.control → x.second_border ≡ y.second_border → x.first_border ≡ y.first_border → x.check ≡ y.check → x ≡ y
structure-same x y c s f k =
    ap (λ w. structure w x.second_border x.first_border x.check) c
    ∙ ap (λ w. structure y.control w x.first_border x.check) s
    ∙ ap (λ w. structure y.control y.second_border w x.check) f
    ∙ ap (structure y.control y.second_border y.first_border) k

with-AreInstalled : (p : ℕ) (words : Structure) (keep : Keep) (memory : List ℕ) → Fits (DoneWith p words) keep memory → AreInstalled (borders_of words) keep memory
with-AreInstalled p words keep memory f =
    let i : IsStructure memory p words = f.2 in
    let same : words ≡ structure_at memory keep.ptr =
    structure-same words (structure_at memory p) i.control i.second_border i.first_border i.check
    ∙ ap (structure_at memory) f.1 in
    record {
      saved = λ m. ap borders_of same;
      good = λ m. ap is_good (sym same) ∙ i.good;
      others = λ m. absurd (m f.0);
    }

-- a step that ends the boot gives the borders of what is saved
abbrev pub EndsAs : Place → Keep → BusPart → Type 0
EndsAs place keep part = EndsWell (run_of place keep part).value.step keep (run_of place keep part).part.memory

pub step_ends_well : (place : Place) (keep : Keep) (part : BusPart) → Fits place keep part.memory → EndsAs place keep part
unfolding boot_step
step_ends_well Start keep part f = tt
step_ends_well Sig keep part f = tt
step_ends_well Ptr keep part f = tt
step_ends_well (Word0 p) keep part f = tt
step_ends_well (Word1 p w0) keep part f = tt
step_ends_well (Word2 p w0 w1) keep part f = tt
step_ends_well (Word3 p w0 w1 w2) keep part f = tt
step_ends_well (SavePtr p words) keep part f = tt
step_ends_well (SaveMark p words) keep part f = tt
step_ends_well MarkErase keep part f = tt
step_ends_well (Wipe at) keep part f = tt
step_ends_well MarkEmpty keep part f = tt
step_ends_well (DoneWith p words) keep part f = with-AreInstalled p words keep part.memory f
step_ends_well DoneWithout keep part f = record { saved = λ m. absurd (omega arith); good = λ m. absurd (omega arith); others = λ m. refl }
