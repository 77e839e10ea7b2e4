-- Ticks of which nothing is told, one after another.
use Rattle.std.proofs.Common.{◌≡◌, ◌≢◌, ◌∙◌, ℕ, zero, suc, ◌+◌, ◌-◌, ◌≤◌, ◌==◌, true, false, List, [], ◌∷◌, length, add-one, ap, arith, refl, subst, sym, inl, inr}
use Rattle.std.proofs.lemmas.Bool.{cases_lt}
use Rattle.bus_fabric.specs.Fabric.{tick_ended}
use Rattle.stimulus.specs.Stimulus.{Stimulus}
use Rattle.trace_print.specs.declared.items.TraceItem.{TraceItem}
use Rattle.trace_print.specs.declared.releases.Item.{Item}
use Rattle.chip_core.specs.Items.{items_of}
use Rattle.chip_core.specs.Lines.{lines_of}
use Rattle.chip_core.specs.Run.{AreSilent, IsSilent, IsTold, chip_after}
use Rattle.chip_core.specs.State.{State}
use Rattle.chip_core.specs.Tick.{ticked}

-- a tick has the number behind that of the tick before it
pub next_tick : (bench : Stimulus) (chip after : State) → after ≡ ticked bench chip → after.tick ≡ chip.tick + 1
unfolding ticked
next_tick bench chip after is = ap (λ chip. chip.tick) is

-- the chip after one tick more
pub chip_after_more : (n : ℕ) (bench : Stimulus) (first chip after : State) → chip ≡ chip_after n bench first → after ≡ ticked bench chip → after ≡ chip_after (n + 1) bench first
chip_after_more n bench first chip after at is = rw add-one (is ∙ ap (ticked bench) at)

-- so many ticks behind others
pub later : (n m : ℕ) (bench : Stimulus) (first : State) → chip_after n bench (chip_after m bench first) ≡ chip_after (m + n) bench first
later zero m bench first = let e : m ≡ m + 0 = omega arith in ap (λ k. chip_after k bench first) e
later (suc n) m bench first =
    let e : suc (m + n) ≡ m + suc n = omega arith in
    ap (ticked bench) (later n m bench first) ∙ ap (λ k. chip_after k bench first) e

-- so many ticks more of a run
pub run_after : (n tick : ℕ) (bench : Stimulus) (first chip after : State) → chip ≡ chip_after tick bench first → after ≡ chip_after n bench chip → after ≡ chip_after (tick + n) bench first
run_after n tick bench first chip after at is = is ∙ ap (chip_after n bench) at ∙ later n tick bench first

pub run_tick : (n : ℕ) (bench : Stimulus) (chip : State) → (chip_after n bench chip).tick ≡ chip.tick + n
run_tick zero bench chip = omega arith
run_tick (suc n) bench chip =
    let before = run_tick n bench chip in
    let last = next_tick bench (chip_after n bench chip) (ticked bench (chip_after n bench chip)) refl in
    omega arith

-- silent ticks behind others
pub silent_after : (n m : ℕ) (bench : Stimulus) (first chip : State) → chip ≡ chip_after m bench first → AreSilent m bench first → AreSilent n bench chip → AreSilent (m + n) bench first
silent_after n m bench first chip at before behind = λ k within. elim (cases_lt k m) [
  | inl earlier ↦ before k earlier
  | inr later_on ↦
      let number : m + (k - m) ≡ k = omega (arith, later_on) in
      let same = ap (chip_after (k - m) bench) at ∙ later (k - m) m bench first ∙ ap (λ k. chip_after k bench first) number in
      subst (IsSilent bench) same (behind (k - m) (omega (arith, within, later_on)))
]

-- one silent tick more
pub silent_more : (n : ℕ) (bench : Stimulus) (first chip : State) → chip ≡ chip_after n bench first → IsSilent bench chip → AreSilent n bench first → AreSilent (n + 1) bench first
silent_more n bench first chip at silent before = λ k within. elim (cases_lt k n) [
  | inl earlier ↦ before k earlier
  | inr last ↦
      let number : n ≡ k = omega (arith, within, last) in
      subst (λ k. IsSilent bench (chip_after k bench first)) number (subst (IsSilent bench) at silent)
]

-- Lists, by the question whether they are empty.

pub are_none : {Thing : Type 0} (things : List Thing) → (length things == 0) ≡ true → things ≡ []
are_none [] h = refl
are_none (thing ∷ things) h = grind (arith, h)

pub are_some : {Thing : Type 0} (things : List Thing) → (length things == 0) ≡ false → things ≢ []
are_some [] h = grind (arith, h)
are_some (thing ∷ things) h = λ none. grind (arith, none)

-- A run, and more ticks of it.

-- behind a tick none is under way

ended : (bench : Stimulus) (chip : State) → tick_ended (ticked bench chip).bus ≡ (ticked bench chip).bus
unfolding ticked
ended bench chip = refl

pub ended_after : (n : ℕ) (bench : Stimulus) (first chip : State) → 1 ≤ n → chip ≡ chip_after n bench first → tick_ended chip.bus ≡ chip.bus
ended_after zero bench first chip some at = absurd (omega (arith, some))
ended_after (suc n) bench first chip some at = subst (λ chip. tick_ended chip.bus ≡ chip.bus) (sym at) (ended bench (chip_after n bench first))

-- the last tick of it
pub last_tick : (more done : ℕ) (bench : Stimulus) (first chip : State) → 1 ≤ more → chip ≡ chip_after done bench first → chip_after (more - 1) bench chip ≡ chip_after (done + more - 1) bench first
last_tick more done bench first chip some at =
    let number : done + (more - 1) ≡ done + more - 1 = omega (arith, some) in
    run_after (more - 1) done bench first chip (chip_after (more - 1) bench chip) at refl ∙ ap (λ k. chip_after k bench first) number

-- all before it are silent, where those before the others are, and the last of these
pub silent_run :
    (more done : ℕ) (bench : Stimulus) (first chip : State) → 1 ≤ more → 1 ≤ done → chip ≡ chip_after done bench first →
    AreSilent (done - 1) bench first → IsSilent bench (chip_after (done - 1) bench first) → AreSilent (more - 1) bench chip →
    AreSilent (done + more - 1) bench first
silent_run more done bench first chip some_more some at before last behind =
    let one : done - 1 + 1 ≡ done = omega (arith, some) in
    let number : done + (more - 1) ≡ done + more - 1 = omega (arith, some_more) in
    let till = subst (λ k. AreSilent k bench first) one (silent_more (done - 1) bench first (chip_after (done - 1) bench first) refl last before) in
    subst (λ k. AreSilent k bench first) number (silent_after (more - 1) done bench first chip at till behind)

-- A tick that told something.

last_told : (n : ℕ) (bench : Stimulus) (first chip : State) → chip ≡ chip_after n bench first → IsTold bench chip → IsTold bench (chip_after (n + 1 - 1) bench first)
last_told n bench first chip at told =
    let number : n ≡ n + 1 - 1 = omega arith in
    subst (λ k. IsTold bench (chip_after k bench first)) number (subst (IsTold bench) at told)

pub told_by_lines : (n : ℕ) (bench : Stimulus) (first chip : State) (lines : List TraceItem) → chip ≡ chip_after n bench first → lines ≡ lines_of bench chip → (length lines == 0) ≡ false → IsTold bench (chip_after (n + 1 - 1) bench first)
told_by_lines n bench first chip lines at is some = last_told n bench first chip at (inl (λ none. are_some lines some (is ∙ none)))

pub told_by_items : (n : ℕ) (bench : Stimulus) (first chip : State) (items : List Item) → chip ≡ chip_after n bench first → items ≡ items_of bench chip → (length items == 0) ≡ false → IsTold bench (chip_after (n + 1 - 1) bench first)
told_by_items n bench first chip items at is some = last_told n bench first chip at (inr (λ none. are_some items some (is ∙ none)))
