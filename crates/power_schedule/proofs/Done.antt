-- Each cut of a schedule is done, and no other tick is cut or off.
use Rattle.std.proofs.Common.{◌≡◌, ℕ, zero, suc, true, false, ◌<◌, ◌≤◌, ◌==◌, List, [], ◌∷◌, length, get_or, find, Some, None, All, inl, inr, refl, ap, arith}
use Rattle.std.proofs.lemmas.Bool.Decides.{nat_tests}
use Rattle.power_schedule.specs.declared.cuts.Cut.{Cut}
use Rattle.power_schedule.specs.declared.powers.Power.TheVariants as power
use Rattle.power_schedule.specs.Cuts.{AreOrdered, last_tick}
use Rattle.power_schedule.specs.Laws.{EachCutIsDone, IsOutside, OutsideIsOn}
use Rattle.power_schedule.specs.Powers.{is_within, power_at, power_by}
use Rattle.power_schedule.proofs.LastBegun.{AreOrdered-tail, over}

-- the stretch of the first cut is before the tick of each other one
first_before : (cut : Cut) (cuts : List Cut) (index : ℕ) (d : Cut) → AreOrdered (cut ∷ cuts) → index < length cuts → last_tick cut < (get_or cuts index d).tick
first_before cut [] index d ordered within = absurd (omega arith)
first_before cut (next ∷ cuts) zero d ordered within = ordered 0 d (omega arith)
first_before cut (next ∷ cuts) (suc index) d ordered within =
    let above = ordered 0 d (omega arith) in
    let later = first_before next cuts index d (AreOrdered-tail cut (next ∷ cuts) ordered) (omega arith) in
    omega arith

-- a tick within the stretch of a cut is in no stretch before it
find-within : (tick : ℕ) (cuts : List Cut) (index : ℕ) (d : Cut) → AreOrdered cuts → index < length cuts → (get_or cuts index d).tick ≤ tick → tick ≤ last_tick (get_or cuts index d) → find (is_within tick) cuts ≡ Some (get_or cuts index d)
find-within tick [] index d ordered inside begun held = absurd (omega arith)
find-within tick (cut ∷ cuts) zero d ordered inside begun held =
    let within : is_within tick cut ≡ true = grind (arith, nat_tests) in
    rw within refl
find-within tick (cut ∷ cuts) (suc index) d ordered inside begun held =
    rw (over tick cut (get_or cuts index d) (first_before cut cuts index d ordered (omega arith)) begun)
    (find-within tick cuts index d (AreOrdered-tail cut cuts ordered) (omega arith) begun held)

at_own : (cut : Cut) → power_by cut.tick (Some cut) ≡ power.Cut cut.writes
at_own cut =
    let own : (cut.tick == cut.tick) ≡ true = grind (arith, nat_tests) in
    rw own refl

behind_own : (tick : ℕ) (cut : Cut) → cut.tick < tick → power_by tick (Some cut) ≡ power.Off
behind_own tick cut behind =
    let other : (tick == cut.tick) ≡ false = grind (arith, nat_tests) in
    rw other refl

pub each_cut_is_done : EachCutIsDone
unfolding power_at
each_cut_is_done cuts ordered index d inside =
    let cut = get_or cuts index d in
    record {
      is_cut = rw (find-within cut.tick cuts index d ordered inside (omega arith) (omega arith)) (at_own cut);
      is_off = λ tick behind held. rw (find-within tick cuts index d ordered inside (omega arith) held) (behind_own tick cut behind);
    }

outside : (tick : ℕ) (cut : Cut) → IsOutside tick cut → is_within tick cut ≡ false
outside tick cut (inl before) = grind (arith, nat_tests)
outside tick cut (inr behind) = grind (arith, nat_tests)

find-outside : (cuts : List Cut) (tick : ℕ) → All (IsOutside tick) cuts → find (is_within tick) cuts ≡ None
find-outside [] tick all = refl
find-outside (cut ∷ cuts) tick all =
    rw (outside tick cut (all 0 cut (omega arith)))
    (find-outside cuts tick (λ k d h. all (suc k) d (omega arith)))

pub outside_is_on : OutsideIsOn
unfolding power_at
outside_is_on cuts tick all = ap (power_by tick) (find-outside cuts tick all)
