-- Where a tick is without power, and what the tick before it is.
use Rattle.std.proofs.Common.{◌≡◌, ℕ, Bool, true, false, cond, ◌+◌, ◌==◌, List, [], ◌∷◌, find, inl, inr, refl, arith}
use Rattle.std.specs.Prelude.{◌≢◌}
use Rattle.std.proofs.lemmas.Bool.{cases_Bool}
use Rattle.std.proofs.lemmas.Bool.Decides.{nat_tests}
use Rattle.power_schedule.specs.declared.cuts.Cut.{Cut}
use Rattle.power_schedule.specs.declared.powers.Power.TheVariants as power
use Rattle.power_schedule.specs.Laws.{FirstTickIsNotOff, OffNeverFollowsOn}
use Rattle.power_schedule.specs.Powers.{is_within, power_at, power_by}

-- a cut never leaves power on, and where it leaves none, the tick isn't its own
not_on : (own : Bool) (writes : ℕ) → cond own (power.Cut writes) power.Off ≢ power.On
not_on true writes on = cc
not_on false writes on = cc

not_own : (own : Bool) (writes : ℕ) → cond own (power.Cut writes) power.Off ≡ power.Off → own ≡ false
not_own true writes off = cc
not_own false writes off = refl

-- where the cut of a tick leaves it without power, the tick before is within its stretch too
within_before : (tick : ℕ) (cut : Cut) → is_within (tick + 1) cut ≡ true → (tick + 1 == cut.tick) ≡ false → is_within tick cut ≡ true
within_before tick cut within behind = grind (arith, nat_tests)

before_off : (cuts : List Cut) (tick : ℕ) → power_by (tick + 1) (find (is_within (tick + 1)) cuts) ≡ power.Off → power_by tick (find (is_within tick) cuts) ≢ power.On
before_off [] tick off on = cc
before_off (cut ∷ cuts) tick off on = elim (cases_Bool (is_within tick cut)) [
  | inl held ↦ not_on _ cut.writes (rw held at on)
  | inr free ↦ elim (cases_Bool (is_within (tick + 1) cut)) [
    | inl within ↦
        let same = within_before tick cut within (not_own _ cut.writes (rw within at off)) in
        cc
    | inr away ↦ before_off cuts tick (rw away at off) (rw free at on)
  ]
]

pub off_never_follows_on : OffNeverFollowsOn
unfolding power_at
off_never_follows_on cuts tick off on = before_off cuts tick off on

-- a stretch that holds the first tick begins there
first_on_or_cut : (cuts : List Cut) → power_by 0 (find (is_within 0) cuts) ≢ power.Off
first_on_or_cut [] off = cc
first_on_or_cut (cut ∷ cuts) off = elim (cases_Bool (is_within 0 cut)) [
  | inl within ↦
      let behind = not_own _ cut.writes (rw within at off) in
      let own : (0 == cut.tick) ≡ true = grind (arith, nat_tests) in
      cc
  | inr away ↦ first_on_or_cut cuts (rw away at off)
]

pub first_tick_is_not_off : FirstTickIsNotOff
unfolding power_at
first_tick_is_not_off cuts off = first_on_or_cut cuts off
