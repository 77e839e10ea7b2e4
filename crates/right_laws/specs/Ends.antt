-- What the end of a step makes of the places that were noted, and that no access before it sets a flag.
use Rattle.std.specs.Prelude.{◌≡◌, ◌≢◌, ◌≤◌, ℕ, ◌==◌, ◌&&◌, ◌||◌, not, Bool, false, List, [], length, slice_index_or}
use Rattle.chip_words.specs.declared.sizes.Size.{Size}
use Rattle.chip_words.specs.declared.accesses.Agent.{Agent}
use Rattle.chip_words.specs.declared.accesses.Kind.{Kind}
use Rattle.chip_words.specs.declared.segments.Segment.{Segment}
use Rattle.chip_words.specs.declared.segments.Segment.TheVariants.{One, Two, Three, Info, Sealed}
use Rattle.chip_words.specs.Access.{access}
use Rattle.chip_words.specs.Addresses.{MPUCTL1, SYSSNIV, register_address}
use Rattle.chip_words.specs.Bits.{has_bit}
use Rattle.chip_words.specs.BusPart.{BusPart}
use Rattle.chip_words.specs.Map.{aligned}
use Rattle.chip_words.specs.Mpu.{MPUSEGIE}
use Rattle.chip_words.specs.Steps.{step_ended}
use Rattle.chip_words.specs.Units.{Units}
use Rattle.right_laws.specs.Numbers.{place_cause, place_flag}

-- a test passes at one of the five places
abbrev pub at_some_place : (Segment → Bool) → Bool
at_some_place test = test Sealed || test Info || test One || test Two || test Three

-- a place was violated in the step
abbrev pub is_noted : Segment → BusPart → Bool
is_noted place part = has_bit part.noted (place_flag place)

-- VS of a place: that of the area is in MPUIPC0, and those of the segments are in MPUSAM
abbrev pub has_vs : Segment → Units → Bool
has_vs One units = has_bit (units.mpu).mpusam 3
has_vs Two units = has_bit (units.mpu).mpusam 7
has_vs Three units = has_bit (units.mpu).mpusam 11
has_vs Info units = has_bit (units.mpu).mpusam 15
has_vs Sealed units = has_bit (units.encap).mpuipc0 5

-- a place that was violated asks for a reset with this cause
abbrev pub asks_for : ℕ → BusPart → Segment → Bool
asks_for cause part place = is_noted place part && has_vs place part.units && cause == place_cause place

-- a place that was violated asks for the NMI
abbrev pub asks_for_nmi : BusPart → Segment → Bool
asks_for_nmi part place =
    is_noted place part && not (has_vs place part.units) && has_bit ((part.units).mpu).mpuctl0 MPUSEGIE

-- MPUCTL1
abbrev pub flags : BusPart → ℕ
flags part = ((part.units).mpu).mpuctl1

-- a cause is in a list of requests
abbrev pub is_asked : List Bool → ℕ → Bool
is_asked requested cause = slice_index_or requested cause false

-- the causes that the chip will take
abbrev pub requests : BusPart → List Bool
requests part = ((part.units).sys).requested

-- both lists of requests have an entry for each cause
pub record HasAllCauses (part : BusPart) : Type 0 where
  pub by_step : length part.causes ≡ 65
  pub of_chip : length (requests part) ≡ 65

-- all but what the end of a step may change
abbrev pub apart_from_end : BusPart → BusPart
apart_from_end part = record part {
  units = record (part.units) {
    sys = record ((part.units).sys) { requested = [] };
    mpu = record ((part.units).mpu) { mpuctl1 = 0 };
  };
  nmi = false;
  noted = 0;
  causes = [];
}

-- the end of a step, before and behind it
pub record EndsStep (before after : BusPart) : Type 0 where
  pub flagged :
      (place : Segment) →
      has_bit (flags after) (place_flag place) ≡ (has_bit (flags before) (place_flag place) || is_noted place before)
  pub no_others : (k : ℕ) → 5 ≤ k → has_bit (flags after) k ≡ has_bit (flags before) k
  pub noted : after.noted ≡ 0
  pub by_step : (n : ℕ) → is_asked after.causes n ≡ (is_asked before.causes n || at_some_place (asks_for n before))
  pub of_chip :
      (n : ℕ) → is_asked (requests after) n ≡ (is_asked (requests before) n || at_some_place (asks_for n before))
  pub nmi : after.nmi ≡ (before.nmi || at_some_place (asks_for_nmi before))
  pub rest : apart_from_end after ≡ apart_from_end before

-- so at the end of each step
abbrev pub StepsEndByNotes : Type 0
StepsEndByNotes = (part : BusPart) → HasAllCauses part → EndsStep part (step_ended part)

-- where nothing was noted the end of a step changes nothing
abbrev pub NoNotesNoChange : Type 0
NoNotesNoChange = (part : BusPart) → part.noted ≡ 0 → step_ended part ≡ part

-- no access sets a flag or clears one, refused or not, but to MPUCTL1 and SYSSNIV
abbrev pub AccessesKeepFlags : Type 0
AccessesKeepFlags =
    (who : Agent) (kind : Kind) (at : ℕ) (size : Size) (value : ℕ) (part : BusPart) →
    register_address (aligned size at) ≢ MPUCTL1 → register_address (aligned size at) ≢ SYSSNIV →
    flags (access who kind at size value part).part ≡ flags part
