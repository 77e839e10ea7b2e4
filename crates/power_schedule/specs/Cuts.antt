-- The cuts of a run: their stretches, their order, and which cut is the first that comes too early.
use Rattle.std.specs.Prelude.{ℕ, ◌+◌, ◌-◌, ◌<◌, ◌≤◌, Bool, false, ◌&&◌, nat_le, nat_lt, List, length, find, slice_get, Option, Some, None, Result, Ok, Err}
use Rattle.std.specs.List.{AllAdjacentBelow, range_with_len}
use Rattle.std.specs.List.Sorted.{IsPartitionPoint}
use Rattle.power_schedule.specs.declared.cuts.Cut.{Cut}
use Rattle.power_schedule.specs.declared.refusals.ScheduleRefused.{ScheduleRefused}
use Rattle.power_schedule.specs.declared.refusals.ScheduleRefused.TheVariants.{BadCut}

-- the most cuts of a schedule, the greatest tick that one names, and the most ticks without power behind it
abbrev pub most_cuts : ℕ
most_cuts = 1000

abbrev pub greatest_tick : ℕ
greatest_tick = 10000000

abbrev pub greatest_off : ℕ
greatest_off = 10000000

-- a cut is within these
abbrev pub IsInReach : Cut → Type 0
IsInReach cut = (cut.tick ≤ greatest_tick) × (cut.off ≤ greatest_off)

-- the last tick of a cut's stretch, which is its tick and those without power behind it
abbrev pub last_tick : Cut → ℕ
last_tick cut = cut.tick + cut.off

-- the stretches of a list stand one behind another: each cut's tick is above the stretch of the cut before it
abbrev pub AreOrdered : List Cut → Type 0
AreOrdered cuts = AllAdjacentBelow (λ before cut. last_tick before < cut.tick) cuts (length cuts)

-- the first so many cuts have begun by a tick, and no other has
abbrev pub HaveBegun : ℕ → List Cut → ℕ → Type 0
HaveBegun tick cuts count = IsPartitionPoint (λ (cut : Cut). cut.tick ≤ tick) (λ (cut : Cut). tick < cut.tick) cuts count

-- there are a cut before and a cut, whose tick isn't above the stretch of the one before
abbrev pub comes_early : Option Cut → Option Cut → Bool
comes_early (Some before) (Some cut) = nat_le cut.tick (last_tick before)
comes_early (Some before) None = false
comes_early None cut = false

-- the cut at an index comes too early behind the one before it. The first cut has none before it
abbrev pub is_early : List Cut → ℕ → Bool
is_early cuts index = nat_lt 0 index && comes_early (slice_get cuts (index - 1)) (slice_get cuts index)

-- the first index at which a cut comes too early
abbrev pub first_early : List Cut → Option ℕ
first_early cuts = find (is_early cuts) (range_with_len 0 (length cuts))

-- the schedule of some cuts, where none comes too early, or the refusal of the first that does
abbrev pub judged : List Cut → Option ℕ → Result (List Cut) ScheduleRefused
judged cuts (Some index) = Err (BadCut index)
judged cuts None = Ok cuts

unfoldable pub schedule_of : List Cut → Result (List Cut) ScheduleRefused
schedule_of cuts = judged cuts (first_early cuts)
