-- Laws of the cuts and of the power of a run.
use Rattle.std.specs.Prelude.{◌≡◌, ◌≢◌, ℕ, ◌+◌, ◌<◌, ◌≤◌, ◌⊎◌, List, All, Ok}
use Rattle.power_schedule.specs.declared.cuts.Cut.{Cut}
use Rattle.power_schedule.specs.declared.powers.Power.TheVariants as power
use Rattle.power_schedule.specs.Cuts.{AreOrdered, last_tick, schedule_of}
use Rattle.power_schedule.specs.Powers.{power_at}

-- where a tick is without power, power wasn't on in the tick before it
abbrev pub OffNeverFollowsOn : Type 0
OffNeverFollowsOn = (cuts : List Cut) (tick : ℕ) → power_at cuts (tick + 1) ≡ power.Off → power_at cuts tick ≢ power.On

-- the first tick isn't without power
abbrev pub FirstTickIsNotOff : Type 0
FirstTickIsNotOff = (cuts : List Cut) → power_at cuts 0 ≢ power.Off

-- cuts in order are a schedule
abbrev pub OrderedCutsAreTaken : Type 0
OrderedCutsAreTaken = (cuts : List Cut) → AreOrdered cuts → schedule_of cuts ≡ Ok cuts

-- a cut is done: power is cut at its tick, and is off in the ticks of its length behind it
pub record IsDone (cuts : List Cut) (cut : Cut) : Type 0 where
  pub is_cut : power_at cuts cut.tick ≡ power.Cut cut.writes
  pub is_off : (tick : ℕ) → cut.tick < tick → tick ≤ last_tick cut → power_at cuts tick ≡ power.Off

-- that is so of each cut of a schedule
abbrev pub EachCutIsDone : Type 0
EachCutIsDone = (cuts : List Cut) → AreOrdered cuts → All (IsDone cuts) cuts

-- a tick before the stretch of a cut or behind it
abbrev pub IsOutside : ℕ → Cut → Type 0
IsOutside tick cut = (tick < cut.tick) ⊎ (last_tick cut < tick)

-- a tick outside all stretches has power
abbrev pub OutsideIsOn : Type 0
OutsideIsOn = (cuts : List Cut) (tick : ℕ) → All (IsOutside tick) cuts → power_at cuts tick ≡ power.On
