-- What power, the stimulus and the timers leave of two chips of which the same is public, and what they show.
use Rattle.std.specs.Prelude.{◌≡◌}
use Rattle.stimulus.specs.Stimulus.{Stimulus}
use Rattle.chip_core.specs.declared.owners.Owner.{Owner}
use Rattle.chip_core.specs.Lines.{power_lines, stimulus_lines}
use Rattle.chip_core.specs.State.{State}
use Rattle.chip_core.specs.Tick.{moments, power_of, supplied}
use Rattle.release_log.specs.Facts.{IsSound}
use Rattle.stage_laws.specs.Alike.{LookAlike}
use Rattle.stage_laws.specs.Ready.{ready_of}
use Rattle.stage_laws.specs.Seen.{seen}

-- who owns the bus in the next tick
abbrev pub owner_in_tick : Stimulus → State → Owner
owner_in_tick bench chip = ((moments bench chip).stages).owner

-- Two chips look alike when the owner of the bus acts, and it is the same owner. What was shown before is the same: that
-- power came on, and the answers to the debugger's commands.
pub record BeginAlike (bench : Stimulus) (a b : State) : Type 0 where
  pub power : power_of bench a ≡ power_of bench b
  pub chips : LookAlike (ready_of bench a) (ready_of bench b)
  pub owner : owner_in_tick bench a ≡ owner_in_tick bench b
  pub power_lines : power_lines (power_of bench a) a ≡ power_lines (power_of bench b) b
  pub stimulus_lines :
      stimulus_lines bench (supplied bench a) ≡ stimulus_lines bench (supplied bench b)

-- whatever power a bench has in the tick, and whatever it brings in it
abbrev pub BeginningsSeePublic : Type 0
BeginningsSeePublic =
    (bench : Stimulus) (a b : State) → IsSound a → IsSound b →
    seen a ≡ seen b → BeginAlike bench a b
