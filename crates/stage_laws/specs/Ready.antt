-- What holds of a chip when the owner of the bus acts.
use Rattle.std.specs.Prelude.{◌≡◌}
use Rattle.stimulus.specs.Stimulus.{Stimulus}
use Rattle.chip_core.specs.State.{State}
use Rattle.chip_core.specs.Tick.{budget_of, moments, power_of}
use Rattle.release_log.specs.Facts.{IsSound}
use Rattle.stage_laws.specs.Seen.{IsReady}

-- the chip on which the owner of the bus acts in the next tick
abbrev pub ready_of : Stimulus → State → State
ready_of bench chip = ((moments bench chip).stages).ready

-- whatever the tick's power is and whatever a bench brings in it
abbrev pub TicksMakeReady : Type 0
TicksMakeReady = (bench : Stimulus) (chip : State) → IsSound chip → IsReady (ready_of bench chip)

-- and with as many writes as the tick may have, whose power is cut
abbrev pub TicksHaveBudgets : Type 0
TicksHaveBudgets =
    (bench : Stimulus) (chip : State) →
    (ready_of bench chip).bus.budget ≡ budget_of (power_of bench chip)
