-- What holds of a step that the processor made.
use Rattle.std.specs.Prelude.{◌<◌, ◌≤◌, ℕ, length, Option, Some, None, IfSome}
use Rattle.chip_core.specs.declared.steps.Step.{Step}
use Rattle.chip_core.specs.State.{State}

-- PUSHM of 16 registers of 20 bits has two fetches at most and 32 writes, and no instruction has more than these
abbrev pub most_accesses : ℕ
most_accesses = 36

-- its accesses stand in the bus part and are few, and a vector has 20 bits
pub record IsStepOf (chip : State) (step : Step) : Type 0 where
  pub few : length chip.bus.accesses ≤ most_accesses
  pub vector : IfSome step.vector (λ at. at < 0x100000)

-- so it is of the step, where there is one
abbrev pub HasStep : Option Step → State → Type 0
HasStep (Some step) chip = IsStepOf chip step
HasStep None chip = Unit {0}
