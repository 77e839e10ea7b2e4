use Rattle.std.proofs.Common.{◌≤◌, length, subst, sym}
use Rattle.chip_core.specs.State.{State}
use Rattle.chip_core.proofs.StepEnds.{step_ended_few}
use Rattle.chip_core.proofs.chips.Chip.instruct.Goals as goal

pub returns-clause-made : goal.returns-clause-made
returns-clause-made c = record {
  few = subst (λ (chip : State). length chip.bus.accesses ≤ 36) (sym c.end_instruction.ensures.chip) (step_ended_few _ 36 c.step-outcome.ensures.count);
  vector = tt;
}
