use Rattle.std.proofs.Common.{◌≤◌, arith, length, subst, sym}
use Rattle.chip_core.proofs.StepEnds.{step_ended_few}
use Rattle.chip_core.proofs.chips.Chip.enter.Goals as goal

pub returns-clause-made : goal.returns-clause-made
returns-clause-made c =
    let three = subst (λ part. length part.accesses ≤ 3) (sym c.entered.ensures.part) c.enter.ensures.count in
    record {
      few = subst (λ part. length part.accesses ≤ 36) (sym c.end_step.ensures.step) (step_ended_few _ 36 (omega (arith, three)));
      vector = c.requires.place;
    }
