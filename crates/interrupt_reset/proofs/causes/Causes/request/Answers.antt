use Rattle.std.proofs.Common.{arith}
use Rattle.std.proofs.lemmas.Grind.{common_steps}
use Rattle.interrupt_reset.proofs.LeastCause.{least_cause-slice_set}
use Rattle.interrupt_reset.proofs.causes.Causes.request.Goals as goal

pub invariant_of-self : goal.invariant_of-self
invariant_of-self c = grind (arith, common_steps, least_cause-slice_set)
