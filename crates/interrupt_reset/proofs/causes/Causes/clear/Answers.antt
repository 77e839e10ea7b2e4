use Rattle.std.proofs.Common.{arith}
use Rattle.std.proofs.lemmas.Grind.{common_steps}
use Rattle.interrupt_reset.proofs.LeastCause.{least_cause-none}
use Rattle.interrupt_reset.proofs.causes.Causes.clear.Goals as goal

pub returns-else-is_some : goal.returns-else-is_some
returns-else-is_some c = least_cause-none c.args.self.now (grind (arith, common_steps)) (grind (arith, common_steps))
