use Rattle.timer_laws.proofs.Divided.{edges_make_steps as law}
use Rattle.timer_laws.proofs.edges_make_steps.Goals as goal

pub returns : goal.returns
returns c = law
