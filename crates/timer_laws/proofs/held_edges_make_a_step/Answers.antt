use Rattle.timer_laws.proofs.Divided.{held_edges_make_a_step as law}
use Rattle.timer_laws.proofs.held_edges_make_a_step.Goals as goal

pub returns : goal.returns
returns c = law
