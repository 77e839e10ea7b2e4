use Rattle.timer_laws.proofs.Kept.{steps_keep_the_rest as law}
use Rattle.timer_laws.proofs.steps_keep_the_rest.Goals as goal

pub returns : goal.returns
returns c = law
