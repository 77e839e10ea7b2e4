use Rattle.release_log.proofs.Firsts.{steps_hold_first as law}
use Rattle.release_log.proofs.laws.steps_hold_first.Goals as goal

pub returns : goal.returns
returns c = law
