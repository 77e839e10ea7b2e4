use Rattle.release_log.proofs.Missed.{steps_leave_missed as law}
use Rattle.release_log.proofs.laws.steps_leave_missed.Goals as goal

pub returns : goal.returns
returns c = law
