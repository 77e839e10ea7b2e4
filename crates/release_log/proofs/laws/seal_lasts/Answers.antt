use Rattle.release_log.proofs.Unwritten.{seal_lasts as law}
use Rattle.release_log.proofs.laws.seal_lasts.Goals as goal

pub returns : goal.returns
returns c = law
