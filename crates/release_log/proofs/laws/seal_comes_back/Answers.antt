use Rattle.release_log.proofs.Lasts.{seal_comes_back as law}
use Rattle.release_log.proofs.laws.seal_comes_back.Goals as goal

pub returns : goal.returns
returns c = law
