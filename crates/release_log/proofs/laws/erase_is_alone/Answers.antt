use Rattle.release_log.proofs.Erases.{erase_is_alone as law}
use Rattle.release_log.proofs.laws.erase_is_alone.Goals as goal

pub returns : goal.returns
returns c = law
