use Rattle.right_laws.proofs.Accessing.{accesses_keep_locked as law}
use Rattle.right_laws.proofs.accesses_keep_locked.Goals as goal

pub returns : goal.returns
returns c = law
