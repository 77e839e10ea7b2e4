use Rattle.right_laws.proofs.Accessing.{accesses_keep_flags as law}
use Rattle.right_laws.proofs.accesses_keep_flags.Goals as goal

pub returns : goal.returns
returns c = law
