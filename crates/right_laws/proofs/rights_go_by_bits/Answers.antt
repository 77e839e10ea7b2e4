use Rattle.right_laws.proofs.Judging.{rights_go_by_bits as law}
use Rattle.right_laws.proofs.rights_go_by_bits.Goals as goal

pub returns : goal.returns
returns c = law
