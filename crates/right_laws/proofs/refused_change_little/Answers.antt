use Rattle.right_laws.proofs.Refusing.{refused_change_little as law}
use Rattle.right_laws.proofs.refused_change_little.Goals as goal

pub returns : goal.returns
returns c = law
