use Rattle.access_laws.proofs.Booting.{boot_sees_public as law}
use Rattle.access_laws.proofs.boot_sees_public.Goals as goal

pub returns : goal.returns
returns c = law
