use Rattle.stage_laws.proofs.Beginnings.{beginnings_see_public as law}
use Rattle.stage_laws.proofs.public_laws.beginnings_see_public.Goals as goal

pub returns : goal.returns
returns c = law
