use Rattle.stage_laws.proofs.BootSteps.{boot_steps_see_public as law}
use Rattle.stage_laws.proofs.public_laws.boot_steps_see_public.Goals as goal

pub returns : goal.returns
returns c = law
