use Rattle.stage_laws.proofs.PublicTurns.{public_turns_see_public as law}
use Rattle.stage_laws.proofs.public_laws.public_turns_see_public.Goals as goal

pub returns : goal.returns
returns c = law
