use Rattle.stage_laws.proofs.Transfers.{transfers_see_public as law}
use Rattle.stage_laws.proofs.public_laws.transfers_see_public.Goals as goal

pub returns : goal.returns
returns c = law
