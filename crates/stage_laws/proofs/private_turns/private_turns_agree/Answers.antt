use Rattle.stage_laws.proofs.PrivateTurning.{private_turns_agree as law}
use Rattle.stage_laws.proofs.private_turns.private_turns_agree.Goals as goal

pub returns : goal.returns
returns c = law
