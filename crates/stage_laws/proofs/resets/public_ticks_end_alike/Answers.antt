use Rattle.stage_laws.proofs.Resetting.{public_ticks_end_alike as law}
use Rattle.stage_laws.proofs.resets.public_ticks_end_alike.Goals as goal

pub returns : goal.returns
returns c = law
