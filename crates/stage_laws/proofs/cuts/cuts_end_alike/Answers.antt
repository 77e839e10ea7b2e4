use Rattle.stage_laws.proofs.Cutting.{cuts_end_alike as law}
use Rattle.stage_laws.proofs.cuts.cuts_end_alike.Goals as goal

pub returns : goal.returns
returns c = law
