use Rattle.stage_laws.proofs.CutTurns.{cut_turns_agree as law}
use Rattle.stage_laws.proofs.cuts.cut_turns_agree.Goals as goal

pub returns : goal.returns
returns c = law
