use Rattle.stage_laws.proofs.Readying.{ticks_make_ready as law}
use Rattle.stage_laws.proofs.ready.ticks_make_ready.Goals as goal

pub returns : goal.returns
returns c = law
