use Rattle.stage_laws.proofs.Ticking.{one_tick_agrees as law}
use Rattle.stage_laws.proofs.one_tick.one_tick_agrees.Goals as goal

pub returns : goal.returns
returns c = law
