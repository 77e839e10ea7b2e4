use Rattle.timer_laws.proofs.Cycles.{up_down_periods as law}
use Rattle.timer_laws.proofs.up_down_periods.Goals as goal

pub returns : goal.returns
returns c = law
