use Rattle.timer_laws.proofs.Cycles.{continuous_periods as law}
use Rattle.timer_laws.proofs.continuous_periods.Goals as goal

pub returns : goal.returns
returns c = law
