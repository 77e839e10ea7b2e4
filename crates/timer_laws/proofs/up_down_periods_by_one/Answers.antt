use Rattle.timer_laws.proofs.Cycles.{up_down_periods_by_one as law}
use Rattle.timer_laws.proofs.up_down_periods_by_one.Goals as goal

pub returns : goal.returns
returns c = law
