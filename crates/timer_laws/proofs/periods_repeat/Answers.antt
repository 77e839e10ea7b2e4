use Rattle.timer_laws.proofs.Repeated.{periods_repeat as law}
use Rattle.timer_laws.proofs.periods_repeat.Goals as goal

pub returns : goal.returns
returns c = law
