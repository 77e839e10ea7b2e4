use Rattle.timer_laws.proofs.Divided.{stopped_is_idle as law}
use Rattle.timer_laws.proofs.stopped_is_idle.Goals as goal

pub returns : goal.returns
returns c = law
