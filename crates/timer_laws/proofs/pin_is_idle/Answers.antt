use Rattle.timer_laws.proofs.Divided.{pin_is_idle as law}
use Rattle.timer_laws.proofs.pin_is_idle.Goals as goal

pub returns : goal.returns
returns c = law
