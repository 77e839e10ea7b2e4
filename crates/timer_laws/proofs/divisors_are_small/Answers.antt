use Rattle.timer_laws.proofs.Divided.{divisors_are_small as law}
use Rattle.timer_laws.proofs.divisors_are_small.Goals as goal

pub returns : goal.returns
returns c = law
