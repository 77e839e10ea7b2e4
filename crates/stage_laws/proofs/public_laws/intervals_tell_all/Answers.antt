use Rattle.stage_laws.proofs.Openings.{intervals_tell_all as law}
use Rattle.stage_laws.proofs.public_laws.intervals_tell_all.Goals as goal

pub returns : goal.returns
returns c = law
