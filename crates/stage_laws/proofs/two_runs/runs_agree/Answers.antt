use Rattle.stage_laws.proofs.Runs.{runs_agree as law}
use Rattle.stage_laws.proofs.two_runs.runs_agree.Goals as goal

pub returns : goal.returns
returns c = law
