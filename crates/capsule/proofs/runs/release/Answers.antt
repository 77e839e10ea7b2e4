use Rattle.capsule.specs.Words.{ReleaseImage}
use Rattle.capsule.proofs.Calls.{IsCall-from_plan}
use Rattle.capsule.proofs.runs.release.Goals as goal

pub returns-clause-call : goal.returns-clause-call
returns-clause-call g c =
    IsCall-from_plan (ReleaseImage c.args.image.now c.args.bench.now) _ _ _ _ _ c.run_file.ensures.course
