use Rattle.std.specs.Option.{option_copied}
use Rattle.capsule.specs.Words.{RunImage}
use Rattle.capsule.proofs.Calls.{IsCall-from_plan}
use Rattle.capsule.proofs.runs.run.Goals as goal

pub returns-clause-call : goal.returns-clause-call
returns-clause-call g c =
    IsCall-from_plan (RunImage c.args.image.now (option_copied c.args.bench)) _ _ _ _ _ c.run_file.ensures.course
