-- What was read is what the file is.
use Rattle.std.proofs.Common.{◌∙◌, ap, Err}
use Rattle.stimulus.specs.Stimulus.{bench_of_file}
use Rattle.capsule.proofs.Benches.{found-ok, found-err}
use Rattle.capsule.proofs.runs.parse_bench.Goals as goal

pub returns-in-Ok-clause-bench : goal.returns-in-Ok-clause-bench
returns-in-Ok-clause-bench c =
    found-ok (bench_of_file c.args.bytes.now) c.read_bench.result c.in-Ok.bench c.in-Ok.is c.read_bench.ensures.bench

pub returns-in-Err-Refused-clause-refused : goal.returns-in-Err-Refused-clause-refused
returns-in-Err-Refused-clause-refused c =
    found-err (bench_of_file c.args.bytes.now) c.read_bench.result c.in-Err-Refused.refusal (c.in-Err-Refused.is ∙ ap Err c.in-Err-Refused.field-0-is) c.read_bench.ensures.bench
