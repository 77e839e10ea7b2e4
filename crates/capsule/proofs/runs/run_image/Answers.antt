-- Where the bench isn't read, the call ends as its plan says.
use Rattle.std.proofs.Common.{Some}
use Rattle.capsule.specs.Output.{Do, Write, report_of}
use Rattle.capsule.specs.Written.{sink_view}
use Rattle.capsule.proofs.Calls.{an_image}
use Rattle.capsule.proofs.runs.run_image.Goals as goal

pub returns-in-Err-load_bench : goal.returns-in-Err-load_bench
returns-in-Err-load_bench g c =
    rw c.in-Some.is
    (an_image (report_of c.args.report) c.args.bytes.now (Some c.in-Some.name.now) c.in-Ok.image _ _ _ _ _ c.in-Ok.ensures (c.in-Err-load_bench.ensures.ended (λ bench. Do (Write (report_of c.args.report bench c.in-Ok.image))) (sink_view (g.K.Sink.written c.args.out.now) (g.K.Sink.faults c.args.out.now))))
