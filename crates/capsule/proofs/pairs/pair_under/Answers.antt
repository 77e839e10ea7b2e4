-- Where the bench isn't read, the call ends as its plan says.
use Rattle.capsule.specs.Output.{Compare, Do}
use Rattle.capsule.specs.Written.{sink_view}
use Rattle.capsule.proofs.pairs.pair_under.Goals as goal

pub returns-in-Err : goal.returns-in-Err
returns-in-Err g c =
    c.in-Err.ensures.ended (λ bench. Do (Compare bench c.args.one.now c.args.other.now)) (sink_view (g.K.Sink.written c.args.out.now) (g.K.Sink.faults c.args.out.now))
