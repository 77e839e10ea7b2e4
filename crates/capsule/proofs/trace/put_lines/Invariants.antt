use Rattle.std.proofs.Common.{◌≡◌, drop}
use Rattle.bench_io.proofs.Writing.{IsWriting}
use Rattle.capsule.specs.Trace.{text_of_lines}
use Rattle.capsule.proofs.trace.put_lines.Given as goal

-- the lines up to this one are written
abbrev pub invariant-loop-item : goal.invariant-loop-item
invariant-loop-item g l = record {
  text : IsWriting (g.K.Sink.written l.fn.out) (g.K.Sink.written l.out) (text_of_lines l.tick l.items) (text_of_lines l.tick (drop l.item-index l.items));
  uncounted : g.K.Sink.faults l.out ≡ g.K.Sink.faults l.fn.out;
}
