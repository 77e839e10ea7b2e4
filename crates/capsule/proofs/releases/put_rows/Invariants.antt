use Rattle.std.proofs.Common.{◌≡◌, ◌+◌, ◌-◌, ◌*◌}
use Rattle.bench_io.proofs.Writing.{IsWriting}
use Rattle.capsule.specs.Releases.{text_of_rows}
use Rattle.capsule.proofs.releases.put_rows.Given as goal

-- the rows up to this one are written
abbrev pub invariant-loop-n : goal.invariant-loop-n
invariant-loop-n g l = record {
  text : IsWriting (g.K.Sink.written l.fn.out) (g.K.Sink.written l.out) (text_of_rows l.tick l.chip.bus.memory l.count l.low) (text_of_rows l.tick l.chip.bus.memory (l.count - l.n) (l.low + 16 * l.n));
  uncounted : g.K.Sink.faults l.out ≡ g.K.Sink.faults l.fn.out;
}
