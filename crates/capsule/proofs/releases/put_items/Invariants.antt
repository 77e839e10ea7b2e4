use Rattle.std.proofs.Common.{◌≡◌, drop}
use Rattle.bench_io.proofs.Writing.{IsWriting}
use Rattle.capsule.specs.Releases.{text_of_items}
use Rattle.capsule.proofs.releases.put_items.Given as goal

-- the items up to this one are written
abbrev pub invariant-loop-item : goal.invariant-loop-item
invariant-loop-item g l = record {
  text : IsWriting (g.K.Sink.written l.fn.out) (g.K.Sink.written l.out) (text_of_items l.tick l.chip.bus.memory l.items) (text_of_items l.tick l.chip.bus.memory (drop l.item-index l.items));
  uncounted : g.K.Sink.faults l.out ≡ g.K.Sink.faults l.fn.out;
}
