use Rattle.std.proofs.Common.{◌≡◌, ◌-◌, ◌≤◌, vec_len}
use Rattle.bench_io.proofs.Finds.{IsReading}
use Rattle.bench_io.proofs.whole_file.read_file.Given as goal

abbrev pub invariant-pieces : goal.invariant-pieces
invariant-pieces g l = record {
  reading : IsReading (g.S.Shelf.files l.fn.shelf) (g.S.Shelf.finds l.fn.shelf) (g.S.Shelf.finds l.shelf) l.id l.name l.bytes.items;
  same : g.S.Shelf.files l.shelf ≡ g.S.Shelf.files l.fn.shelf;
  uncounted : g.S.Shelf.faults l.shelf ≡ g.S.Shelf.faults l.fn.shelf;
  within : vec_len l.bytes ≤ l.limit;
}

abbrev pub decreases-pieces : goal.decreases-pieces
decreases-pieces g l = l.limit - vec_len l.bytes
