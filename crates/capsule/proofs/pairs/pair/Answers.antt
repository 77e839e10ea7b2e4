use Rattle.bench_io.specs.WholeFiles.{shelf_view}
use Rattle.capsule.specs.Words.{PairImages}
use Rattle.capsule.specs.Written.{sink_view}
use Rattle.capsule.proofs.Calls.{IsCall-from_plan, pair-not_usage}
use Rattle.capsule.proofs.pairs.pair.Goals as goal

pub returns-clause-usage : goal.returns-clause-usage
returns-clause-usage g c =
    let before = shelf_view (g.S.Shelf.files c.args.shelf.now) (g.S.Shelf.finds c.args.shelf.now) (g.S.Shelf.faults c.args.shelf.now) in
    let after = shelf_view (g.S.Shelf.files c.pair_files.new.shelf) (g.S.Shelf.finds c.pair_files.new.shelf) (g.S.Shelf.faults c.pair_files.new.shelf) in
    let sink = sink_view (g.K.Sink.written c.args.out.now) (g.K.Sink.faults c.args.out.now) in
    let now = sink_view (g.K.Sink.written c.pair_files.new.out) (g.K.Sink.faults c.pair_files.new.out) in
    pair-not_usage c.args.one.now c.args.other.now c.args.bench.now before after sink now c.pair_files.result c.pair_files.ensures

pub returns-clause-call : goal.returns-clause-call
returns-clause-call g c =
    IsCall-from_plan (PairImages c.args.one.now c.args.other.now c.args.bench.now) _ _ _ _ _ c.pair_files.ensures
