-- The run of a file follows its plan.
use Rattle.std.proofs.Common.{refl, inl, inr}
use Rattle.std.specs.Option.{option_copied}
use Rattle.bench_io.specs.WholeFiles.{shelf_view}
use Rattle.capsule.specs.Output.{report_of}
use Rattle.capsule.specs.Written.{sink_view}
use Rattle.capsule.proofs.Calls.{run-not_usage}
use Rattle.capsule.proofs.runs.run_file.Goals as goal

pub returns-in-Err-clause-usage : goal.returns-in-Err-clause-usage
returns-in-Err-clause-usage g c =
    let before = shelf_view (g.S.Shelf.files c.args.shelf.now) (g.S.Shelf.finds c.args.shelf.now) (g.S.Shelf.faults c.args.shelf.now) in
    let after = shelf_view (g.S.Shelf.files c.read_whole.new.shelf) (g.S.Shelf.finds c.read_whole.new.shelf) (g.S.Shelf.faults c.read_whole.new.shelf) in
    let sink = sink_view (g.K.Sink.written c.args.out.now) (g.K.Sink.faults c.args.out.now) in
    run-not_usage (report_of c.args.report) c.args.image.now (option_copied c.args.bench) before after sink sink c.in-Err.status (inl (c.in-Err.ensures.ended, refl))

pub returns-in-Err-clause-course : goal.returns-in-Err-clause-course
returns-in-Err-clause-course g c = inl (c.in-Err.ensures.ended, refl)

pub returns-clause-usage : goal.returns-clause-usage
returns-clause-usage g c =
    let before = shelf_view (g.S.Shelf.files c.args.shelf.now) (g.S.Shelf.finds c.args.shelf.now) (g.S.Shelf.faults c.args.shelf.now) in
    let between = shelf_view (g.S.Shelf.files c.read_whole.new.shelf) (g.S.Shelf.finds c.read_whole.new.shelf) (g.S.Shelf.faults c.read_whole.new.shelf) in
    let after = shelf_view (g.S.Shelf.files c.run_image.new.shelf) (g.S.Shelf.finds c.run_image.new.shelf) (g.S.Shelf.faults c.run_image.new.shelf) in
    let sink = sink_view (g.K.Sink.written c.args.out.now) (g.K.Sink.faults c.args.out.now) in
    let now = sink_view (g.K.Sink.written c.run_image.new.out) (g.K.Sink.faults c.run_image.new.out) in
    run-not_usage (report_of c.args.report) c.args.image.now (option_copied c.args.bench) before after sink now c.run_image.result (inr (c.in-Ok.bytes.items, between, c.in-Ok.ensures.read, rw c.as_slice.ensures.value at c.run_image.ensures))

pub returns-clause-course : goal.returns-clause-course
returns-clause-course g c =
    let between = shelf_view (g.S.Shelf.files c.read_whole.new.shelf) (g.S.Shelf.finds c.read_whole.new.shelf) (g.S.Shelf.faults c.read_whole.new.shelf) in
    inr (c.in-Ok.bytes.items, between, c.in-Ok.ensures.read, rw c.as_slice.ensures.value at c.run_image.ensures)
