use Rattle.std.proofs.Common.{◌∙◌}
use Rattle.bench_io.proofs.Writing.{goes_on, stops_in}
use Rattle.trace_print.specs.Lines.{line_of}
use Rattle.capsule.proofs.Texts.{texts-item}
use Rattle.capsule.proofs.trace.put_lines.Goals as goal

pub returns-in-Err-clause-front : goal.returns-in-Err-clause-front
returns-in-Err-clause-front g c =
    stops_in _ _ _ _ _ _ _ c.loop-item.invariant.text (texts-item (line_of c.args.tick) c.args.items.now c.loop-item.item-index c.item-item.result c.item-item.is c.loop-item-test.true) c.in-Err.ensures.front

pub loop-item-preserved : goal.loop-item-preserved
loop-item-preserved g c = record {
  text = goes_on _ _ _ _ _ _ _ c.loop-item.invariant.text (texts-item (line_of c.args.tick) c.args.items.now c.loop-item.item-index c.item-item.result c.item-item.is c.loop-item-test.true) c.in-Ok.ensures.whole;
  uncounted = c.in-Ok.ensures.uncounted ∙ c.loop-item.invariant.uncounted;
}
