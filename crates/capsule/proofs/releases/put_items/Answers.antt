use Rattle.std.proofs.Common.{◌∙◌}
use Rattle.bench_io.proofs.Writing.{goes_on, stops_in}
use Rattle.capsule.specs.Releases.{text_of_item}
use Rattle.capsule.proofs.Texts.{texts-drop}
use Rattle.capsule.proofs.releases.put_items.Goals as goal

pub returns-in-Err-clause-front : goal.returns-in-Err-clause-front
returns-in-Err-clause-front g c =
    stops_in _ _ _ _ _ _ _ c.loop-item.invariant.text (texts-drop (text_of_item c.args.tick c.args.chip.now.bus.memory) c.args.items.now c.loop-item.item-index _ c.loop-item-test.true) c.in-Err.ensures.front

pub loop-item-preserved : goal.loop-item-preserved
loop-item-preserved g c = record {
  text = goes_on _ _ _ _ _ _ _ c.loop-item.invariant.text (texts-drop (text_of_item c.args.tick c.args.chip.now.bus.memory) c.args.items.now c.loop-item.item-index _ c.loop-item-test.true) c.in-Ok.ensures.whole;
  uncounted = c.in-Ok.ensures.uncounted ∙ c.loop-item.invariant.uncounted;
}
