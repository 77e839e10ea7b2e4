use Rattle.std.proofs.Common.{◌∙◌, refl}
use Rattle.bench_io.proofs.Writing.{goes_on, stops_in}
use Rattle.capsule.proofs.Texts.{rows-row}
use Rattle.capsule.proofs.releases.put_rows.Goals as goal

pub returns-in-Err-clause-front : goal.returns-in-Err-clause-front
returns-in-Err-clause-front g c =
    stops_in _ _ _ _ _ _ _ c.loop-n.invariant.text (rows-row c.args.tick c.args.chip.now.bus.memory c.args.count c.loop-n.n c.args.low _ c.loop-n-test.true refl) c.in-Err.ensures.front

pub loop-n-preserved : goal.loop-n-preserved
loop-n-preserved g c = record {
  text = goes_on _ _ _ _ _ _ _ c.loop-n.invariant.text (rows-row c.args.tick c.args.chip.now.bus.memory c.args.count c.loop-n.n c.args.low _ c.loop-n-test.true refl) c.in-Ok.ensures.whole;
  uncounted = c.in-Ok.ensures.uncounted ∙ c.loop-n.invariant.uncounted;
}
