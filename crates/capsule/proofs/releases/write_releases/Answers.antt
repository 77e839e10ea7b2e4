use Rattle.std.proofs.Common.{◌∙◌, ◌+◌, ◌-◌, ap, arith}
use Rattle.std.proofs.lemmas.Result.{on_err_weaker}
use Rattle.bench_io.proofs.Writing.{goes_on, stops_in}
use Rattle.trace_print.specs.declared.items.TraceItem.TheVariants.{End}
use Rattle.trace_print.specs.Lines.{line_of}
use Rattle.capsule.specs.Releases.{release_tick, text_of_items}
use Rattle.capsule.proofs.Texts.{end_parts, last_releases, no_releases, run_parts}
use Rattle.chip_core.proofs.SilentTicks.{run_after, run_tick}
use Rattle.capsule.proofs.releases.write_releases.Goals as goal

pub returns-in-Err-clause-front : goal.returns-in-Err-clause-front
returns-in-Err-clause-front g c =
    stops_in _ _ _ _ _ _ _ c.loop-tick.invariant.text (run_parts release_tick no_releases (line_of c.args.end End) c.args.end c.run-tick.result c.loop-tick.tick c.args.bench.now c.args.chip.now c.loop-tick.chip (text_of_items (c.loop-tick.tick + c.run-tick.result - 1) c.run-tick.new.self.bus.memory c.as_slice.result.now) c.run-tick.ensures.some (omega (arith, c.run-tick.ensures.within, c.loop-tick.invariant.same_tick)) c.loop-tick.invariant.same_chip c.run-tick.ensures.silent (last_releases c.run-tick.result (c.loop-tick.tick + c.run-tick.result - 1) c.args.bench.now c.loop-tick.chip c.run-tick.new.self c.as_slice.result.now c.run-tick.ensures.some c.run-tick.ensures.chip (c.as_slice.ensures.value ∙ c.run-tick.ensures.items))) c.in-Err.ensures.front

pub loop-tick-preserved : goal.loop-tick-preserved
loop-tick-preserved g c = record {
  text = goes_on _ _ _ _ _ _ _ c.loop-tick.invariant.text (run_parts release_tick no_releases (line_of c.args.end End) c.args.end c.run-tick.result c.loop-tick.tick c.args.bench.now c.args.chip.now c.loop-tick.chip (text_of_items (c.loop-tick.tick + c.run-tick.result - 1) c.run-tick.new.self.bus.memory c.as_slice.result.now) c.run-tick.ensures.some (omega (arith, c.run-tick.ensures.within, c.loop-tick.invariant.same_tick)) c.loop-tick.invariant.same_chip c.run-tick.ensures.silent (last_releases c.run-tick.result (c.loop-tick.tick + c.run-tick.result - 1) c.args.bench.now c.loop-tick.chip c.run-tick.new.self c.as_slice.result.now c.run-tick.ensures.some c.run-tick.ensures.chip (c.as_slice.ensures.value ∙ c.run-tick.ensures.items))) c.in-Ok.ensures.whole;
  uncounted = c.in-Ok.ensures.uncounted ∙ c.loop-tick.invariant.uncounted;
  same_chip = run_after c.run-tick.result c.loop-tick.tick c.args.bench.now c.args.chip.now c.loop-tick.chip c.run-tick.new.self c.loop-tick.invariant.same_chip c.run-tick.ensures.chip;
  same_tick = ap (λ chip. chip.tick) c.run-tick.ensures.chip ∙ run_tick c.run-tick.result c.args.bench.now c.loop-tick.chip ∙ ap (λ n. n + c.run-tick.result) c.loop-tick.invariant.same_tick;
  within = omega (arith, c.run-tick.ensures.within, c.loop-tick.invariant.same_tick);
}

pub returns-clause-front : goal.returns-clause-front
returns-clause-front g c =
    on_err_weaker c.put_line.result (λ front. stops_in _ _ _ _ _ _ _ c.loop-tick.invariant.text (end_parts release_tick (line_of c.args.end End) c.args.end c.loop-tick.tick c.args.bench.now c.args.chip.now (omega arith)) front) c.put_line.ensures.front
