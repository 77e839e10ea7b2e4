use Rattle.std.proofs.Common.{◌∙◌, ◌+◌, ◌-◌, ap, arith}
use Rattle.std.proofs.lemmas.Result.{on_err_weaker}
use Rattle.bench_io.proofs.Writing.{goes_on, stops_in}
use Rattle.trace_print.specs.declared.items.TraceItem.TheVariants.{End}
use Rattle.trace_print.specs.Lines.{line_of}
use Rattle.capsule.specs.Trace.{text_of_lines, trace_tick}
use Rattle.capsule.proofs.Texts.{end_parts, no_lines, run_parts}
use Rattle.chip_core.proofs.SilentTicks.{run_after, run_tick}
use Rattle.capsule.proofs.trace.write_trace.Goals as goal

pub returns-in-Err-clause-front : goal.returns-in-Err-clause-front
returns-in-Err-clause-front g c =
    stops_in _ _ _ _ _ _ _ c.loop-tick.invariant.text (run_parts trace_tick no_lines (line_of c.args.end End) c.args.end c.run-tick.result c.loop-tick.tick c.args.bench.now c.args.chip.now c.loop-tick.chip (text_of_lines (c.loop-tick.tick + c.run-tick.result - 1) c.as_slice.result.now) c.run-tick.ensures.some (omega (arith, c.run-tick.ensures.within, c.loop-tick.invariant.same_tick)) c.loop-tick.invariant.same_chip c.run-tick.ensures.silent (ap (text_of_lines (c.loop-tick.tick + c.run-tick.result - 1)) (c.as_slice.ensures.value ∙ c.run-tick.ensures.lines))) c.in-Err.ensures.front

pub loop-tick-preserved : goal.loop-tick-preserved
loop-tick-preserved g c = record {
  text = goes_on _ _ _ _ _ _ _ c.loop-tick.invariant.text (run_parts trace_tick no_lines (line_of c.args.end End) c.args.end c.run-tick.result c.loop-tick.tick c.args.bench.now c.args.chip.now c.loop-tick.chip (text_of_lines (c.loop-tick.tick + c.run-tick.result - 1) c.as_slice.result.now) c.run-tick.ensures.some (omega (arith, c.run-tick.ensures.within, c.loop-tick.invariant.same_tick)) c.loop-tick.invariant.same_chip c.run-tick.ensures.silent (ap (text_of_lines (c.loop-tick.tick + c.run-tick.result - 1)) (c.as_slice.ensures.value ∙ c.run-tick.ensures.lines))) c.in-Ok.ensures.whole;
  uncounted = c.in-Ok.ensures.uncounted ∙ c.loop-tick.invariant.uncounted;
  same_chip = run_after c.run-tick.result c.loop-tick.tick c.args.bench.now c.args.chip.now c.loop-tick.chip c.run-tick.new.self c.loop-tick.invariant.same_chip c.run-tick.ensures.chip;
  same_tick = ap (λ chip. chip.tick) c.run-tick.ensures.chip ∙ run_tick c.run-tick.result c.args.bench.now c.loop-tick.chip ∙ ap (λ n. n + c.run-tick.result) c.loop-tick.invariant.same_tick;
  within = omega (arith, c.run-tick.ensures.within, c.loop-tick.invariant.same_tick);
}

pub returns-clause-front : goal.returns-clause-front
returns-clause-front g c =
    on_err_weaker c.put_line.result (λ front. stops_in _ _ _ _ _ _ _ c.loop-tick.invariant.text (end_parts trace_tick (line_of c.args.end End) c.args.end c.loop-tick.tick c.args.bench.now c.args.chip.now (omega arith)) front) c.put_line.ensures.front
