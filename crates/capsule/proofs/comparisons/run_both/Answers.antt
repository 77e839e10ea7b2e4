-- The items of both are compared before the lines of a tick are written.
use Rattle.std.proofs.Common.{◌≡◌, ◌∙◌, ◌+◌, ap, refl, arith}
use Rattle.chip_core.specs.Run.{chip_after}
use Rattle.stage_laws.specs.TwoRuns.{AgreeUntil}
use Rattle.capsule.specs.Trace.{text_of_lines, trace_tick}
use Rattle.capsule.proofs.Comparing.{agree_more, front_of_end, front_of_tick, lines_more}
use Rattle.chip_core.proofs.SilentTicks.{chip_after_more, next_tick}
use Rattle.capsule.proofs.comparisons.run_both.Goals as goal

pub returns-in-Err-clause-front : goal.returns-in-Err-clause-front
returns-in-Err-clause-front g c =
    let until : AgreeUntil c.args.bench.now c.args.a.now c.args.b.now (c.loop-n.n + 1) = agree_more c.args.bench.now c.args.a.now c.args.b.now c.loop-n.a c.loop-n.b c.tick.new.self c.tick-in-loop-n.new.self c.tick.new.items.items c.tick-in-loop-n.new.items.items c.loop-n.n c.loop-n.invariant.same_a c.loop-n.invariant.same_b c.tick.ensures.items c.tick-in-loop-n.ensures.items c.tick.ensures.chip c.tick-in-loop-n.ensures.chip c.loop-n.invariant.until (c.if-not-same_items.ensures.same.0 refl) in
    let lines : text_of_lines c.loop-n.n c.as_slice.result.now ≡ trace_tick c.args.bench.now c.loop-n.n (chip_after c.loop-n.n c.args.bench.now c.args.a.now) = ap (text_of_lines c.loop-n.n) (c.as_slice.ensures.value ∙ c.tick.ensures.lines) ∙ ap (trace_tick c.args.bench.now c.loop-n.n) c.loop-n.invariant.same_a in
    front_of_tick c.args.bench.now c.args.a.now c.args.b.now c.loop-n.n _ _ _ (text_of_lines c.loop-n.n c.as_slice.result.now) until (omega arith) c.loop-n.invariant.text lines c.in-Err.ensures.front

pub loop-n-preserved : goal.loop-n-preserved
loop-n-preserved g c =
    let lines : text_of_lines c.loop-n.n c.as_slice.result.now ≡ trace_tick c.args.bench.now c.loop-n.n c.loop-n.a = ap (text_of_lines c.loop-n.n) (c.as_slice.ensures.value ∙ c.tick.ensures.lines) in
    record {
      until = agree_more c.args.bench.now c.args.a.now c.args.b.now c.loop-n.a c.loop-n.b c.tick.new.self c.tick-in-loop-n.new.self c.tick.new.items.items c.tick-in-loop-n.new.items.items c.loop-n.n c.loop-n.invariant.same_a c.loop-n.invariant.same_b c.tick.ensures.items c.tick-in-loop-n.ensures.items c.tick.ensures.chip c.tick-in-loop-n.ensures.chip c.loop-n.invariant.until (c.if-not-same_items.ensures.same.0 refl);
      text = lines_more c.args.bench.now c.args.a.now c.loop-n.a c.loop-n.n _ _ _ (text_of_lines c.loop-n.n c.as_slice.result.now) c.loop-n.invariant.same_a c.loop-n.invariant.text lines c.in-Ok.ensures.whole;
      uncounted = c.in-Ok.ensures.uncounted ∙ c.loop-n.invariant.uncounted;
      same_a = chip_after_more c.loop-n.n c.args.bench.now c.args.a.now c.loop-n.a c.tick.new.self c.loop-n.invariant.same_a c.tick.ensures.chip;
      same_b = chip_after_more c.loop-n.n c.args.bench.now c.args.b.now c.loop-n.b c.tick-in-loop-n.new.self c.loop-n.invariant.same_b c.tick-in-loop-n.ensures.chip;
      tick_a = next_tick c.args.bench.now c.loop-n.a _ c.tick.ensures.chip ∙ ap (λ n. n + 1) c.loop-n.invariant.tick_a;
      tick_b = next_tick c.args.bench.now c.loop-n.b _ c.tick-in-loop-n.ensures.chip ∙ ap (λ n. n + 1) c.loop-n.invariant.tick_b;
    }

pub returns-in-Err-put_line-clause-front : goal.returns-in-Err-put_line-clause-front
returns-in-Err-put_line-clause-front g c =
    front_of_end c.args.bench.now c.args.a.now c.args.b.now c.loop-n.n c.end-end.result _ _ _ (omega (arith, c.end-end.ensures.end)) c.end-end.ensures.end c.loop-n.invariant.until c.loop-n.invariant.text c.in-Err-put_line.ensures.front
