-- The verdict's line comes last, whether the images decide or their runs.
use Rattle.std.proofs.Common.{◌∙◌, ap, refl, inl, inr}
use Rattle.trace_print.specs.Verdicts.{verdict_line_of}
use Rattle.stage_laws.specs.TwoRuns.{first_of}
use Rattle.capsule.proofs.Comparing.{front_of_verdict, none_written, runs_decide, runs_written}
use Rattle.capsule.proofs.comparisons.put_comparison.Goals as goal
use Rattle.capsule.proofs.comparisons.put_comparison.Goals.{in-Some, in-None+in-Ok}

pub returns-in-Err-put_all-clause-front : goal.returns-in-Err-put_all-clause-front
returns-in-Err-put_all-clause-front g c = elim c.match-compare_images.branch [
  | in-Some w ↦
      front_of_verdict c.args.bench.now c.args.one.now c.args.other.now w.in-Some.verdict _ _ _ c.as_slice.result.now (inl w.in-Some.ensures.differ)
      (ap g.K.Sink.written w.out-is ∙ none_written c.args.bench.now c.args.one.now c.args.other.now w.in-Some.verdict (first_of c.args.bench.now c.args.one.now) _ w.in-Some.ensures.differ)
      (c.as_slice.ensures.value ∙ c.verdict_line.ensures.line ∙ ap verdict_line_of w.verdict-is) c.in-Err-put_all.ensures.front
  | in-None+in-Ok w ↦
      front_of_verdict c.args.bench.now c.args.one.now c.args.other.now w.in-Ok.verdict _ _ _ c.as_slice.result.now
      (inr (runs_decide c.args.bench.now c.args.one.now c.args.other.now c.args.a.now c.args.b.now w.in-Ok.verdict c.requires.first_a c.requires.first_b (w.in-None.ensures.agree refl) w.in-Ok.ensures.due))
      (ap g.K.Sink.written w.out-is ∙ runs_written c.args.bench.now c.args.one.now c.args.a.now w.in-Ok.verdict _ _ c.requires.first_a w.in-Ok.ensures.lines)
      (c.as_slice.ensures.value ∙ c.verdict_line.ensures.line ∙ ap verdict_line_of w.verdict-is) c.in-Err-put_all.ensures.front
]
