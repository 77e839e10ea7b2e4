use Rattle.std.proofs.Common.{◌≡◌}
use Rattle.bench_io.specs.Sinks.{appended}
use Rattle.chip_core.specs.Run.{chip_after}
use Rattle.stage_laws.specs.TwoRuns.{AgreeUntil}
use Rattle.capsule.specs.Ticks.{text_of_ticks}
use Rattle.capsule.specs.Trace.{trace_tick}
use Rattle.capsule.proofs.comparisons.run_both.Given as goal

-- the items of the ticks before this one agree, and their lines are written
abbrev pub invariant-loop-n : goal.invariant-loop-n
invariant-loop-n g l = record {
  until : AgreeUntil l.bench l.fn.a l.fn.b l.n;
  text : g.K.Sink.written l.out ≡ appended (g.K.Sink.written l.fn.out) (text_of_ticks trace_tick l.n 0 l.bench l.fn.a);
  uncounted : g.K.Sink.faults l.out ≡ g.K.Sink.faults l.fn.out;
  same_a : l.a ≡ chip_after l.n l.bench l.fn.a;
  same_b : l.b ≡ chip_after l.n l.bench l.fn.b;
  tick_a : (l.a).tick ≡ l.n;
  tick_b : (l.b).tick ≡ l.n;
}
