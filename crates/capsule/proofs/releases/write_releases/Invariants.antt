use Rattle.std.proofs.Common.{◌≡◌, ◌≤◌, ◌-◌, ◌++◌}
use Rattle.bench_io.proofs.Writing.{IsWriting}
use Rattle.chip_core.specs.Run.{chip_after}
use Rattle.capsule.specs.Ticks.{text_of_run, text_of_ticks}
use Rattle.trace_print.specs.declared.items.TraceItem.TheVariants.{End}
use Rattle.trace_print.specs.Lines.{line_of}
use Rattle.capsule.specs.Releases.{release_tick}
use Rattle.capsule.proofs.releases.write_releases.Given as goal

-- the text of the ticks before this one is written
abbrev pub invariant-loop-tick : goal.invariant-loop-tick
invariant-loop-tick g l = record {
  text : IsWriting (g.K.Sink.written l.fn.out) (g.K.Sink.written l.out) (text_of_run release_tick l.end l.bench l.fn.chip) (text_of_ticks release_tick (l.end - l.tick) l.tick l.bench l.fn.chip ++ line_of l.end End);
  uncounted : g.K.Sink.faults l.out ≡ g.K.Sink.faults l.fn.out;
  same_chip : l.chip ≡ chip_after l.tick l.bench l.fn.chip;
  same_tick : (l.chip).tick ≡ l.tick;
  within : l.tick ≤ l.end;
}

abbrev pub decreases-loop-tick : goal.decreases-loop-tick
decreases-loop-tick g l = l.end - l.tick
