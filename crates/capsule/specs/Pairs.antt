-- What is written of two runs: the lines of the ticks whose items agree, and then how the runs compare.
use Rattle.std.specs.Prelude.{ℕ, List, [], ◌++◌}
use Rattle.elf_image.specs.Image.{Segment}
use Rattle.stimulus.specs.Stimulus.{Stimulus}
use Rattle.trace_print.specs.declared.verdicts.Verdict.{Verdict}
use Rattle.trace_print.specs.declared.verdicts.Verdict.TheVariants.{Release, Same}
use Rattle.trace_print.specs.Verdicts.{verdict_line_of}
use Rattle.chip_core.specs.State.{State}
use Rattle.stage_laws.specs.TwoRuns.{first_of}
use Rattle.capsule.specs.Ticks.{text_of_ticks}
use Rattle.capsule.specs.Trace.{run_text, trace_tick}

-- the lines that stand before a verdict, by the run of a first chip: those of the ticks before the one in which the items
-- differ, or the whole trace with END; where the images differ there are none
abbrev pub lines_before : Verdict → Stimulus → State → List ℕ
lines_before (Release tick) bench first = text_of_ticks trace_tick tick 0 bench first
lines_before Same bench first = run_text bench.end bench first
lines_before verdict bench first = []

-- with the verdict behind them
abbrev pub pair_text : Verdict → Stimulus → List Segment → List ℕ
pair_text verdict bench image = lines_before verdict bench (first_of bench image) ++ verdict_line_of verdict
