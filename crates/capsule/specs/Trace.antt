-- The trace of a run: the lines of each tick, and END.
use Rattle.std.specs.Prelude.{ℕ, List, []}
use Rattle.std.specs.List.{flat_map}
use Rattle.trace_print.specs.declared.items.TraceItem.{TraceItem}
use Rattle.trace_print.specs.Lines.{line_of}
use Rattle.elf_image.specs.Image.{Segment}
use Rattle.stimulus.specs.Stimulus.{Stimulus}
use Rattle.chip_core.specs.State.{State}
use Rattle.chip_core.specs.FirstState.{first_state}
unfoldable use Rattle.chip_core.specs.Lines.{lines_of}
use Rattle.capsule.specs.Ticks.{text_of_run}

-- the bench of a run that names none
abbrev pub plain_bench : Stimulus
plain_bench = record { end = 1000; fill = 0; events = []; cuts = [] }

-- the text of the lines of one tick
abbrev pub text_of_lines : ℕ → List TraceItem → List ℕ
text_of_lines tick items = flat_map (line_of tick) items

-- what a tick adds to a trace, by the chip that it finds
abbrev pub trace_tick : Stimulus → ℕ → State → List ℕ
trace_tick bench tick chip = text_of_lines tick (lines_of bench chip)

-- the text of a run of so many ticks from a first chip on
abbrev pub run_text : ℕ → Stimulus → State → List ℕ
run_text end bench first = text_of_run trace_tick end bench first

-- the text of an image's run under a bench
unfoldable pub trace_of : Stimulus → List Segment → List ℕ
trace_of bench image = run_text bench.end bench (first_state image bench.fill)
