-- The text of a run, tick by tick.
use Rattle.std.specs.Prelude.{ℕ, zero, suc, List, [], ◌++◌}
use Rattle.trace_print.specs.declared.items.TraceItem.TheVariants.{End}
use Rattle.trace_print.specs.Lines.{line_of}
use Rattle.stimulus.specs.Stimulus.{Stimulus}
use Rattle.chip_core.specs.State.{State}
use Rattle.chip_core.specs.Run.{chip_after}

-- the text of so many more ticks of a run, from a tick on: what each adds by the bench, its number and the chip that it finds
abbrev pub text_of_ticks : (Stimulus → ℕ → State → List ℕ) → ℕ → ℕ → Stimulus → State → List ℕ
text_of_ticks tick_text zero tick bench first = []
text_of_ticks tick_text (suc n) tick bench first =
    tick_text bench tick (chip_after tick bench first) ++ text_of_ticks tick_text n (suc tick) bench first

-- the text of a run of so many ticks, and then END
abbrev pub text_of_run : (Stimulus → ℕ → State → List ℕ) → ℕ → Stimulus → State → List ℕ
text_of_run tick_text end bench first = text_of_ticks tick_text end 0 bench first ++ line_of end End
