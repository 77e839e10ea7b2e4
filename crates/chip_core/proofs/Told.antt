-- The lines of the events of a tick, of which those from a place on are left to tell.
use Rattle.std.proofs.Common.{◌≡◌, ◌∙◌, ℕ, ◌≤◌, List, ◌++◌, length, drop, sym}
use Rattle.std.proofs.lemmas.List.{append-nil, at_drop_all}
use Rattle.trace_print.specs.declared.items.TraceItem.{TraceItem}
use Rattle.stimulus.specs.declared.events.Event.{Event}
use Rattle.chip_core.specs.Lines.{events_lines}
use Rattle.chip_core.specs.State.{State}

-- behind the last event all are told
pub all_told :
    (lines before : List TraceItem) (n : ℕ) (events : List Event) (now old : State) → length events ≤ n →
    lines ++ events_lines (drop n events) now ≡ before ++ events_lines events old →
    lines ≡ before ++ events_lines events old
all_told lines before n events now old past told =
    sym (append-nil lines)
    ∙ sym (at_drop_all (λ rest. lines ++ events_lines rest now) events n past)
    ∙ told
