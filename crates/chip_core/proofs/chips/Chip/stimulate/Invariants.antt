use Rattle.std.proofs.Common.{◌≡◌, ◌+◌, ◌≤◌, ◌++◌, drop}
use Rattle.std.specs.Prelude.{All}
use Rattle.trace_print.specs.Lines.{IsPrintable}
use Rattle.arrayvec.specs.ArrayVec.{array_vec_len}
use Rattle.chip_core.specs.Lines.{events_lines}
use Rattle.chip_core.specs.Tick.{after_events}
use Rattle.chip_core.proofs.chips.Chip.stimulate.Given as goal

-- the events from this one on are left to do, and their lines are left to add
abbrev pub invariant-loop-event : goal.invariant-loop-event
invariant-loop-event l = record {
  chip : after_events (drop l.event-index l.events) l.self ≡ after_events l.events l.fn.self;
  lines :
      (l.lines).items ++ events_lines (drop l.event-index l.events) l.self
      ≡ (l.fn.lines).items ++ events_lines l.events l.fn.self;
  count : array_vec_len l.lines ≤ array_vec_len l.fn.lines + l.event-index;
  printable : All IsPrintable (l.lines).items;
}
