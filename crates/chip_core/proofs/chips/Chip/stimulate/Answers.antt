use Rattle.std.proofs.Common.{◌∙◌, ◌++◌, ap, arith}
use Rattle.stimulus.specs.Events.{on_tick}
use Rattle.chip_core.specs.Lines.{events_lines, stimulus_lines}
use Rattle.chip_core.proofs.Told.{all_told}
use Rattle.chip_core.proofs.chips.Chip.stimulate.Goals as goal

pub returns-clause-lines : goal.returns-clause-lines
unfolding stimulus_lines
returns-clause-lines c =
    all_told (c.loop-event.lines).items (c.args.lines.now).items c.loop-event.event-index c.next_events-events.result.now c.loop-event.self c.args.self.now (omega arith) c.loop-event.invariant.lines
    ∙ ap (λ events. (c.args.lines.now).items ++ events_lines events c.args.self.now)
    (c.next_events-events.ensures.events ∙ ap (λ chip. on_tick chip.tick (c.args.bench.now).events) c.self.view_is)
