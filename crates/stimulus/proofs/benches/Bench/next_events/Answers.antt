use Rattle.std.proofs.lemmas.List.Elements.{All-filter}
use Rattle.stimulus.specs.Events.{IsEvent, on_tick}
use Rattle.stimulus.proofs.benches.Bench.next_events.Goals as goal

pub returns-clause-in_range : goal.returns-clause-in_range
unfolding on_tick
returns-clause-in_range c = rw (c.events_on_tick.ensures, c.deref.ensures.value) (All-filter _ IsEvent c.self.inside.events.items c.self.invariant.in_range)
