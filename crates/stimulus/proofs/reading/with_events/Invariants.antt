use Rattle.std.proofs.Common.{◌≡◌, ℕ, [], false, ◌<◌, map, take}
use Rattle.toml.specs.View.{view}
use Rattle.stimulus.specs.Events.{event_rules}
use Rattle.stimulus.specs.Rules.{breaks_rule, items_of}
use Rattle.stimulus.proofs.reading.with_events.Given as goal

abbrev pub invariant-loop-index : goal.invariant-loop-index
invariant-loop-index l = record {
  so_far : l.bench ≡ record { end = l.end; fill = l.fill; events = items_of (event_rules l.end) (take l.index (map view l.values)); cuts = [] };
  none_breaks : (k : ℕ) → k < l.index → breaks_rule (event_rules l.end) (map view l.values) k ≡ false;
}
