use Rattle.std.proofs.Common.{◌≡◌, ℕ, All, false, ◌<◌, length, map, take}
use Rattle.toml.specs.View.{view}
use Rattle.power_schedule.specs.Cuts.{AreOrdered}
use Rattle.stimulus.specs.Cuts.{IsCut, cut_rules}
use Rattle.stimulus.specs.Rules.{breaks_rule, items_of}
use Rattle.stimulus.proofs.cuts.schedule_in.Given as goal

abbrev pub invariant-loop-index : goal.invariant-loop-index
invariant-loop-index l = record {
  so_far : l.cuts.items ≡ items_of (cut_rules l.end) (take l.index (map view l.values));
  none_breaks : (k : ℕ) → k < l.index → breaks_rule (cut_rules l.end) (map view l.values) k ≡ false;
  count : length l.cuts.items ≡ l.index;
  in_range : All (IsCut l.end) l.cuts.items;
  in_order : AreOrdered l.cuts.items;
}
