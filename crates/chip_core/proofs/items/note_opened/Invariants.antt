use Rattle.std.proofs.Common.{◌≡◌, ◌+◌, ◌≤◌, ◌++◌, drop, map}
use Rattle.std.specs.Prelude.{All}
use Rattle.arrayvec.specs.ArrayVec.{array_vec_len}
use Rattle.chip_core.specs.Items.{IsItem, opened_item}
use Rattle.chip_core.proofs.items.note_opened.Given as goal

-- the intervals from this one on are left to add
abbrev pub invariant-loop-interval : goal.invariant-loop-interval
invariant-loop-interval l = record {
  items :
      (l.items).items ++ map opened_item (drop l.interval-index l.intervals)
      ≡ (l.fn.items).items ++ map opened_item l.intervals;
  count : array_vec_len l.items ≤ array_vec_len l.fn.items + l.interval-index;
  given : All IsItem (l.items).items;
}
