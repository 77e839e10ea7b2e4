use Rattle.std.proofs.Common.{◌≡◌, ◌+◌, ◌≤◌, ◌++◌, drop}
use Rattle.std.specs.Prelude.{All}
use Rattle.arrayvec.specs.ArrayVec.{array_vec_len}
use Rattle.chip_core.specs.Items.{IsItem, access_items}
use Rattle.chip_core.proofs.items.note_accesses.Given as goal

-- the accesses from this one on are left to add
abbrev pub invariant-loop-access : goal.invariant-loop-access
invariant-loop-access l = record {
  items :
      (l.items).items ++ access_items l.seal (drop l.access-index l.accesses)
      ≡ (l.fn.items).items ++ access_items l.seal l.accesses;
  count : array_vec_len l.items ≤ array_vec_len l.fn.items + l.access-index;
  given : All IsItem (l.items).items;
}
