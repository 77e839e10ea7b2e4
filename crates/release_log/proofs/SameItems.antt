-- What the comparison of items tells.
use Rattle.std.proofs.Common.{◌≡◌, Bool, List, rules}
use Rattle.std.specs.Bool.{Decides}
use Rattle.std.specs.Cmp.Lexicographic.{pointwise}
use Rattle.std.proofs.lemmas.Slice.Eq.{slice_eq-Decides}
use Rattle.trace_print.specs.declared.releases.Item.{Item}
use Rattle.trace_print.specs.contracts.releases.ItemPartialEq.TheImpl as derived

item_eq-Decides : (a b : Item) → Decides ((derived.ghosts).eq a b) (a ≡ b)
item_eq-Decides a b = (search rules, search rules)

-- two lists of items are equal where their comparison says so
pub items_decided : (a b : List Item) (equal : Bool) → equal ≡ pointwise (derived.ghosts).eq a b → Decides equal (a ≡ b)
items_decided = slice_eq-Decides item_eq-Decides
