-- Two ticks give away the same: their items are equal, and where these open addresses, so are the bytes there.
use Rattle.std.specs.Prelude.{◌≡◌, ◌<◌, ◌≤◌, ℕ, List, All, slice_index}
use Rattle.trace_print.specs.declared.releases.Item.{Item}
use Rattle.trace_print.specs.declared.releases.Item.TheVariants.{Opened}

-- where an item opens addresses, two memories have equal bytes at them
abbrev pub OpensAlike : List ℕ → List ℕ → Item → Type 0
OpensAlike one other (Opened low high) =
    (at : ℕ) → low ≤ at → at < high → slice_index one at ≡ slice_index other at
OpensAlike one other item = Unit {0}

-- the items of two ticks, and the memories of the chips behind them
pub record AreSameItems (a b : List Item) (one other : List ℕ) : Type 0 where
  pub items : a ≡ b
  pub bytes : All (OpensAlike one other) a
