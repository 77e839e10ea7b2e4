-- A run: the chip after so many ticks, and the ticks of which nothing is told.
use Rattle.std.specs.Prelude.{◌≡◌, ◌≢◌, ℕ, zero, suc, ◌<◌, ◌⊎◌, []}
use Rattle.stimulus.specs.Stimulus.{Stimulus}
use Rattle.chip_core.specs.Items.{items_of}
use Rattle.chip_core.specs.Lines.{lines_of}
use Rattle.chip_core.specs.State.{State}
use Rattle.chip_core.specs.Tick.{ticked}

-- the chip after this many ticks, from a first chip on
abbrev pub chip_after : ℕ → Stimulus → State → State
chip_after zero bench first = first
chip_after (suc n) bench first = ticked bench (chip_after n bench first)

-- the next tick of a chip has no line and no item
pub record IsSilent (bench : Stimulus) (chip : State) : Type 0 where
  pub lines : lines_of bench chip ≡ []
  pub items : items_of bench chip ≡ []

-- that is so of this many ticks, from a first chip on
abbrev pub AreSilent : ℕ → Stimulus → State → Type 0
AreSilent n bench first = (k : ℕ) → k < n → IsSilent bench (chip_after k bench first)

-- the next tick of a chip has a line or an item
abbrev pub IsTold : Stimulus → State → Type 0
IsTold bench chip = (lines_of bench chip ≢ []) ⊎ (items_of bench chip ≢ [])
