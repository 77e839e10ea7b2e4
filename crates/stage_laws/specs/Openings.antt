-- The intervals of the addresses that stay secret no longer: whoever has their bytes has all that is opened.
use Rattle.std.specs.Prelude.{◌≡◌, ◌<◌, ◌≤◌, ℕ, List, All, slice_index}
use Rattle.chip_words.specs.declared.seals.Seal.{Seal}
use Rattle.ip_encap.specs.declared.intervals.Interval.{Interval}
use Rattle.ip_encap.specs.Opened.{opened}
use Rattle.access_laws.specs.Boots.{AgreeWhereOpened}

-- two memories have equal bytes in an interval
abbrev pub AgreeIn : List ℕ → List ℕ → Interval → Type 0
AgreeIn one other interval =
    (at : ℕ) → interval.low ≤ at → at < interval.high → slice_index one at ≡ slice_index other at

-- where they have equal bytes in each interval that is opened, they have them wherever an address is
abbrev pub IntervalsTellAll : Type 0
IntervalsTellAll =
    (before after : Seal) (one other : List ℕ) →
    All (AgreeIn one other) (opened before after) → AgreeWhereOpened before after one other
