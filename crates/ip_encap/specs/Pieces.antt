-- What an interval with holes is in pieces.
use Rattle.std.specs.Prelude.{◌≡◌, ℕ, ◌<◌, ◌≤◌, ◌&&◌, ◌||◌, Bool, if◌then◌else◌, nat_le, nat_lt, List, [], ◌∷◌}
use Rattle.chip_words.specs.declared.seals.Seal.{Seal}
use Rattle.chip_words.specs.Seals.{is_never_sealed}
use Rattle.ip_encap.specs.declared.intervals.Interval.{Interval}

-- the interval from one address up to another, where that isn't empty
abbrev pub piece : ℕ → ℕ → List Interval
piece low high = if nat_lt low high then record { low = low; high = high } ∷ [] else []

-- an interval has an address
abbrev pub has : Interval → ℕ → Bool
has interval at = nat_le interval.low at && nat_lt at interval.high

-- an address lies between the ends of a seal
abbrev pub is_bounded : Seal → ℕ → Bool
is_bounded seal at = nat_le seal.low at && nat_lt at seal.high

-- two intervals, ascending, have between them what is never sealed and what lies between the ends of a seal
pub record AreHoles (seal : Seal) (first second : Interval) : Type 0 where
  pub first_has_some : first.low < first.high
  pub second_has_some : second.low < second.high
  pub ascending : first.low ≤ second.low
  pub addresses : (at : ℕ) → (has first at || has second at) ≡ (is_never_sealed at || is_bounded seal at)
