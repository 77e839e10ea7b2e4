-- Sets of addresses of main FRAM that are sealed.
use Rattle.std.specs.Prelude.{ℕ, ◌&&◌, not, nat_le, nat_lt, max, min, Bool, if◌then◌else◌}
use Rattle.chip_words.specs.declared.seals.Seal.{Seal}
use Rattle.chip_words.specs.Segments.{MAIN_FRAM}

-- no address at all
abbrev pub nowhere : Seal
nowhere = record { low = 0; high = 0 }

-- the address behind main FRAM
abbrev pub BEHIND_MAIN_FRAM : ℕ
BEHIND_MAIN_FRAM = 0x14000

-- the signatures and the interrupt vectors, which are never sealed: from the first address up to and with the last
abbrev pub SIGNATURES : ℕ
SIGNATURES = 0xFF80

abbrev pub LAST_VECTOR : ℕ
LAST_VECTOR = 0xFFFF

abbrev pub is_never_sealed : ℕ → Bool
is_never_sealed at = nat_le SIGNATURES at && nat_le at LAST_VECTOR

abbrev pub is_main_fram : ℕ → Bool
is_main_fram at = nat_le MAIN_FRAM at && nat_lt at BEHIND_MAIN_FRAM

-- a seal holds an address
unfoldable pub is_in : Seal → ℕ → Bool
is_in seal at = nat_le seal.low at && nat_lt at seal.high && is_main_fram at && not (is_never_sealed at)

-- some main FRAM lies between two addresses
abbrev pub holds_any : ℕ → ℕ → Bool
holds_any low high = nat_lt (max low MAIN_FRAM) (min high BEHIND_MAIN_FRAM)

-- main FRAM from one address up to and without another: it is cut to main FRAM, so that two seals that come from
-- registers, whose borders are multiples of 400h, are equal where they hold the same addresses
abbrev pub between : ℕ → ℕ → Seal
between low high = record {
  low = (if holds_any low high then max low MAIN_FRAM else 0);
  high = (if holds_any low high then min high BEHIND_MAIN_FRAM else 0);
}
