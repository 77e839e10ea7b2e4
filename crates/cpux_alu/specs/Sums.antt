-- Sums of two numbers and a carry at a span, with carry and overflow, and decimal sums.
use Rattle.std.specs.Prelude.{ℕ, ◌+◌, ◌/◌, ◌%◌, ℤ, pos, negsuc, ◌+ℤ◌, Bool, false, nat_le}
use Rattle.chip_words.specs.Bits.{bit_of}
use Rattle.chip_words.specs.Signed.{signed_value}
use Rattle.chip_words.specs.Decimals.{decimal_sum, decimal_carry}
use Rattle.cpux_alu.specs.declared.effects.Effect.{Effect}
use Rattle.cpux_alu.specs.Effects.{with_flags}

-- a whole number that two's complement can't say: below -span / 2, or at least span / 2
abbrev pub leaves_range : ℕ → ℤ → Bool
leaves_range span (pos n) = nat_le (span / 2) n
leaves_range span (negsuc n) = nat_le (span / 2) n

-- the exact sum of two signed values and a carry leaves the range
abbrev pub overflows : ℕ → ℕ → ℕ → Bool → Bool
overflows span x y carry = leaves_range span ((signed_value span x +ℤ signed_value span y) +ℤ pos (bit_of carry))

-- the sum of two numbers and a carry, its carry out and its overflow
abbrev pub sum_effect : ℕ → ℕ → ℕ → Bool → Effect
sum_effect span x y carry =
    with_flags span ((x + y + bit_of carry) % span) (nat_le span (x + y + bit_of carry)) (overflows span x y carry)

-- the decimal sum of two numbers and a carry, its decimal carry, and V 0
abbrev pub decimal_effect : ℕ → ℕ → ℕ → ℕ → Bool → Effect
decimal_effect span digits x y carry =
    with_flags span (decimal_sum digits x y carry) (decimal_carry digits x y carry) false
