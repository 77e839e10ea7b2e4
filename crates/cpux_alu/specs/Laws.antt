-- What sums and shifts mean as numbers: the flags tell where a result isn't the number that was asked for.
use Rattle.std.specs.Prelude.{◌≡◌, ℕ, zero, suc, ◌+◌, ◌*◌, ◌/◌, ◌%◌, ◌^◌, ◌<◌, pos, ◌+ℤ◌, ◌-ℤ◌, Bool, true, false, nat_le}
use Rattle.chip_words.specs.declared.sizes.Size.{Size}
use Rattle.chip_words.specs.Bits.{bit_of}
use Rattle.chip_words.specs.Decimals.{decimal_sum, decimal_carry}
use Rattle.chip_words.specs.Signed.{signed_value}
use Rattle.chip_words.specs.Sizes.{span}
use Rattle.cpux_decode.specs.declared.operations.OpS.TheVariants.{Rla, Rru}
use Rattle.cpux_alu.specs.Effects.{complement}
use Rattle.cpux_alu.specs.Sums.{leaves_range, overflows}
use Rattle.cpux_alu.specs.Shifts.{with_carry, shift_places}

-- without overflow a sum is the exact sum of the signed values and the carry
abbrev pub SignedSumIsExact : Type 0
SignedSumIsExact =
    (size : Size) (x y : ℕ) (carry : Bool) → x < span size → y < span size →
    overflows (span size) x y carry ≡ false →
    signed_value (span size) ((x + y + bit_of carry) % span size)
    ≡ (signed_value (span size) x +ℤ signed_value (span size) y) +ℤ pos (bit_of carry)

-- the sum with the complement and 1 is a difference: the carry says that there is no borrow, and the overflow that the
-- exact difference of the signed values leaves the range
pub record IsDifference (span x y : ℕ) : Type 0 where
  pub carry : nat_le span (x + complement span y + 1) ≡ nat_le y x
  pub overflow :
      overflows span x (complement span y) true
      ≡ leaves_range span (signed_value span x -ℤ signed_value span y)

abbrev pub ComplementSubtracts : Type 0
ComplementSubtracts = (size : Size) (x y : ℕ) → x < span size → y < span size → IsDifference (span size) x y

-- the number that this many decimal digits say
abbrev pub decimal_value : ℕ → ℕ → ℕ
decimal_value zero x = 0
decimal_value (suc n) x = x % 16 + 10 * decimal_value n (x / 16)

-- each of this many digits is one of the ten
abbrev pub IsDecimal : ℕ → ℕ → Type 0
IsDecimal zero x = Unit {0}
IsDecimal (suc n) x = (x % 16 < 10) × IsDecimal n (x / 16)

-- a decimal sum with its carry is the sum of the decimal numbers and the carry
abbrev pub DecimalSumIsExact : Type 0
DecimalSumIsExact =
    (digits x y : ℕ) (carry : Bool) → IsDecimal digits x → IsDecimal digits y →
    decimal_value digits (decimal_sum digits x y carry) + 10 ^ digits * bit_of (decimal_carry digits x y carry)
    ≡ decimal_value digits x + decimal_value digits y + bit_of carry

-- shifts by several places with 0 entering: to the left a product with a power of two, to the right a quotient
pub record IsScaled (span count x : ℕ) (carry : Bool) : Type 0 where
  pub left : (shift_places Rla span count (with_carry x carry)).value ≡ x * 2 ^ count % span
  pub right : (shift_places Rru span count (with_carry x carry)).value ≡ x / 2 ^ count

abbrev pub ShiftsScale : Type 0
ShiftsScale = (size : Size) (count x : ℕ) (carry : Bool) → x < span size → IsScaled (span size) count x carry
