-- Results and flags of the operations, as a table (SLAU367, chapter CPUX). That V is 0 after the shifts is this
-- project's own profile.
use Rattle.std.specs.Prelude.{ℕ, ◌+◌, ◌*◌, ◌/◌, ◌%◌, Bool, true, false, ◌&&◌, bit_and, bit_or, bit_xor}
use Rattle.chip_words.specs.declared.sizes.Size.{Size}
use Rattle.chip_words.specs.declared.sizes.Size.TheVariants.{Addr}
use Rattle.chip_words.specs.Bits.{has_bit}
use Rattle.chip_words.specs.Decimals.{digits_of}
use Rattle.chip_words.specs.Registers.{C}
use Rattle.chip_words.specs.Sizes.{span}
use Rattle.cpux_decode.specs.declared.operations.Op1.{Op1}
use Rattle.cpux_decode.specs.declared.operations.Op1.TheVariants as one
use Rattle.cpux_decode.specs.declared.operations.Op2.{Op2}
use Rattle.cpux_decode.specs.declared.operations.Op2.TheVariants.{Mov, Add, Addc, Subc, Sub, Cmp, Dadd, Bit, Bic, Bis, Xor, And}
use Rattle.cpux_decode.specs.declared.operations.OpA.{OpA}
use Rattle.cpux_decode.specs.declared.operations.OpA.TheVariants as address
use Rattle.cpux_decode.specs.declared.operations.OpS.{OpS}
use Rattle.cpux_decode.specs.declared.operations.OpS.TheVariants as shift
use Rattle.cpux_alu.specs.declared.effects.Effect.{Effect}
use Rattle.cpux_alu.specs.Effects.{is_negative, complement, extended_byte, with_logic_flags, without_flags, status_after}
use Rattle.cpux_alu.specs.Sums.{sum_effect, decimal_effect}
use Rattle.cpux_alu.specs.Shifts.{with_carry, shift_once, shift_places, shift_effect}

-- the operations of two operands below the span of a width, with the carry of the status register
unfoldable pub two_effect : Op2 → Size → ℕ → ℕ → Bool → Effect
two_effect Mov size src dst carry = without_flags src
two_effect Add size src dst carry = sum_effect (span size) dst src false
two_effect Addc size src dst carry = sum_effect (span size) dst src carry
two_effect Subc size src dst carry = sum_effect (span size) dst (complement (span size) src) carry
two_effect Sub size src dst carry = sum_effect (span size) dst (complement (span size) src) true
two_effect Cmp size src dst carry = sum_effect (span size) dst (complement (span size) src) true
two_effect Dadd size src dst carry = decimal_effect (span size) (digits_of size) dst src carry
two_effect Bit size src dst carry = with_logic_flags (span size) (bit_and dst src) false
two_effect Bic size src dst carry = without_flags (bit_and dst (complement (span size) src))
two_effect Bis size src dst carry = without_flags (bit_or dst src)
two_effect Xor size src dst carry =
    with_logic_flags (span size) (bit_xor dst src) (is_negative (span size) dst && is_negative (span size) src)
two_effect And size src dst carry = with_logic_flags (span size) (bit_and dst src) false

abbrev pub two_at : Op2 → Size → ℕ → ℕ → ℕ → Effect
two_at op size src dst sr = two_effect op size (src % span size) (dst % span size) (has_bit sr C)

-- the result at a width, and the status register after it
unfoldable pub two_value : Op2 → Size → ℕ → ℕ → ℕ → ℕ
two_value op size src dst sr = (two_at op size src dst sr).value

unfoldable pub two_status : Op2 → Size → ℕ → ℕ → ℕ → ℕ
two_status op size src dst sr = status_after sr (two_at op size src dst sr).flags

-- the operations of one operand that give a result
abbrev pub GivesResult : Op1 → Type 0
GivesResult one.Push = ⊥
GivesResult one.Call = ⊥
GivesResult op = Unit {0}

-- the two lower bytes change places
abbrev pub swapped_bytes : ℕ → ℕ
swapped_bytes x = x % 0x100 * 0x100 + x / 0x100 % 0x100

-- the operations of one operand below the span of a width. Those without a result leave it.
unfoldable pub one_effect : Op1 → ℕ → ℕ → Bool → Effect
one_effect one.Rrc span x carry = shift_effect span (shift_once shift.Rrc span (with_carry x carry))
one_effect one.Swpb span x carry = without_flags (swapped_bytes x % span)
one_effect one.Rra span x carry = shift_effect span (shift_once shift.Rra span (with_carry x carry))
one_effect one.Sxt span x carry = with_logic_flags span (extended_byte span x) false
one_effect one.Push span x carry = without_flags x
one_effect one.Call span x carry = without_flags x

abbrev pub one_at : Op1 → Size → ℕ → ℕ → Effect
one_at op size x sr = one_effect op (span size) (x % span size) (has_bit sr C)

unfoldable pub one_value : Op1 → Size → ℕ → ℕ → ℕ
one_value op size x sr = (one_at op size x sr).value

unfoldable pub one_status : Op1 → Size → ℕ → ℕ → ℕ
one_status op size x sr = status_after sr (one_at op size x sr).flags

-- the shifts by several places
abbrev pub shift_at : OpS → Size → ℕ → ℕ → ℕ → Effect
shift_at op size count x sr =
    shift_effect (span size) (shift_places op (span size) count (with_carry (x % span size) (has_bit sr C)))

unfoldable pub shift_value : OpS → Size → ℕ → ℕ → ℕ → ℕ
shift_value op size count x sr = (shift_at op size count x sr).value

unfoldable pub shift_status : OpS → Size → ℕ → ℕ → ℕ → ℕ
shift_status op size count x sr = status_after sr (shift_at op size count x sr).flags

-- CMPA, ADDA and SUBA do what CMP, ADD and SUB do at 20 bits
abbrev pub same_operation : OpA → Op2
same_operation address.Cmp = Cmp
same_operation address.Add = Add
same_operation address.Sub = Sub

unfoldable pub addr_value : OpA → ℕ → ℕ → ℕ → ℕ
addr_value op src dst sr = two_value (same_operation op) Addr src dst sr

unfoldable pub addr_status : OpA → ℕ → ℕ → ℕ → ℕ
addr_status op src dst sr = two_status (same_operation op) Addr src dst sr
