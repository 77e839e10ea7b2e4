-- What an operation gives, a result and flags, over the numbers below a span: 2^8, 2^16 or 2^20.
use Rattle.std.specs.Prelude.{ℕ, ◌+◌, ◌-◌, ◌*◌, ◌/◌, ◌%◌, ◌^◌, Bool, nat_le, ◌==◌, not, Option, Some, None}
use Rattle.chip_words.specs.Bits.{bit_of}
use Rattle.chip_words.specs.Registers.{C, Z, N, V}
use Rattle.cpux_decode.specs.Operands.{bits, sign_extended}
use Rattle.cpux_alu.specs.declared.effects.Flags.{Flags}
use Rattle.cpux_alu.specs.declared.effects.Effect.{Effect}

-- the highest bit of a number: in two's complement it is negative
abbrev pub is_negative : ℕ → ℕ → Bool
is_negative span x = nat_le (span / 2) x

-- each bit of a number turned
abbrev pub complement : ℕ → ℕ → ℕ
complement span x = span - 1 - x

-- the lowest byte as a signed number
abbrev pub extended_byte : ℕ → ℕ → ℕ
extended_byte span x = sign_extended 0x100 span (x % 0x100)

-- a result with its flags: Z says that it is 0, and N is its highest bit
abbrev pub with_flags : ℕ → ℕ → Bool → Bool → Effect
with_flags span value carry overflow = record {
  value = value;
  flags = Some (record { carry = carry; zero = (value == 0); negative = is_negative span value; overflow = overflow });
}

-- the result of a logical operation: C is the opposite of Z
abbrev pub with_logic_flags : ℕ → ℕ → Bool → Effect
with_logic_flags span value overflow = with_flags span value (not (value == 0)) overflow

-- a result of an operation that leaves the flags
abbrev pub without_flags : ℕ → Effect
without_flags value = record { value = value; flags = None }

-- the flags at their places in the status register (SLAU367, chapter CPUX)
abbrev pub flag_bits : Flags → ℕ
flag_bits f =
    2 ^ C * bit_of f.carry + 2 ^ Z * bit_of f.zero + 2 ^ N * bit_of f.negative + 2 ^ V * bit_of f.overflow

-- the bits of the status register that are no flags, 15:9 and 7:3
abbrev pub other_bits : ℕ → ℕ
other_bits sr = bits sr 15 9 * 0x200 + bits sr 7 3 * 8

-- the status register after an operation
abbrev pub status_after : ℕ → Option Flags → ℕ
status_after sr None = sr
status_after sr (Some f) = other_bits sr + flag_bits f
