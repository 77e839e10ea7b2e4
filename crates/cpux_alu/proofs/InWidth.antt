-- Bitwise operations stay within a width.
use Rattle.std.proofs.Common.{ℕ, ◌<◌}
use Rattle.std.specs.Int.Bits.{bit_or, bit_xor}
use Rattle.std.proofs.lemmas.Nat.{or_lt, xor_lt}
use Rattle.chip_words.specs.declared.sizes.Size.{Size}
use Rattle.chip_words.specs.declared.sizes.Size.TheVariants.{Byte, Word, Addr}
use Rattle.chip_words.specs.Sizes.{span}

pub or_in_width : (size : Size) (a b : ℕ) → a < span size → b < span size → bit_or a b < span size
or_in_width Byte a b h k = or_lt 8 a b h k
or_in_width Word a b h k = or_lt 16 a b h k
or_in_width Addr a b h k = or_lt 20 a b h k

pub xor_in_width : (size : Size) (a b : ℕ) → a < span size → b < span size → bit_xor a b < span size
xor_in_width Byte a b h k = xor_lt 8 a b h k
xor_in_width Word a b h k = xor_lt 16 a b h k
xor_in_width Addr a b h k = xor_lt 20 a b h k
