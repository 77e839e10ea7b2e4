-- Addresses that are counted from a register (SLAU367, chapter CPUX, indexed mode).
use Rattle.std.specs.Prelude.{ℕ, ◌+◌, ◌%◌, nat_lt, if◌then◌else◌}
use Rattle.chip_words.specs.declared.sizes.Size.TheVariants.{Word, Addr}
use Rattle.chip_words.specs.Sizes.{span}
use Rattle.cpux_decode.specs.Operands.{sign_extended}

-- a register and an index word: in the lower 64 KB the sum stays there, and elsewhere the index is signed and the sum
-- is taken modulo 2^20
unfoldable pub near_address : ℕ → ℕ → ℕ
near_address r index =
    if nat_lt r 0x10000 then (r + index) % 0x10000
    else (r + sign_extended (span Word) (span Addr) index) % 0x100000
