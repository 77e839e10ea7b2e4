-- The accesses that a step's list may hold.
use Rattle.std.specs.Prelude.{◌≡◌, ◌<◌, Bool, true, false}
use Rattle.chip_words.specs.declared.accesses.Access.{Access}
use Rattle.chip_words.specs.declared.sizes.Size.{Size}
use Rattle.chip_words.specs.declared.sizes.Size.TheVariants.{Addr}
use Rattle.chip_words.specs.Sizes.{span}

-- the width of a byte or a word, in which 20 bits are two accesses
abbrev pub is_on_bus : Size → Bool
is_on_bus Addr = false
is_on_bus size = true

-- an address of 20 bits, such a width, and a value that fits it
abbrev pub IsListable : Access → Type 0
IsListable access = (access.at < 0x100000) × (is_on_bus access.size ≡ true) × (access.value < span access.size)
