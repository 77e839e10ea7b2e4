-- What kind of place an operand has.
use Rattle.std.specs.Prelude.{Bool, true, false, ◌==◌}
use Rattle.chip_words.specs.Registers.{PC}
use Rattle.cpux_decode.specs.declared.places.Place.{Place}
use Rattle.cpux_decode.specs.declared.places.Place.TheVariants.{Reg, Const, Near, Far, Absolute, At, AtPlus}

-- it lies in memory: an immediate is a word of the instruction, and no operand in memory
unfoldable pub is_memory : Place → Bool
is_memory (Near r index) = true
is_memory (Far r index) = true
is_memory (Absolute at) = true
is_memory (At r) = true
is_memory (AtPlus r) = true
is_memory place = false

unfoldable pub is_pc : Place → Bool
is_pc (Reg r) = r == PC
is_pc place = false

unfoldable pub is_register : Place → Bool
is_register (Reg r) = true
is_register place = false

-- as a source, R3 with the constant 0 is a register too
unfoldable pub is_register_source : Place → Bool
is_register_source (Reg r) = true
is_register_source (Const value) = value == 0
is_register_source place = false
