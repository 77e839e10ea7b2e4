-- The cycles of two operands in the register form.
use Rattle.std.specs.Prelude.{◌≡◌, ◌≤◌, ℕ, ◌+◌, Bool, true, ◌==◌, ◌&&◌, if◌then◌else◌}
use Rattle.chip_words.specs.declared.sizes.Size.{Size}
use Rattle.chip_words.specs.Registers.{PC}
use Rattle.cpux_decode.specs.declared.places.Place.{Place}
use Rattle.cpux_decode.specs.declared.places.Place.TheVariants.{Reg}
use Rattle.cpux_decode.specs.declared.operations.Op2.{Op2}
use Rattle.cpux_decode.specs.declared.instructions.Rep.{Rep}
use Rattle.cpux_decode.specs.declared.instructions.Decoded.{Decoded}
use Rattle.cpux_decode.specs.declared.instructions.Decoded.TheVariants as made
use Rattle.cpux_decode.specs.Operations.{writes_destination}
use Rattle.cpux_decode.specs.Places.{is_register_source}
use Rattle.cycle_table.specs.Cycles.{cycles_of}

-- an operation on a register behind an extension word
abbrev pub on_register : Op2 → Size → Place → ℕ → Rep → Decoded
on_register op size from to rep = made.Two op size from (Reg to) rep true

-- its destination is PC, and it isn't CMP or BIT
abbrev pub writes_pc : Op2 → ℕ → Bool
writes_pc op to = (to == PC) && writes_destination op

-- where the source is a register too, or R3 with its constant 0, doing it n times takes 1 + n cycles, and 3 + n where it
-- writes PC
abbrev pub RepeatsTakeACycleEach : Type 0
RepeatsTakeACycleEach =
    (op : Op2) (size : Size) (from : Place) (to : ℕ) (rep : Rep) (n : ℕ) → is_register_source from ≡ true → 1 ≤ n →
    cycles_of (on_register op size from to rep) n 0 ≡ (if writes_pc op to then 3 + n else 1 + n)
