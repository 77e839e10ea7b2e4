-- An instruction of the MSP430X whose words were fetched, as a script that ends in the registers it leaves.
use Rattle.std.specs.Prelude.{ℕ, Bool, true, false, not, if◌then◌else◌, List}
use Rattle.chip_words.specs.declared.sizes.Size.{Size}
use Rattle.chip_words.specs.declared.sizes.Size.TheVariants.{Addr}
use Rattle.chip_words.specs.Script.{Script, Return}
use Rattle.cpux_decode.specs.declared.places.Place.{Place}
use Rattle.cpux_decode.specs.declared.places.Place.TheVariants.{Reg}
use Rattle.cpux_decode.specs.declared.operations.Op1.{Op1}
use Rattle.cpux_decode.specs.declared.operations.Op1.TheVariants.{Push, Call}
use Rattle.cpux_decode.specs.declared.operations.Op2.{Op2}
use Rattle.cpux_decode.specs.declared.instructions.Rep.{Rep}
use Rattle.cpux_decode.specs.declared.instructions.Decoded.{Decoded}
use Rattle.cpux_decode.specs.declared.instructions.Decoded.TheVariants as made
use Rattle.cpux_decode.specs.Places.{is_register_source}
use Rattle.cpux_execute.specs.Execution.{one_operand}
use Rattle.cpux_execute.specs.TwoOperands.{two_operands}
use Rattle.cpux_extended.specs.RegisterForm.{count_of, one_repeated, two_repeated}
use Rattle.cpux_extended.specs.AddressInstructions.{addressed, moved, shifted}
use Rattle.cpux_extended.specs.Stack.{called, popped_many, pushed_many}

-- two operands: the register form is repeated, and every other form is as without an extension word
unfoldable pub extended_two : Op2 → Size → Place → Place → Rep → ℕ → List ℕ → Script (List ℕ)
extended_two op size from (Reg to) rep pc registers =
    if is_register_source from
    then Return (two_repeated op size from to rep pc registers)
    else two_operands op size from (Reg to) pc registers
extended_two op size from to rep pc registers = two_operands op size from to pc registers

-- one operand: the same, but PUSH is never repeated
unfoldable pub extended_one : Op1 → Size → Place → Rep → ℕ → List ℕ → Script (List ℕ)
extended_one Push size place rep pc registers = one_operand Push size place pc registers
extended_one Call size place rep pc registers = one_operand Call size place pc registers
extended_one op size (Reg r) rep pc registers = Return (one_repeated op size r rep registers)
extended_one op size place rep pc registers = one_operand op size place pc registers

-- PC stands at `pc` behind the instruction word, and at the next address in the registers
unfoldable pub extended : Decoded → ℕ → List ℕ → Script (List ℕ)
extended (made.Two op size from to rep long) pc registers = extended_two op size from to rep pc registers
extended (made.One op size place rep long) pc registers = extended_one op size place rep pc registers
extended (made.Move from to) pc registers = moved from to pc registers
extended (made.Addr op from to) pc registers = addressed op from to pc registers
extended (made.Shift op size count r) pc registers = Return (shifted op size count r registers)
extended (made.PushMany size count r) pc registers = pushed_many size count r registers
extended (made.PopMany size count r) pc registers = popped_many size count r registers
extended (made.CallA to) pc registers = called to pc registers
extended d pc registers = Return registers

abbrev pub is_short_width : Bool → Size → Bool
is_short_width long Addr = false
is_short_width long size = not long

-- the instructions of the MSP430, and the reserved words
unfoldable pub is_short : Decoded → Bool
is_short made.Reserved = true
is_short made.Reti = true
is_short (made.Two op size from to rep long) = is_short_width long size
is_short (made.One op size place rep long) = is_short_width long size
is_short (made.Jump condition distance) = true
is_short d = false

-- an extension word stands before the instruction word
unfoldable pub is_long : Decoded → Bool
is_long (made.Two op size from to rep long) = long
is_long (made.One op size place rep long) = long
is_long d = false

-- how many times it is done
unfoldable pub repeats : Decoded → List ℕ → ℕ
repeats (made.Two op size from to rep long) registers = count_of rep.count registers
repeats (made.One op size place rep long) registers = count_of rep.count registers
repeats d registers = 1
