-- An instruction whose words were fetched, as a script that ends in the registers it leaves and in how it ended.
use Rattle.std.specs.Prelude.{ℕ, false, List, slice_index}
use Rattle.chip_words.specs.declared.sizes.Size.{Size}
use Rattle.chip_words.specs.Registers.{PC, SR, with_register}
use Rattle.chip_words.specs.Sizes.{IsByteOrWord}
use Rattle.chip_words.specs.Script.{Script, Return, and_then}
use Rattle.cpux_decode.specs.declared.places.Place.{Place}
use Rattle.cpux_decode.specs.declared.operations.Op1.{Op1}
use Rattle.cpux_decode.specs.declared.operations.Op1.TheVariants.{Push, Call}
use Rattle.cpux_decode.specs.declared.instructions.Decoded.{Decoded}
use Rattle.cpux_decode.specs.declared.instructions.Decoded.TheVariants as made
use Rattle.cycle_table.specs.Cycles.{cycles_of}
use Rattle.cpux_execute.specs.declared.outcomes.Outcome.{Outcome}
use Rattle.cpux_execute.specs.declared.outcomes.Outcome.TheVariants.{Cycles, Reserved}
use Rattle.cpux_execute.specs.Operands.{above}
use Rattle.cpux_execute.specs.TwoOperands.{two_operands}
use Rattle.cpux_execute.specs.OneOperand.{changed, push, call, return_from_interrupt}
use Rattle.cpux_execute.specs.Jumps.{jumped}

-- the instructions of the MSP430, which have no extension word and operands of 8 or 16 bits; and the reserved
-- word, which does nothing
abbrev pub IsShort : Decoded → Type 0
IsShort made.Reserved = Unit {0}
IsShort made.Reti = Unit {0}
IsShort (made.Two op size from to rep false) = IsByteOrWord size
IsShort (made.One op size place rep false) = IsByteOrWord size
IsShort (made.Jump condition distance) = Unit {0}
IsShort d = ⊥

unfoldable pub one_operand : Op1 → Size → Place → ℕ → List ℕ → Script (List ℕ)
one_operand Push size place pc registers = push size place pc registers
one_operand Call size place pc registers = call place pc registers
one_operand op size place pc registers = changed op size place pc registers

-- PC stands at `pc` behind the instruction word, and at the next address in the registers
unfoldable pub performed : Decoded → ℕ → List ℕ → Script (List ℕ)
performed made.Reti pc registers = return_from_interrupt registers
performed (made.Two op size from to rep long) pc registers = two_operands op size from to pc registers
performed (made.One op size place rep long) pc registers = one_operand op size place pc registers
performed (made.Jump condition distance) pc registers =
    let next = slice_index registers PC in
    Return (with_register registers PC (jumped condition distance (slice_index registers SR) next))
performed d pc registers = Return registers

-- what an instruction leaves: the registers, and how it ended
pub record Stepped : Type 0 where
  pub registers : List ℕ
  pub outcome : Outcome

-- PC is set to `next`, the address behind the words, and the instruction at `ia` is performed. A reserved word does
-- nothing.
unfoldable pub executed : Decoded → ℕ → ℕ → List ℕ → Script Stepped
executed made.Reserved ia next registers = Return (record { registers = registers; outcome = Reserved })
executed d ia next registers =
    and_then (performed d (above ia) (with_register registers PC next)) (λ after.
    Return (record { registers = after; outcome = Cycles (cycles_of d 1 0) }))
