-- The entry into an interrupt (SLAU367, SYS, interrupts).
use Rattle.std.specs.Prelude.{ℕ, ◌+◌, ◌*◌, ◌/◌, ◌%◌, ◌^◌, List, bit_and, slice_index}
use Rattle.chip_words.specs.declared.sizes.Size.TheVariants.{Word}
use Rattle.chip_words.specs.declared.accesses.Kind.TheVariants.{Read, Write}
use Rattle.chip_words.specs.Registers.{PC, SCG0, SP, SR, with_register}
use Rattle.chip_words.specs.Script.{Script, Return, Ask}
use Rattle.cpux_execute.specs.Operands.{before}

-- SR as it is written on the stack, with bits 19:16 of PC in its bits 15:12
abbrev pub status_on_stack : List ℕ → ℕ
status_on_stack registers = slice_index registers SR + slice_index registers PC / 0x10000 * 0x1000

-- SP behind two words
abbrev pub below_two : List ℕ → ℕ
below_two registers = before (before (slice_index registers SP))

-- in the interrupt SR keeps SCG0 alone, and PC is the word of the vector
abbrev pub in_interrupt : ℕ → List ℕ → List ℕ
in_interrupt word registers =
    with_register (with_register (with_register registers SP (below_two registers)) SR (bit_and (slice_index registers SR) (2 ^ SCG0))) PC word

-- bits 15:0 of PC, SR, and then the vector
unfoldable pub entry : ℕ → List ℕ → Script (List ℕ)
entry vector registers =
    Ask Write (before (slice_index registers SP)) Word (slice_index registers PC % 0x10000) (λ first.
    Ask Write (below_two registers) Word (status_on_stack registers) (λ second.
    Ask Read vector Word 0 (λ word.
    Return (in_interrupt word registers))))
