-- One instruction as a script: its words are fetched and decoded, and it is done.
use Rattle.std.specs.Prelude.{ℕ, ◌+◌, ◌%◌, ◌==◌, Bool, true, false, if◌then◌else◌, List, [], ◌∷◌, slice_index}
use Rattle.chip_words.specs.declared.sizes.Size.TheVariants.{Word}
use Rattle.chip_words.specs.declared.accesses.Kind.TheVariants.{Fetch}
use Rattle.chip_words.specs.Registers.{PC, with_register}
use Rattle.chip_words.specs.Script.{Script, Return, Ask, and_then}
use Rattle.cpux_decode.specs.declared.instructions.Decoded.{Decoded}
use Rattle.cpux_decode.specs.Instructions.{decoded, is_extension, length_of}
use Rattle.cycle_table.specs.Cycles.{cycles_of}
use Rattle.cpux_execute.specs.declared.outcomes.Outcome.TheVariants.{Cycles}
use Rattle.cpux_execute.specs.Execution.{Stepped, executed}
use Rattle.cpux_extended.specs.Extended.{extended, is_long, is_short, repeats}

-- so many bytes behind an address
abbrev pub behind : ℕ → ℕ → ℕ
behind bytes at = (at + bytes) % 0x100000

-- the address behind the instruction word of an instruction at an address
abbrev pub behind_word : Decoded → ℕ → ℕ
behind_word d at = if is_long d then behind 4 at else behind 2 at

-- an instruction of the MSP430X with PC at the next address, and its cycles
unfoldable pub extended_step : Decoded → ℕ → List ℕ → Script Stepped
extended_step d pc registers =
    and_then (extended d pc registers) (λ after.
    Return (record { registers = after; outcome = Cycles (cycles_of d (repeats d registers) 0) }))

abbrev pub step_by : Bool → Decoded → ℕ → ℕ → List ℕ → Script Stepped
step_by true d at next registers = executed d at next registers
step_by false d at next registers = extended_step d (behind_word d at) (with_register registers PC next)

-- an instruction at an address whose words were fetched; `next` is the address behind them
unfoldable pub step_of_words : List ℕ → ℕ → ℕ → List ℕ → Script Stepped
step_of_words words at next registers = step_by (is_short (decoded words)) (decoded words) at next registers

-- one more word of the instruction at an address, so many bytes behind it
abbrev pub fetched : ℕ → ℕ → (ℕ → Script Stepped) → Script Stepped
fetched bytes at rest = Ask Fetch (behind bytes at) Word 0 rest

-- so many words, of which the first two were fetched; words that the instruction doesn't have count as 0
unfoldable pub of_two_words : ℕ → ℕ → ℕ → ℕ → List ℕ → Script Stepped
of_two_words count w0 w1 at registers =
    if count == 2 then step_of_words (w0 ∷ w1 ∷ 0 ∷ 0 ∷ []) at (behind 4 at) registers
    else if count == 3
    then fetched 4 at (λ w2. step_of_words (w0 ∷ w1 ∷ w2 ∷ 0 ∷ []) at (behind 6 at) registers)
    else fetched 4 at (λ w2.
    fetched 6 at (λ w3. step_of_words (w0 ∷ w1 ∷ w2 ∷ w3 ∷ []) at (behind 8 at) registers))

-- so many words, of which the first, which is no extension word, was fetched
unfoldable pub of_one_word : ℕ → ℕ → ℕ → List ℕ → Script Stepped
of_one_word count w0 at registers =
    if count == 1 then step_of_words (w0 ∷ 0 ∷ 0 ∷ 0 ∷ []) at (behind 2 at) registers
    else fetched 2 at (λ w1. of_two_words count w0 w1 at registers)

-- behind an extension word the instruction word tells how many there are
abbrev pub of_first_word : Bool → ℕ → ℕ → List ℕ → Script Stepped
of_first_word true w0 at registers = fetched 2 at (λ w1. of_two_words (length_of w0 w1) w0 w1 at registers)
of_first_word false w0 at registers = of_one_word (length_of w0 0) w0 at registers

-- the address of the instruction: it is the one at PC
abbrev pub instruction_address : List ℕ → ℕ
instruction_address registers = slice_index registers PC

unfoldable pub instruction : List ℕ → Script Stepped
instruction registers =
    let at = instruction_address registers in
    Ask Fetch at Word 0 (λ w0. of_first_word (is_extension w0) w0 at registers)
