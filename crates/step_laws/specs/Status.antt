-- What an instruction changes of SR (SLAU367, chapter CPUX, status register).
use Rattle.std.specs.Prelude.{◌≡◌, ℕ, zero, suc, ◌+◌, ◌%◌, Bool, true, false, ◌==◌, ◌&&◌, ◌||◌, List, [], slice_index}
use Rattle.chip_words.specs.Registers.{GIE, SCG1, SR}
use Rattle.chip_words.specs.Script.{Script, Return, Ask}
use Rattle.cpux_decode.specs.declared.places.Place.{Place}
use Rattle.cpux_decode.specs.declared.places.Place.TheVariants.{AtPlus}
use Rattle.cpux_decode.specs.declared.operations.Op1.{Op1}
use Rattle.cpux_decode.specs.declared.operations.Op1.TheVariants.{Push, Call}
use Rattle.cpux_decode.specs.declared.instructions.Decoded.{Decoded}
use Rattle.cpux_decode.specs.declared.instructions.Decoded.TheVariants as made
use Rattle.cpux_decode.specs.Instructions.{decoded}
use Rattle.cpux_decode.specs.Operands.{bits}
use Rattle.cpux_decode.specs.Operations.{writes_destination}
use Rattle.cpux_execute.specs.Operands.{is_status}
use Rattle.cpux_execute.specs.Execution.{Stepped}
use Rattle.cpux_extended.specs.AddressInstructions.{writes_result}
use Rattle.cpux_extended.specs.Instruction.{instruction}
use Rattle.step_laws.specs.Fetches.{BehindFetches, four_words}

-- this holds of what a script ends in, whatever its accesses are answered
abbrev pub Ends : {A : Type 0} → (A → Type 0) → Script A → Type 0
Ends Holds (Return value) = Holds value
Ends Holds (Ask kind at size value rest) = (answer : ℕ) → Ends Holds (rest answer)

-- the bits of SR that are no flags: GIE, CPUOFF, OSCOFF, SCG0 and SCG1, which stand side by side
abbrev pub mode_bits : ℕ → ℕ
mode_bits sr = bits sr SCG1 GIE

-- these registers have the bits of SR that are no flags as those before them
abbrev pub SameModeBits : List ℕ → List ℕ → Type 0
SameModeBits before after = mode_bits (slice_index after SR) ≡ mode_bits (slice_index before SR)

-- @R2+
abbrev pub steps_status : Place → Bool
steps_status (AtPlus r) = r == SR
steps_status place = false

-- all operations of one operand but PUSH and CALL write it
abbrev pub writes_operand : Op1 → Bool
writes_operand Push = false
writes_operand Call = false
writes_operand op = true

-- SR is among so many registers, from number r up and modulo 16
abbrev pub pops_status : ℕ → ℕ → Bool
pops_status zero r = false
pops_status (suc count) r = (r == SR) || pops_status count ((r + 1) % 16)

-- an instruction that writes SR as a register: RETI, one with SR as its destination, one that steps it, or a POPM of it
unfoldable pub writes_status : Decoded → Bool
writes_status made.Reti = true
writes_status (made.Two op size from to rep long) = steps_status from || (is_status to && writes_destination op)
writes_status (made.One op size place rep long) = steps_status place || (is_status place && writes_operand op)
writes_status (made.Move from to) = steps_status from || is_status to
writes_status (made.Addr op from to) = steps_status from || ((to == SR) && writes_result op)
writes_status (made.Shift op size count r) = r == SR
writes_status (made.PopMany size count r) = pops_status count r
writes_status (made.CallA to) = steps_status to
writes_status d = false

-- where these words don't write SR, what follows them ends with its other bits as they were
abbrev pub KeepsModeBits : List ℕ → List ℕ → Script Stepped → Type 0
KeepsModeBits registers words rest =
    writes_status (decoded (four_words words)) ≡ false →
    Ends (λ stepped. SameModeBits registers stepped.registers) rest

-- every other instruction changes of SR the flags alone
abbrev pub FlagsAloneChange : Type 0
FlagsAloneChange = (registers : List ℕ) → BehindFetches (KeepsModeBits registers) [] (instruction registers)
