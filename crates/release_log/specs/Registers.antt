-- What an instruction and an entry leave of the registers.
use Rattle.std.specs.Prelude.{ℕ, List}
use Rattle.chip_words.specs.Registers.{AreRegisters}
use Rattle.chip_core.specs.Entry.{entry}
use Rattle.cpux_extended.specs.Instruction.{instruction}
use Rattle.step_laws.specs.Status.{Ends}

-- whatever an instruction's accesses are answered, it leaves 16 registers of 20 bits, of which PC is even, SR has nine
-- bits and R3 is 0, where they were so before it
abbrev pub InstructionsLeaveRegisters : Type 0
InstructionsLeaveRegisters =
    (registers : List ℕ) → AreRegisters registers →
    Ends (λ stepped. AreRegisters stepped.registers) (instruction registers)

-- and so does the entry by each vector
abbrev pub EntriesLeaveRegisters : Type 0
EntriesLeaveRegisters =
    (vector : ℕ) (registers : List ℕ) → AreRegisters registers → Ends AreRegisters (entry vector registers)
