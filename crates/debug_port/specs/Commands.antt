-- The commands of the debugger. That they are events of a bench is this project's own.
use Rattle.std.specs.Prelude.{◌≡◌, ℕ, zero, suc, ◌+◌, ◌%◌, ◌<◌, ◌≤◌, Bool, true, false, ◌&&◌, not, if◌then◌else◌, List, [], ◌∷◌, length, slice_index, Option, Some, None}
use Rattle.chip_words.specs.declared.sizes.Size.TheVariants.{Byte, Word}
use Rattle.chip_words.specs.declared.accesses.Agent.TheVariants as agent
use Rattle.chip_words.specs.declared.accesses.Kind.TheVariants as kind
use Rattle.chip_words.specs.BusPart.{BusPart}
use Rattle.chip_words.specs.Registers.{with_register}
use Rattle.chip_words.specs.Script.{Script, Return, Ask, Ran, run, and_then}
use Rattle.debug_port.specs.declared.commands.Command.{Command}
use Rattle.debug_port.specs.declared.commands.Command.TheVariants.{Read, Write, Dump, Reg, SetReg, Halt, Go, Reset, Erase}
use Rattle.debug_port.specs.declared.answers.Answer.{Answer}
use Rattle.debug_port.specs.declared.answers.Answer.TheVariants.{Value, Register, Bytes, Accepted, Closed, Booting, Running}
use Rattle.debug_port.specs.declared.states.Debug.{Debug}
use Rattle.debug_port.specs.declared.states.DebugView.{DebugView}
use Rattle.debug_port.specs.States.{halt_asked, gone_on, reset_asked, erase_asked}

-- the most bytes that one command reads
abbrev pub most_bytes : ℕ
most_bytes = 32

-- the ranges of a command: addresses and values of registers have 20 bits, a dump has some bytes, and a register is one
-- of 16
abbrev pub IsCommand : Command → Type 0
IsCommand (Read at) = at < 0x100000
IsCommand (Write at value) = at < 0x100000
IsCommand (Dump at count) = (at < 0x100000) × (1 ≤ count) × (count ≤ most_bytes)
IsCommand (Reg n) = n < 16
IsCommand (SetReg n value) = (n < 16) × (value < 0x100000)
IsCommand command = Unit {0}

-- the ranges of an answer: a register has 20 bits, and a dump not more bytes than one command reads
abbrev pub IsAnswer : Answer → Type 0
IsAnswer (Register value) = value < 0x100000
IsAnswer (Bytes bytes) = length bytes ≤ most_bytes
IsAnswer answer = Unit {0}

-- what a command answers, and what it leaves of the debugger's state and of the registers
pub record Commanded : Type 0 where
  pub answer : Answer
  pub debug : Debug
  pub registers : List ℕ

-- a command is for a halted processor alone
abbrev pub needs_halt : Command → Bool
needs_halt (Reg n) = true
needs_halt (SetReg n value) = true
needs_halt command = false

-- why a command is refused, if it is: the first of three causes
abbrev pub refusal_of : Command → DebugView → Debug → Option Answer
refusal_of command view debug =
    if not view.up then Some Booting
    else if view.closed then Some Closed
    else if needs_halt command && not debug.halted then Some Running
    else None

-- so many bytes are read, each from the address behind the one before, modulo 2^20
unfoldable pub bytes_from : ℕ → ℕ → Script (List ℕ)
bytes_from zero at = Return []
bytes_from (suc count) at =
    Ask kind.Read at Byte 0 (λ byte.
    and_then (bytes_from count ((at + 1) % 0x100000)) (λ bytes.
    Return (byte ∷ bytes)))

-- a command ends in its answer, with this state and these registers
abbrev pub answered : Answer → Debug → List ℕ → Script Commanded
answered answer debug registers = Return (record { answer = answer; debug = debug; registers = registers })

-- a command that isn't refused, as its accesses and what it ends in
abbrev pub carried_out : Command → Debug → List ℕ → Script Commanded
carried_out (Read at) debug registers = Ask kind.Read at Word 0 (λ word. answered (Value word) debug registers)
carried_out (Write at value) debug registers =
    Ask kind.Write at Word value (λ written. answered Accepted debug registers)
carried_out (Dump at count) debug registers =
    and_then (bytes_from count at) (λ bytes. answered (Bytes bytes) debug registers)
carried_out (Reg n) debug registers = answered (Register (slice_index registers n)) debug registers
carried_out (SetReg n value) debug registers = answered Accepted debug (with_register registers n value)
carried_out Halt debug registers = answered Accepted (halt_asked debug) registers
carried_out Go debug registers = answered Accepted (gone_on debug) registers
carried_out Reset debug registers = answered Accepted (reset_asked debug) registers
carried_out Erase debug registers = answered Accepted (erase_asked debug) registers

-- a command answers, and leaves the debugger's state, the registers and the bus part, as its script does
abbrev pub CommandRuns : Script Commanded → BusPart → Answer → Debug → List ℕ → BusPart → Type 0
CommandRuns script old answer debug registers new =
    (answer ≡ (run agent.Debug script old).value.answer)
    × (debug ≡ (run agent.Debug script old).value.debug)
    × (registers ≡ (run agent.Debug script old).value.registers)
    × (new ≡ (run agent.Debug script old).part)

-- a command that is refused for a cause changes nothing
abbrev pub unless_refused : Option Answer → Command → Debug → List ℕ → Script Commanded
unless_refused (Some cause) command debug registers = answered cause debug registers
unless_refused None command debug registers = carried_out command debug registers

-- a command of the debugger
unfoldable pub commanded : Command → DebugView → Debug → List ℕ → Script Commanded
commanded command view debug registers = unless_refused (refusal_of command view debug) command debug registers

-- what a command ends in, and the bus part behind it, where the debugger makes its accesses
abbrev pub run_of : Command → DebugView → Debug → List ℕ → BusPart → Ran Commanded
run_of command view debug registers part = run agent.Debug (commanded command view debug registers) part
