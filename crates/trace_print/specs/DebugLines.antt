-- How a command of the debugger and its answer are written.
use Rattle.std.specs.Prelude.{ℕ, List, ◌++◌, codes, decimal}
use Rattle.debug_port.specs.declared.commands.Command.{Command}
use Rattle.debug_port.specs.declared.commands.Command.TheVariants.{Read, Write, Dump, Reg, SetReg, Halt, Go, Reset, Erase}
use Rattle.debug_port.specs.declared.answers.Answer.{Answer}
use Rattle.debug_port.specs.declared.answers.Answer.TheVariants.{Value, Register, Bytes, Accepted, Closed, Booting, Running}
use Rattle.trace_print.specs.Digits.{bytes_text, hex_digits}

-- a command is told by its name, and by the address as it was given or the number of the register; a count and a value
-- aren't told
abbrev pub command_text : Command → List ℕ
command_text (Read at) = codes "read " ++ hex_digits 5 at
command_text (Write at value) = codes "write " ++ hex_digits 5 at
command_text (Dump at count) = codes "dump " ++ hex_digits 5 at
command_text (Reg n) = codes "reg " ++ decimal n
command_text (SetReg n value) = codes "setreg " ++ decimal n
command_text Halt = codes "halt"
command_text Go = codes "go"
command_text Reset = codes "reset"
command_text Erase = codes "erase"

-- what a command answered, or why it was refused
abbrev pub answer_text : Answer → List ℕ
answer_text (Value word) = hex_digits 4 word
answer_text (Register value) = hex_digits 5 value
answer_text (Bytes bytes) = bytes_text bytes
answer_text Accepted = codes "ok"
answer_text Closed = codes "closed"
answer_text Booting = codes "booting"
answer_text Running = codes "running"

-- both
abbrev pub debug_text : Command → Answer → List ℕ
debug_text command answer = codes "DBG " ++ command_text command ++ codes " " ++ answer_text answer
