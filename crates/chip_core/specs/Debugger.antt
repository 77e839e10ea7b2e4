-- The debugger's commands on the chip: what a command finds there, what it answers, and what it leaves.
use Rattle.std.specs.Prelude.{ℕ, ◌==◌, ◌&&◌, Bool, false, if◌then◌else◌, List, [], ◌∷◌, Option, Some, None}
use Rattle.chip_words.specs.declared.sizes.Size.TheVariants.{Word}
use Rattle.chip_words.specs.Causes.{DEBUG_RESET}
use Rattle.chip_words.specs.Memory.{loaded}
use Rattle.chip_words.specs.Script.{Ran}
use Rattle.debug_port.specs.declared.answers.Answer.{Answer}
use Rattle.debug_port.specs.declared.answers.Answer.TheVariants.{Accepted}
use Rattle.debug_port.specs.declared.commands.Command.{Command}
use Rattle.debug_port.specs.declared.commands.Command.TheVariants.{Halt}
use Rattle.debug_port.specs.declared.states.Debug.{Debug}
use Rattle.debug_port.specs.declared.states.DebugView.{DebugView}
use Rattle.debug_port.specs.Commands.{Commanded, run_of}
use Rattle.trace_print.specs.declared.items.TraceItem.{TraceItem}
use Rattle.trace_print.specs.declared.items.TraceItem.TheVariants as line
use Rattle.boot_code.specs.Boot.{ERASING}
use Rattle.chip_core.specs.Boot.{with_mark}
use Rattle.chip_core.specs.Phase.{is_up}
use Rattle.chip_core.specs.State.{State}
use Rattle.chip_core.specs.Turns.{asked}

-- the two words that close the debug port, and what they hold then
abbrev pub FIRST_DEBUG_SIGNATURE : ℕ
FIRST_DEBUG_SIGNATURE = 0xFF80

abbrev pub SECOND_DEBUG_SIGNATURE : ℕ
SECOND_DEBUG_SIGNATURE = 0xFF82

abbrev pub closing_word : ℕ
closing_word = 0x5555

abbrev pub closes_at : ℕ → State → Bool
closes_at at chip = loaded (chip.bus.memory) at Word == closing_word

-- the port is closed, as memory stands, whoever may read it
abbrev pub is_closed : State → Bool
is_closed chip = closes_at FIRST_DEBUG_SIGNATURE chip && closes_at SECOND_DEBUG_SIGNATURE chip

abbrev pub view_of : State → DebugView
view_of chip = record { up = is_up chip; closed = is_closed chip }

abbrev pub debug_of : State → Debug
debug_of chip = record { halted = chip.halted; pending = chip.pending; reset = false; erase = false }

-- a command as it runs on the chip
unfoldable pub ran : Command → State → Ran Commanded
ran command chip = run_of command (view_of chip) (debug_of chip) chip.registers chip.bus

abbrev pub answer_to : Command → State → Answer
answer_to command chip = ((ran command chip).value).answer

-- the debugger asks for a BOR
abbrev pub debug_cause : Debug → Option ℕ
debug_cause debug = if debug.reset then Some DEBUG_RESET else None

-- an erase makes the mark that of an erase that has begun
abbrev pub marked_by : Debug → State → State
marked_by debug chip = if debug.erase then with_mark ERASING chip else chip

abbrev pub reset_by : Debug → State → State
reset_by debug chip = record chip { bus = asked (debug_cause debug) chip.bus }

-- the chip behind the accesses of a command, and behind what it asks for
abbrev pub accessed : Ran Commanded → State → State
accessed ran chip = record chip {
  bus = ran.part;
  registers = (ran.value).registers;
  halted = ((ran.value).debug).halted;
  pending = ((ran.value).debug).pending;
}

abbrev pub behind : Ran Commanded → State → State
behind ran chip = marked_by (ran.value).debug (reset_by (ran.value).debug (accessed ran chip))

unfoldable pub after_command : Command → State → State
after_command command chip = behind (ran command chip) chip

-- DBG: a command, with its answer; a halt that is accepted has no line until it takes effect
abbrev pub command_lines : Command → Answer → List TraceItem
command_lines Halt Accepted = []
command_lines command answer = line.Debug command answer ∷ []

-- what a command shows on the chip
abbrev pub debug_lines : Command → State → List TraceItem
debug_lines command chip = command_lines command (answer_to command chip)
