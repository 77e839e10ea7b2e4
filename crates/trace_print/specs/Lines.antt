-- The lines of a trace.
use Rattle.std.specs.Prelude.{ℕ, ◌^◌, ◌<◌, ◌≤◌, List, ◌++◌, codes, decimal}
use Rattle.trace_print.specs.declared.items.TraceItem.{TraceItem}
use Rattle.trace_print.specs.declared.items.TraceItem.TheVariants.{On, Debug, Halt, Erase, Boot, Reset, Dead, Cut, Pin, End}
use Rattle.debug_port.specs.Commands.{IsAnswer, IsCommand}
use Rattle.trace_print.specs.DebugLines.{debug_text}
use Rattle.trace_print.specs.Digits.{hex_digits}
use Rattle.trace_print.specs.Levels.{letters_of}

-- the values that a text has room for: those of commands and their answers, a PC and borders of 20 bits, and the ports
-- P1 to P4
abbrev pub IsPrintable : TraceItem → Type 0
IsPrintable (Debug command answer) = IsCommand command × IsAnswer answer
IsPrintable (Halt pc) = pc < 2 ^ 20
IsPrintable (Boot control first_border second_border) = (first_border < 2 ^ 20) × (second_border < 2 ^ 20)
IsPrintable (Pin port levels) = (1 ≤ port) × (port ≤ 4)
IsPrintable _ = Unit {0}

-- the control bits of IP Encapsulation, and both borders
abbrev pub boot_text : ℕ → ℕ → ℕ → List ℕ
boot_text control first_border second_border =
    codes "BOOT " ++ hex_digits 2 control ++ codes " " ++ hex_digits 5 first_border ++ codes " " ++ hex_digits 5 second_border

-- what stands behind the tick
abbrev pub text_of : TraceItem → List ℕ
text_of On = codes "ON"
text_of (Debug command answer) = debug_text command answer
text_of (Halt pc) = codes "HALT " ++ hex_digits 5 pc
text_of Erase = codes "ERASE"
text_of (Boot control first_border second_border) = boot_text control first_border second_border
text_of (Reset cause) = codes "RST " ++ hex_digits 2 cause
text_of Dead = codes "DEAD"
text_of Cut = codes "CUT"
text_of (Pin port levels) = codes "PIN P" ++ decimal port ++ codes " " ++ letters_of levels
text_of End = codes "END"

-- a whole line: the tick in decimal, a space, the text and a line feed
abbrev pub line_with : ℕ → List ℕ → List ℕ
line_with tick text = decimal tick ++ codes " " ++ text ++ codes "\n"

-- the line of an item
unfoldable pub line_of : ℕ → TraceItem → List ℕ
line_of tick item = line_with tick (text_of item)
