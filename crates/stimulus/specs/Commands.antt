-- The debugger's commands in a bench: the keys that each of them has, and the command that their values make.
use Rattle.std.specs.Prelude.{ℕ, List, [], ◌∷◌, find, bytes_eq, codes, Option, Some, None, if◌then◌else◌, option_map, option_and_then}
use Rattle.toml.specs.Data.{Data, Members, as_str}
use Rattle.debug_port.specs.declared.commands.Command.{Command}
use Rattle.debug_port.specs.declared.commands.Command.TheVariants.{Read, Write, Dump, Reg, SetReg, Halt, Go, Reset, Erase}
use Rattle.debug_port.specs.Commands.{most_bytes}
use Rattle.stimulus.specs.Toml.{has_key_beside, number_at}

-- a key whose value is an integer from `low` up to and with `high`
pub record NumberKey : Type 0 where
  pub name : List ℕ
  pub low : ℕ
  pub high : ℕ

-- the greatest number of 16 bits, which are those of a word, and of 20, which are those of an address and of a register
abbrev pub greatest_word : ℕ
greatest_word = 0xFFFF

abbrev pub greatest_address : ℕ
greatest_address = 0xFFFFF

abbrev pub last_register : ℕ
last_register = 15

abbrev pub address : NumberKey
address = record { name = codes "at"; low = 0; high = greatest_address }

abbrev pub word_value : NumberKey
word_value = record { name = codes "value"; low = 0; high = greatest_word }

abbrev pub byte_count : NumberKey
byte_count = record { name = codes "count"; low = 1; high = most_bytes }

abbrev pub register : NumberKey
register = record { name = codes "reg"; low = 0; high = last_register }

abbrev pub register_value : NumberKey
register_value = record { name = codes "value"; low = 0; high = greatest_address }

-- what a command has beside its name: no key, one or two, and the command that their values make
pub data Form : Type 0 where
  Bare : Command → Form
  OneKey : NumberKey → (ℕ → Command) → Form
  TwoKeys : NumberKey → NumberKey → (ℕ → ℕ → Command) → Form

-- the commands by their names
abbrev pub commands : List (List ℕ × Form)
commands =
    (codes "read", OneKey address Read)
    ∷ (codes "write", TwoKeys address word_value Write)
    ∷ (codes "dump", TwoKeys address byte_count Dump)
    ∷ (codes "reg", OneKey register Reg)
    ∷ (codes "setreg", TwoKeys register register_value SetReg)
    ∷ (codes "halt", Bare Halt)
    ∷ (codes "go", Bare Go)
    ∷ (codes "reset", Bare Reset)
    ∷ (codes "erase", Bare Erase)
    ∷ []

abbrev pub form_named : List ℕ → Option Form
form_named name = option_map (λ row. row.1) (find (λ row. bytes_eq name row.0) commands)

-- the keys of an event that is a command of a form
abbrev pub command_keys : Form → List (List ℕ)
command_keys (Bare command) = codes "tick" ∷ codes "debug" ∷ []
command_keys (OneKey key command) = codes "tick" ∷ codes "debug" ∷ key.name ∷ []
command_keys (TwoKeys first second command) = codes "tick" ∷ codes "debug" ∷ first.name ∷ second.name ∷ []

-- the number at a key, which has to be there
abbrev pub number_of : NumberKey → Members → Option ℕ
number_of key all = number_at key.name key.low key.high all

-- the command that the numbers at a form's keys make, where all of them are there
abbrev pub command_with : Form → Members → Option Command
command_with (Bare command) all = Some command
command_with (OneKey key command) all = option_map command (number_of key all)
command_with (TwoKeys first second command) all =
    option_and_then (λ number. option_map (command number) (number_of second all)) (number_of first all)

-- the command of a form that a table is: it has just the form's keys
abbrev pub command_of : Form → Members → Option Command
command_of form all = if has_key_beside (command_keys form) all then None else command_with form all

-- the command of a name that a table is
unfoldable pub command_named : List ℕ → Members → Option Command
command_named name all = option_and_then (λ form. command_of form all) (form_named name)

-- the command that a table is, where this value stands at `debug`
abbrev pub command_in : Data → Members → Option Command
command_in debug all = option_and_then (λ name. command_named name all) (as_str debug)
