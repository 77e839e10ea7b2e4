-- The events of a bench: what one of them is, and which rules hold among them.
use Rattle.std.specs.Prelude.{◌≡◌, ℕ, ◌+◌, ◌-◌, ◌<◌, ◌≤◌, Bool, ◌&&◌, ◌==◌, nat_le, nat_lt, List, [], ◌∷◌, length, filter, codes, Option, Some, None, if◌then◌else◌, option_map, option_and_then}
use Rattle.std.specs.List.{list_all}
use Rattle.std.specs.List.Sorted.{IsPartitionPoint}
use Rattle.toml.specs.Data.{Data, Members, as_str, as_table, get_member}
use Rattle.stimulus.specs.declared.events.Event.{Event}
use Rattle.stimulus.specs.declared.events.EventAct.{EventAct}
use Rattle.stimulus.specs.declared.events.EventAct.TheVariants.{Pin, Debug}
use Rattle.stimulus.specs.Commands.{command_in}
use Rattle.stimulus.specs.Rules.{Rules}
use Rattle.stimulus.specs.Toml.{has_key_beside, number_at}
use Rattle.debug_port.specs.Commands.{IsCommand}

-- the first port and the last, and the highest bit of a port
abbrev pub first_port : ℕ
first_port = 1

abbrev pub last_port : ℕ
last_port = 4

abbrev pub last_bit : ℕ
last_bit = 7

-- a port has a bit
abbrev pub IsPin : ℕ → ℕ → Type 0
IsPin port bit = (first_port ≤ port) × (port ≤ last_port) × (bit ≤ last_bit)

-- what comes to the chip is within its ranges: a pin that there is, or a command within those of the debugger
abbrev pub IsAct : EventAct → Type 0
IsAct (Pin port bit level) = IsPin port bit
IsAct (Debug command) = IsCommand command

abbrev pub IsEvent : Event → Type 0
IsEvent event = IsAct event.act

-- what a name of a pin is made of
abbrev pub letter_p : ℕ
letter_p = 80

abbrev pub point : ℕ
point = 46

abbrev pub digit_zero : ℕ
digit_zero = 48

-- a character is a digit from `low` up to and with `high`
abbrev pub is_digit_within : ℕ → ℕ → ℕ → Bool
is_digit_within low high code = nat_le (digit_zero + low) code && nat_le code (digit_zero + high)

-- the port and the bit that a text names, from P1.0 to P4.7
unfoldable pub pin_named : List ℕ → Option (ℕ × ℕ)
pin_named (letter ∷ port ∷ separator ∷ bit ∷ []) =
    if letter == letter_p && is_digit_within first_port last_port port && separator == point && is_digit_within 0 last_bit bit
    then Some (port - digit_zero, bit - digit_zero)
    else None
pin_named _ = None

-- the keys of an event that sets a level on a pin, and what such an event has at each of them
abbrev pub pin_keys : List (List ℕ)
pin_keys = codes "tick" ∷ codes "pin" ∷ codes "level" ∷ []

abbrev pub pin_in : Members → Option (ℕ × ℕ)
pin_in all = option_and_then pin_named (option_and_then as_str (get_member (codes "pin") all))

abbrev pub level_in : Members → Option Bool
level_in all = option_map (λ level. level == 1) (number_at (codes "level") 0 1 all)

-- the level on a pin, where there are both
abbrev pub pin_act_with : Option (ℕ × ℕ) → Option Bool → Option EventAct
pin_act_with None level = None
pin_act_with (Some pin) None = None
pin_act_with (Some pin) (Some level) = Some (Pin pin.0 pin.1 level)

-- the level on a pin that a table is: it has just the three keys
unfoldable pub pin_act_in : Members → Option EventAct
pin_act_in all = if has_key_beside pin_keys all then None else pin_act_with (pin_in all) (level_in all)

-- what a table brings: a command of the debugger where a value stands at `debug`, and else a level on a pin
abbrev pub act_with : Option Data → Members → Option EventAct
act_with (Some debug) all = option_map Debug (command_in debug all)
act_with None all = pin_act_in all

abbrev pub act_in : Members → Option EventAct
act_in all = act_with (get_member (codes "debug") all) all

-- the tick of an event on a bench with this end
abbrev pub tick_in : ℕ → Members → Option ℕ
tick_in end all = number_at (codes "tick") 0 (end - 1) all

-- the event of a tick and an act, where there are both
abbrev pub event_with : Option ℕ → Option EventAct → Option Event
event_with None act = None
event_with (Some tick) None = None
event_with (Some tick) (Some act) = Some (record { tick = tick; act = act })

-- the event that a table is, on a bench with this end
abbrev pub event_in : ℕ → Members → Option Event
event_in end all = event_with (tick_in end all) (act_in all)

abbrev pub event_of : ℕ → Data → Option Event
event_of end value = option_and_then (event_in end) (as_table value)

-- the events of one tick
unfoldable pub on_tick : ℕ → List Event → List Event
on_tick tick events = filter (λ event. event.tick == tick) events

-- no tick from one up to and without another has an event
abbrev pub HasNoneWithin : ℕ → ℕ → List Event → Type 0
HasNoneWithin from to events = (tick : ℕ) → from ≤ tick → tick < to → on_tick tick events ≡ []

-- the first so many events come before a tick, and no other does
abbrev pub IsStart : ℕ → List Event → ℕ → Type 0
IsStart tick events count = IsPartitionPoint (λ (event : Event). event.tick < tick) (λ (event : Event). tick ≤ event.tick) events count

-- the first so many events come up to a tick, and no other does
abbrev pub IsEnd : ℕ → List Event → ℕ → Type 0
IsEnd tick events count = IsPartitionPoint (λ (event : Event). event.tick ≤ tick) (λ (event : Event). tick < event.tick) events count

-- no event comes after a tick
unfoldable pub none_after : ℕ → List Event → Bool
none_after tick events = list_all (λ event. nat_le event.tick tick) events

-- the most events that come in one tick
abbrev pub most_on_tick : ℕ
most_on_tick = 8

-- an event may stand behind others: none of them comes after its tick, and its tick has room for one more
unfoldable pub may_follow : List Event → Event → Bool
may_follow before event =
    none_after event.tick before && nat_lt (length (on_tick event.tick before)) most_on_tick

-- the rules of the array of events, on a bench with this end
abbrev pub event_rules : ℕ → Rules Event
event_rules end = record { read = event_of end; may_follow = may_follow }
