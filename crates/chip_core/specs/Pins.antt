-- The pins of the chip, and the lines that tell of their changes.
use Rattle.std.specs.Prelude.{ℕ, if◌then◌else◌, List, [], ◌∷◌, ◌++◌}
use Rattle.trace_print.specs.declared.items.TraceItem.{TraceItem}
use Rattle.trace_print.specs.declared.items.TraceItem.TheVariants.{Pin}
use Rattle.port_unit.specs.declared.pins.Pins.{Pins}
use Rattle.port_unit.specs.Pins.{levels_of, pins_of as pins_of_ports, same_levels}
use Rattle.chip_core.specs.State.{State}

-- without power no pin is driven
abbrev pub open_pins : Pins
open_pins = record { driven = 0; high = 0 }

-- which pins are driven, and which of these are high
unfoldable pub pins_of : State → Pins
pins_of chip = if chip.powered then pins_of_ports (((chip.bus).units).ports) (((chip.bus).units).sys).locked else open_pins

-- the line of a port whose levels changed
unfoldable pub port_line : ℕ → Pins → Pins → List TraceItem
port_line port before after =
    if same_levels (levels_of before port) (levels_of after port) then [] else Pin port (levels_of after port) ∷ []

abbrev pub pin_lines : Pins → Pins → List TraceItem
pin_lines before after = port_line 1 before after ++ port_line 2 before after ++ port_line 3 before after ++ port_line 4 before after
