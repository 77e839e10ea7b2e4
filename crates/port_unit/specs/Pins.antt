-- The levels of the pins of P1 to P4, as the outside sees them.
use Rattle.std.specs.Prelude.{ℕ, ◌+◌, ◌-◌, ◌*◌, ◌/◌, ◌%◌, ◌^◌, Bool, true, false, ◌&&◌, if◌then◌else◌, List, [], ◌∷◌, bit_and}
use Rattle.chip_words.specs.Bits.{has_bit}
use Rattle.chip_words.specs.Ports.{Ports}
use Rattle.port_unit.specs.declared.levels.Level.{Level}
use Rattle.port_unit.specs.declared.levels.Level.TheVariants.{Low, High, Open}
use Rattle.port_unit.specs.declared.pins.Pins.{Pins}

-- the words of both pairs as one number: P1 and P2 in bits 15:0, P3 and P4 in bits 31:16
abbrev pub both : ℕ → ℕ → ℕ
both first second = first + 0x10000 * second

-- the pins that are outputs and aren't locked
abbrev pub driven_of : Ports → Bool → ℕ
driven_of ports locked = if locked then 0 else both (ports.first).dir (ports.second).dir

-- which pins the ports drive, and which of these are high
unfoldable pub pins_of : Ports → Bool → Pins
pins_of ports locked = record {
  driven = driven_of ports locked;
  high = bit_and (both (ports.first).out (ports.second).out) (driven_of ports locked);
}

-- the eight bits of one port
abbrev pub port_bits : ℕ → ℕ → ℕ
port_bits port word = word / 2 ^ (8 * (port - 1)) % 0x100

abbrev pub port_of : ℕ → Pins → Pins
port_of port pins = record { driven = port_bits port pins.driven; high = port_bits port pins.high }

-- the level of a pin of the port in bits 7:0
abbrev pub level_of : Pins → ℕ → Level
level_of pins n = if has_bit pins.driven n then (if has_bit pins.high n then High else Low) else Open

-- the levels of a port, entry i for bit i
abbrev pub levels_of : Pins → ℕ → List Level
levels_of pins port =
    level_of (port_of port pins) 0 ∷ level_of (port_of port pins) 1
    ∷ level_of (port_of port pins) 2
    ∷ level_of (port_of port pins) 3
    ∷ level_of (port_of port pins) 4
    ∷ level_of (port_of port pins) 5
    ∷ level_of (port_of port pins) 6
    ∷ level_of (port_of port pins) 7
    ∷ []

abbrev pub same_level : Level → Level → Bool
same_level Low Low = true
same_level High High = true
same_level Open Open = true
same_level one other = false

-- as many levels, and each the same
abbrev pub same_levels : List Level → List Level → Bool
same_levels [] [] = true
same_levels (one ∷ ones) (other ∷ others) = same_level one other && same_levels ones others
same_levels ones others = false
