-- What the fabric means, and words for what its calls do.
use Rattle.std.specs.Prelude.{◌≡◌, ℕ, ◌+◌, ◌≤◌, ◌==◌, ◌&&◌, not, Bool, true, false, List, [], length, None, Option}
use Rattle.chip_words.specs.declared.sizes.Size.{Size}
use Rattle.chip_words.specs.Access.{Accessed}
use Rattle.chip_words.specs.BusPart.{BusPart}
use Rattle.chip_words.specs.Causes.{NO_CAUSE, no_causes}
use Rattle.chip_words.specs.Interrupts.{NMI_VECTOR, units_entered}
use Rattle.chip_words.specs.Encap.{Encap, encap_written, kept_after}
use Rattle.chip_words.specs.Units.{Units, units_at_reset, units_written}
use Rattle.bus_fabric.specs.Memory.{sram_filled}
use Rattle.bus_fabric.specs.declared.fabric.Fabric.{Fabric}

abbrev pub units_of : Fabric → Units
units_of fabric = record {
  sys = fabric.sys;
  ports = fabric.ports;
  timers = fabric.timers;
  dma = fabric.dma;
  fram = fabric.fram;
  mpu = fabric.mpu;
  encap = fabric.encap;
}

abbrev pub bus_part_of : Fabric → BusPart
bus_part_of fabric = record {
  memory = (fabric.memory).items;
  units = units_of fabric;
  kept = fabric.kept;
  fill = fabric.fill;
  nmi = fabric.nmi;
  budget = fabric.budget;
  writes = fabric.writes;
  noted = fabric.noted;
  accesses = (fabric.accesses).items;
  causes = fabric.causes;
}

-- the bus part changes so
abbrev pub Changes : (BusPart → BusPart) → Fabric → Fabric → Type 0
Changes change old new = bus_part_of new ≡ change (bus_part_of old)

-- the units change so, and nothing else does
abbrev pub ChangesUnits : (Units → Units) → Fabric → Fabric → Type 0
ChangesUnits change old new = bus_part_of new ≡ record (bus_part_of old) { units = change (units_of old) }

-- a reset of the units, with its cause; a request of the NMI is dropped
abbrev pub part_at_reset : Bool → ℕ → BusPart → BusPart
part_at_reset is_bor cause part = record part { units = units_at_reset is_bor cause part.units; nmi = false }

-- power is lost: SRAM is the fill, the units are as a BOR leaves them, but for its cause, and a request of the NMI and the
-- step's violations are dropped. FRAM, the addresses that stay secret and the external levels stand
abbrev pub part_without_power : BusPart → BusPart
part_without_power part = record (part_at_reset true NO_CAUSE part) {
  memory = sram_filled part.fill part.memory;
  noted = 0;
}

-- an interrupt was entered: what asked for it is cleared, a request of the NMI or the flag of its line
abbrev pub part_entered : ℕ → BusPart → BusPart
part_entered vector part = record part {
  units = units_entered vector part.units;
  nmi = part.nmi && not (vector == NMI_VECTOR);
}

-- a write of a register of the encapsulation, and with it the addresses that stay secret
abbrev pub encap_set : Encap → BusPart → BusPart
encap_set encap part = record part {
  units = record (part.units) { encap = encap };
  kept = kept_after part.kept (part.units).encap encap;
}

abbrev pub encapsulated : ℕ → Size → ℕ → BusPart → BusPart
encapsulated at size value part =
    encap_set (encap_written (part.units).encap ((part.units).mpu).is_open at size value) part

-- a write of any register
abbrev pub register_set : Units → BusPart → BusPart
register_set units part = record part { units = units; kept = kept_after part.kept (part.units).encap units.encap }

abbrev pub register_written : ℕ → Size → ℕ → BusPart → BusPart
register_written at size value part = register_set (units_written part.units at size value) part

-- memory changes so, and nothing else does
abbrev pub ChangesMemory : (List ℕ → List ℕ) → Fabric → Fabric → Type 0
ChangesMemory change old new = bus_part_of new ≡ record (bus_part_of old) { memory = change (bus_part_of old).memory }

-- an access answers, and leaves the bus part, so
pub record Accesses (access : BusPart → Accessed) (old : Fabric) (answer : ℕ) (new : Fabric) : Type 0 where
  pub answers : answer ≡ (access (bus_part_of old)).answer
  pub leaves : bus_part_of new ≡ (access (bus_part_of old)).part

-- at most one access joins the list of the step
abbrev pub ListsOne : Fabric → Fabric → Type 0
ListsOne old new = length (bus_part_of new).accesses ≤ length (bus_part_of old).accesses + 1

-- the address of the reset vector (SLAS704, interrupt vector table)
abbrev pub RESET_VECTOR : ℕ
RESET_VECTOR = 0xFFFE

-- a tick begins with no write counted, and may have so many, where its power is cut
abbrev pub tick_begun : Option ℕ → BusPart → BusPart
tick_begun budget part = record part { budget = budget; writes = 0 }

-- a tick ends with no write counted, and with an empty list and no causes of a step
abbrev pub tick_ended : BusPart → BusPart
tick_ended part = record part { budget = None; writes = 0; accesses = []; causes = no_causes }
