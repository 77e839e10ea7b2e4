-- The record that a chip's fields stand for.
use Rattle.chip_core.specs.declared.chips.Chip.TheInside.{Inside}
use Rattle.bus_fabric.specs.Fabric.{bus_part_of}
use Rattle.chip_core.specs.State.{State}

abbrev pub state_of : Inside → State
state_of chip = record {
  bus = bus_part_of chip.fabric;
  registers = chip.regs;
  busy = chip.busy;
  powered = chip.powered;
  keep = chip.keep;
  boot = chip.boot;
  dead = chip.dead;
  halted = chip.halted;
  pending = chip.pending;
  second_tick = chip.second_tick;
  tick = chip.tick;
}
