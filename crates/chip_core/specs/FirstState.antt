-- The chip before the first tick.
use Rattle.std.specs.Prelude.{ℕ, false, List, Some, if◌then◌else◌}
use Rattle.chip_words.specs.Map.{is_fram, is_sram}
use Rattle.chip_words.specs.Registers.{no_registers}
use Rattle.chip_words.specs.BusPart.{BusPart}
use Rattle.elf_image.specs.Image.{Segment, byte_of}
use Rattle.bus_fabric.specs.Memory.{memory_by}
use Rattle.bus_fabric.specs.FirstBus.{first_bus as bus_without_image}
use Rattle.boot_code.specs.Boot.{first_keep}
use Rattle.boot_code.specs.ImageSeal.{image_seal}
use Rattle.boot_code.specs.Place.{Start}
use Rattle.chip_core.specs.State.{State}

-- the byte that an address holds before the first tick: FRAM is the image's, SRAM is filled, and where
-- there is no memory there is 0
abbrev pub first_byte : List Segment → ℕ → ℕ → ℕ
first_byte image fill at = if is_fram at then byte_of image at else if is_sram at then fill else 0

abbrev pub first_memory : List Segment → ℕ → List ℕ
first_memory image fill = memory_by (first_byte image fill)

-- the units are as a BOR leaves them, but for its cause, and nothing is requested, counted or listed. What stays secret
-- is what the image's first boot will seal
abbrev pub first_bus : List Segment → ℕ → BusPart
first_bus image fill =
    record (bus_without_image fill) { memory = first_memory image fill; kept = image_seal image }

-- power is off, no pointer is saved, and all else is as a BOR leaves it, but for its cause
abbrev pub first_state : List Segment → ℕ → State
first_state image fill = record {
  bus = first_bus image fill;
  registers = no_registers;
  busy = 0;
  powered = false;
  keep = first_keep;
  boot = Some Start;
  dead = false;
  halted = false;
  pending = false;
  second_tick = false;
  tick = 0;
}
