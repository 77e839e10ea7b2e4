-- What holds of a chip between two ticks.
use Rattle.std.specs.Prelude.{◌≡◌, ℕ, true, false, List, [], Option, Some, None, length}
use Rattle.chip_words.specs.BusPart.{BusPart}
use Rattle.chip_words.specs.Causes.{no_causes}
use Rattle.chip_words.specs.Memory.{memory_size}
use Rattle.chip_words.specs.Public.{IsSettled}
use Rattle.chip_words.specs.Registers.{AreRegisters, no_registers}
use Rattle.access_laws.specs.Boots.{HasBorders}
use Rattle.bus_fabric.specs.Memory.{sram_filled}
use Rattle.power_schedule.specs.declared.powers.Power.{Power}
use Rattle.power_schedule.specs.declared.powers.Power.TheVariants.{Off}
use Rattle.boot_code.specs.declared.boots.Keep.{Keep}
use Rattle.boot_code.specs.Facts.{Fits, is_mark, is_unerased}
use Rattle.boot_code.specs.Place.{Place, Start}
use Rattle.right_laws.specs.Ends.{requests}
use Rattle.chip_core.specs.Phase.{is_up}
use Rattle.chip_core.specs.State.{State}

-- the next step of a boot fits mark, pointer and memory; once the boot is done, no erase has begun
abbrev pub FitsChip : Option Place → Keep → List ℕ → Type 0
FitsChip (Some place) keep memory = Fits place keep memory
FitsChip None keep memory = is_unerased keep.mark ≡ true

-- SRAM holds the fill
abbrev pub IsFilled : BusPart → Type 0
IsFilled part = sram_filled part.fill part.memory ≡ part.memory

-- without power no register holds anything, SRAM is the fill, nothing goes on and nothing is about to, and a boot
-- will start
pub record IsUnpowered (chip : State) : Type 0 where
  pub registers : chip.registers ≡ no_registers
  pub sram : IsFilled chip.bus
  pub idle : chip.busy ≡ 0
  pub alive : chip.dead ≡ false
  pub running : chip.halted ≡ false
  pub unasked : chip.pending ≡ false
  pub first_tick : chip.second_tick ≡ false
  pub place : chip.boot ≡ Some Start

-- Between two ticks no reset is requested, no violation is noted, no write is counted, and nothing is listed. All of
-- memory is there, and registers, mark and the borders of the kept set are of their kind. Once a boot is done the kept
-- set is the seal; and a boot that runs fits what stands in memory.
pub record IsSound (chip : State) : Type 0 where
  pub unrequested : requests chip.bus ≡ no_causes
  pub quiet : chip.bus.noted ≡ 0
  pub unnumbered : chip.bus.writes ≡ 0
  pub unbudgeted : chip.bus.budget ≡ None
  pub unlisted : chip.bus.accesses ≡ []
  pub uncaused : chip.bus.causes ≡ no_causes
  pub size : length chip.bus.memory ≡ memory_size
  pub registers : AreRegisters chip.registers
  pub marked : is_mark chip.keep.mark ≡ true
  pub borders : HasBorders chip.bus.kept
  pub settled : is_up chip ≡ true → IsSettled chip.bus
  pub unpowered : chip.powered ≡ false → IsUnpowered chip
  pub fit : FitsChip chip.boot chip.keep chip.bus.memory

-- a tick without power finds power off
abbrev pub MayBeOff : Power → State → Type 0
MayBeOff Off chip = chip.powered ≡ false
MayBeOff power chip = Unit {0}
