-- The peripherals together, and what an access to one of their registers does.
use Rattle.std.specs.Prelude.{ℕ, Bool, Option, Some, None}
use Rattle.chip_words.specs.declared.sizes.Size.{Size}
use Rattle.chip_words.specs.declared.accesses.Kind.{Kind}
use Rattle.chip_words.specs.declared.accesses.Kind.TheVariants.{Write}
use Rattle.chip_words.specs.declared.unit_names.UnitName.{UnitName}
use Rattle.chip_words.specs.declared.unit_names.UnitName.TheVariants as of
use Rattle.chip_words.specs.Addresses.{register_address, unit_at}
use Rattle.chip_words.specs.Bits.{part_of}
use Rattle.chip_words.specs.Sys.{Sys, sys_at_reset, sys_taken, sys_word, sys_touched, sys_written, sys_cause, sys_fired}
use Rattle.chip_words.specs.Ports.{Ports, driven, ports_at_reset, ports_touched, ports_word, ports_written}
use Rattle.chip_words.specs.Dma.{Dma, dma_fired, dma_touched, dma_word, dma_written, first_dma}
use Rattle.chip_words.specs.Fram.{FramControl, first_fram, fram_cause, fram_word, fram_written}
use Rattle.chip_words.specs.Encap.{Encap, encap_at_reset, encap_word, encap_written}
use Rattle.chip_words.specs.Mpu.{Mpu, mpu_at_reset, mpu_cause, mpu_touched, mpu_word, mpu_written}
use Rattle.chip_words.specs.Timers.{Timers, fired, first_timers, timers_cause, timers_ticked, timers_touched, timers_word, timers_written}

pub record Units : Type 0 where
  pub sys : Sys
  pub ports : Ports
  pub timers : Timers
  pub dma : Dma
  pub fram : FramControl
  pub mpu : Mpu
  pub encap : Encap

-- all units after a reset, whose cause SYSRSTIV gets
abbrev pub units_at_reset : Bool → ℕ → Units → Units
units_at_reset is_bor cause units = record {
  sys = sys_taken cause (sys_at_reset is_bor units.sys);
  ports = ports_at_reset units.ports;
  timers = first_timers;
  dma = first_dma;
  fram = first_fram;
  mpu = mpu_at_reset is_bor units.mpu;
  encap = encap_at_reset is_bor units.encap;
}

-- the clock edges of a tick, each of which is there or isn't: the watchdog sets WDTIFG, and asks for a
-- reset, and the timers set off triggers of DMA
abbrev pub units_clocked : Bool → Bool → Units → Units
units_clocked smclk aclk units = record units {
  timers = timers_ticked units.timers smclk aclk;
  sys = sys_fired (fired units.timers smclk aclk) units.sys;
  dma = dma_fired (fired units.timers smclk aclk).triggers units.dma;
}

-- the external level of a pin was set
abbrev pub units_driven : ℕ → ℕ → Bool → Units → Units
units_driven port bit level units = record units { ports = driven units.ports port bit level (units.sys).locked }

-- the word of a unit's register; where there is no unit it is 0
abbrev pub word_in : Option UnitName → Units → ℕ → ℕ
word_in (Some of.Sys) units at = sys_word units.sys (register_address at)
word_in (Some of.Timers) units at = timers_word units.timers (register_address at)
word_in (Some of.Ports) units at = ports_word units.ports (units.sys).locked (register_address at)
word_in (Some of.Dma) units at = dma_word units.dma (register_address at)
word_in (Some of.Fram) units at = fram_word units.fram (register_address at)
word_in (Some of.Mpu) units at = mpu_word units.mpu (register_address at)
word_in (Some of.Encap) units at = encap_word units.encap (register_address at)
word_in None units at = 0

-- the word of the register that an address is of
unfoldable pub word_of : Units → ℕ → ℕ
word_of units at = word_in (unit_at at) units at

-- what a read leaves of a unit
abbrev pub touched_in : Option UnitName → Units → ℕ → Units
touched_in (Some of.Sys) units at = record units { sys = sys_touched units.sys at }
touched_in (Some of.Timers) units at = record units { timers = timers_touched units.timers at }
touched_in (Some of.Ports) units at = record units { ports = ports_touched units.ports at }
touched_in (Some of.Dma) units at = record units { dma = dma_touched units.dma at }
touched_in (Some of.Fram) units at = units
touched_in (Some of.Mpu) units at = record units { mpu = mpu_touched units.mpu at }
touched_in (Some of.Encap) units at = units
touched_in None units at = units

-- the units behind a read
unfoldable pub units_touched : Units → ℕ → Units
units_touched units at = touched_in (unit_at at) units at

-- what a write leaves of a unit
abbrev pub written_in : Option UnitName → Units → ℕ → Size → ℕ → Units
written_in (Some of.Sys) units at size value = record units { sys = sys_written units.sys at size value }
written_in (Some of.Timers) units at size value = record units { timers = timers_written units.timers at size value }
written_in (Some of.Ports) units at size value = record units { ports = ports_written units.ports at size value }
written_in (Some of.Dma) units at size value = record units { dma = dma_written units.dma at size value }
written_in (Some of.Fram) units at size value = record units { fram = fram_written units.fram at size value }
written_in (Some of.Mpu) units at size value = record units { mpu = mpu_written units.mpu at size value }
written_in (Some of.Encap) units at size value =
    record units { encap = encap_written units.encap (units.mpu).is_open at size value }
written_in None units at size value = units

-- the units behind a write
unfoldable pub units_written : Units → ℕ → Size → ℕ → Units
units_written units at size value = written_in (unit_at at) units at size value

-- the reset that a write to a unit asks for
abbrev pub cause_in : Option UnitName → Units → ℕ → Size → ℕ → Option ℕ
cause_in (Some of.Sys) units at size value = sys_cause units.sys at size value
cause_in (Some of.Timers) units at size value = timers_cause at size value
cause_in (Some of.Ports) units at size value = None
cause_in (Some of.Dma) units at size value = None
cause_in (Some of.Fram) units at size value = fram_cause at size value
cause_in (Some of.Mpu) units at size value = mpu_cause at size value
cause_in (Some of.Encap) units at size value = None
cause_in None units at size value = None

-- the reset that a write asks for
unfoldable pub units_cause : Units → ℕ → Size → ℕ → Option ℕ
units_cause units at size value = cause_in (unit_at at) units at size value

-- what the peripherals answer to an access, what they are behind it, and the reset that it asks for
pub record Reply : Type 0 where
  pub value : ℕ
  pub units : Units
  pub cause : Option ℕ

unfoldable pub periph : Units → Kind → ℕ → Size → ℕ → Reply
periph units Write at size value = record {
  value = value;
  units = units_written units at size value;
  cause = units_cause units at size value;
}
periph units kind at size value = record {
  value = part_of size at (word_of units at);
  units = units_touched units at;
  cause = None;
}
