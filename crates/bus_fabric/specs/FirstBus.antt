-- The bus part before the first tick.
use Rattle.std.specs.Prelude.{ℕ, false, [], None}
use Rattle.chip_words.specs.Causes.{no_causes}
use Rattle.chip_words.specs.Seals.{nowhere}
use Rattle.chip_words.specs.Sys.{first_sys}
use Rattle.chip_words.specs.Ports.{first_ports}
use Rattle.chip_words.specs.Timers.{first_timers}
use Rattle.chip_words.specs.Dma.{first_dma}
use Rattle.chip_words.specs.Fram.{first_fram}
use Rattle.chip_words.specs.Encap.{first_encap}
use Rattle.chip_words.specs.Mpu.{first_mpu}
use Rattle.chip_words.specs.Units.{Units}
use Rattle.chip_words.specs.BusPart.{BusPart}
use Rattle.bus_fabric.specs.Memory.{first_memory}

-- the units as a BOR leaves them, but for its cause
abbrev pub first_units : Units
first_units = record {
  sys = first_sys;
  ports = first_ports;
  timers = first_timers;
  dma = first_dma;
  fram = first_fram;
  mpu = first_mpu;
  encap = first_encap;
}

-- nothing was written, sealed, requested, counted or listed
abbrev pub first_bus : ℕ → BusPart
first_bus fill = record {
  memory = first_memory fill;
  units = first_units;
  kept = nowhere;
  fill = fill;
  nmi = false;
  budget = None;
  writes = 0;
  noted = 0;
  accesses = [];
  causes = no_causes;
}
