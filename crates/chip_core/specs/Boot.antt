-- What the steps of a boot make of the chip.
use Rattle.std.specs.Prelude.{ℕ, ◌==◌, Bool, if◌then◌else◌, Option, Some, None}
use Rattle.chip_words.specs.declared.sizes.Size.TheVariants.{Word}
use Rattle.chip_words.specs.Access.{is_over, next_number, numbered}
use Rattle.chip_words.specs.BusPart.{BusPart}
use Rattle.chip_words.specs.Encap.{Encap, installed, seal}
use Rattle.chip_words.specs.Memory.{loaded}
use Rattle.chip_words.specs.Registers.{PC, with_register}
use Rattle.chip_words.specs.Script.{Ran}
use Rattle.chip_words.specs.Steps.{begun}
use Rattle.bus_fabric.specs.Fabric.{RESET_VECTOR}
use Rattle.ip_encap.specs.declared.encap.Borders.{Borders}
use Rattle.boot_code.specs.declared.boots.Act.{Act}
use Rattle.boot_code.specs.declared.boots.Act.TheVariants.{Mark, Ptr}
use Rattle.boot_code.specs.declared.boots.BootStep.{BootStep}
use Rattle.boot_code.specs.declared.boots.BootStep.TheVariants.{Going, Done}
use Rattle.boot_code.specs.declared.boots.Keep.{Keep}
use Rattle.boot_code.specs.Boot.{Stepped, run_of}
use Rattle.boot_code.specs.Place.{Place}
use Rattle.chip_core.specs.State.{State}

-- The words that outlast a loss of power.

-- the next write of the tick would be absent
abbrev pub is_next_over : BusPart → Bool
is_next_over part = is_over part.budget (next_number part.writes)

-- a write of mark or pointer takes a number as the bus writes do, and is absent where they would be
abbrev pub with_keep : Keep → State → State
with_keep keep chip = record chip {
  bus = numbered chip.bus;
  keep = (if is_next_over chip.bus then chip.keep else keep);
}

abbrev pub with_mark : ℕ → State → State
with_mark mark chip = with_keep (record (chip.keep) { mark = mark }) chip

abbrev pub acted : Act → State → State
acted (Mark mark) chip = with_mark mark chip
acted (Ptr ptr) chip = with_keep (record (chip.keep) { ptr = ptr }) chip
acted act chip = chip

-- The end of a boot.

-- the word of a reset vector that was never written
abbrev pub no_vector : ℕ
no_vector = 0xFFFF

abbrev pub reset_vector : State → ℕ
reset_vector chip = loaded (chip.bus.memory) RESET_VECTOR Word

-- PC is the reset vector; a vector that was never written leaves the processor dead
abbrev pub at_reset_vector : State → State
at_reset_vector chip = record chip {
  registers = with_register chip.registers PC (reset_vector chip);
  dead = reset_vector chip == no_vector;
}

-- the borders of the boot are in force, and the addresses that stay secret are those of their seal
abbrev pub with_encap : Encap → State → State
with_encap encap chip = record chip {
  bus = record (chip.bus) { units = record (chip.bus.units) { encap = encap }; kept = seal encap };
}

abbrev pub with_borders : Borders → State → State
with_borders borders chip = with_encap (installed borders.c0 borders.b2 borders.b1) chip

abbrev pub boot_ended : Borders → State → State
boot_ended borders chip = record (at_reset_vector (with_borders borders chip)) { boot = None }

-- a boot doesn't end in a tick that is cut, which is one with a budget
abbrev pub ended_unless_cut : Option ℕ → Borders → State → State
ended_unless_cut (Some budget) borders chip = chip
ended_unless_cut None borders chip = boot_ended borders chip

-- The step.

abbrev pub after_boot_step : BootStep → State → State
after_boot_step (Going act) chip = acted act chip
after_boot_step (Done borders) chip = ended_unless_cut chip.bus.budget borders chip

abbrev pub booted_from : Ran Stepped → State → State
booted_from ran chip =
    after_boot_step (ran.value).step (record chip { bus = ran.part; boot = Some (ran.value).place })

-- the next step of the boot, as it runs on the chip
unfoldable pub boot_run : Place → State → Ran Stepped
boot_run place chip = run_of place chip.keep (begun chip.bus)
