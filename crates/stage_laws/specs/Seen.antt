-- What is public of a chip when the owner of the bus acts, and what a private turn leaves of it.
use Rattle.std.specs.Prelude.{◌≡◌, ℕ, Bool, true, if◌then◌else◌, List, [], Option, IfSome, length}
use Rattle.chip_words.specs.BusPart.{BusPart}
use Rattle.chip_words.specs.Causes.{no_causes}
use Rattle.chip_words.specs.Public.{IsSettled, public_part}
use Rattle.chip_words.specs.Registers.{AreRegisters}
use Rattle.access_laws.specs.Boots.{HasBorders}
use Rattle.boot_code.specs.Place.{IsPlace}
use Rattle.right_laws.specs.Ends.{requests}
use Rattle.chip_core.specs.Items.{power_bits}
use Rattle.chip_core.specs.Phase.{is_private, is_up}
use Rattle.chip_core.specs.State.{State}
use Rattle.chip_core.specs.Tick.{taken_cause}

-- The public part of a chip.

-- what is public in either phase: all but the bytes that stay secret, what stands within a tick alone, the registers, and
-- how long the processor is busy
abbrev pub always_public : State → State
always_public chip = record chip { bus = public_part chip.bus; registers = []; busy = 0 }

-- the public part: with the phase, with the bits of SR that switch clocks and the processor, and in public phase with all
-- registers and with how long the processor is busy
pub record Seen : Type 0 where
  pub private : Bool
  pub chip : State
  pub power : ℕ
  pub registers : List ℕ
  pub busy : ℕ

abbrev pub seen : State → Seen
seen chip = record {
  private = is_private chip;
  chip = always_public chip;
  power = power_bits chip;
  registers = (if is_private chip then [] else chip.registers);
  busy = (if is_private chip then 0 else chip.busy);
}

-- What a turn in private phase leaves.

-- no cause is requested
abbrev pub without_requests : BusPart → BusPart
without_requests part = record part {
  units = record (part.units) { sys = record ((part.units).sys) { requested = no_causes } };
}

-- what is public in private phase but for the phase: of the causes that are requested the least alone
pub record Left : Type 0 where
  pub least : Option ℕ
  pub chip : State
  pub power : ℕ

abbrev pub left : State → Left
left chip = record {
  least = taken_cause chip;
  chip = record (always_public chip) { bus = without_requests (public_part chip.bus) };
  power = power_bits chip;
}

-- When the owner of the bus acts.

-- The registers and the borders of the kept set are of their kind, the causes that are requested have their number, nothing
-- is noted and nothing listed. Once a boot is done the kept set is the seal; and an erase goes on at a word of FRAM.
pub record IsReady (chip : State) : Type 0 where
  pub registers : AreRegisters chip.registers
  pub borders : HasBorders chip.bus.kept
  pub count : length (requests chip.bus) ≡ length no_causes
  pub quiet : chip.bus.noted ≡ 0
  pub unlisted : chip.bus.accesses ≡ []
  pub settled : is_up chip ≡ true → IsSettled chip.bus
  pub place : IfSome chip.boot IsPlace
