-- What a boot that ends installs, and that the kept set stands until one does (SLAU367, SYS, boot code; MPU, IP
-- Encapsulation).
use Rattle.std.specs.Prelude.{◌≡◌, ◌≢◌, ◌*◌, ◌/◌, ℕ, true, false, bit_and}
use Rattle.chip_words.specs.Encap.{Encap, seal}
use Rattle.boot_code.specs.Boot.{SAVED, is_good}
use Rattle.boot_code.specs.Facts.{structure_at}
use Rattle.boot_code.specs.Place.{Structure}
use Rattle.stimulus.specs.Stimulus.{Stimulus}
use Rattle.chip_core.specs.Phase.{is_up}
use Rattle.chip_core.specs.State.{State}
use Rattle.chip_core.specs.Tick.{power_of, ticked}
use Rattle.release_log.specs.Facts.{IsSound, MayBeOff}

-- The registers that a structure gives.

-- MPUIPC0 has bits 7:5 of its word, which are LOCK, ENA and VS
abbrev pub CONTROL_BITS : ℕ
CONTROL_BITS = 0xE0

-- a border has the bits of its word from 6 up: it is a multiple of this
abbrev pub BORDER_UNIT : ℕ
BORDER_UNIT = 64

abbrev pub border_of : ℕ → ℕ
border_of word = word / BORDER_UNIT * BORDER_UNIT

abbrev pub encapsulation_of : Structure → Encap
encapsulation_of words = record {
  mpuipc0 = bit_and words.control CONTROL_BITS;
  mpuipsegb2 = border_of words.second_border;
  mpuipsegb1 = border_of words.first_border;
}

-- and those without one
abbrev pub no_encapsulation : Encap
no_encapsulation = record { mpuipc0 = 0; mpuipsegb2 = 0; mpuipsegb1 = 0 }

-- The structure that stands in FRAM at the saved pointer.
abbrev pub saved_structure : State → Structure
saved_structure chip = structure_at chip.bus.memory chip.keep.ptr

abbrev pub encapsulation : State → Encap
encapsulation chip = (chip.bus.units).encap

-- What holds where a boot came to its end: with the pointer saved the registers are those of the structure that
-- stands there, whose check is good, and else they are 0; and the bytes that stay secret are those of the seal.
pub record IsInstalled (chip : State) : Type 0 where
  pub saved : chip.keep.mark ≡ SAVED → encapsulation chip ≡ encapsulation_of (saved_structure chip)
  pub good : chip.keep.mark ≡ SAVED → is_good (saved_structure chip) ≡ true
  pub others : chip.keep.mark ≢ SAVED → encapsulation chip ≡ no_encapsulation
  pub secret : chip.bus.kept ≡ seal (encapsulation chip)

-- The laws of one tick of a chip that isn't up: its power is off, or its boot isn't done.

-- where the tick leaves it up, a boot came to its end, whose structure still stands as the boot read it
abbrev pub BootInstalls : Type 0
BootInstalls =
    (bench : Stimulus) (chip : State) → MayBeOff (power_of bench chip) chip → IsSound chip →
    is_up chip ≡ false → is_up (ticked bench chip) ≡ true → IsInstalled (ticked bench chip)

-- and where it doesn't, the same bytes stay secret: while a boot goes on, in a cut of one, even at its last step, and
-- without power
abbrev pub BootKeepsKept : Type 0
BootKeepsKept =
    (bench : Stimulus) (chip : State) → MayBeOff (power_of bench chip) chip → IsSound chip →
    is_up chip ≡ false → is_up (ticked bench chip) ≡ false → (ticked bench chip).bus.kept ≡ chip.bus.kept
