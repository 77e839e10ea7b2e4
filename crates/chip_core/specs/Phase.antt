-- Whether the chip is in the code that is sealed.
use Rattle.std.specs.Prelude.{◌&&◌, not, Bool, is_none, slice_index}
use Rattle.chip_words.specs.Encap.{seal}
use Rattle.chip_words.specs.Registers.{PC}
use Rattle.chip_words.specs.Seals.{is_in}
use Rattle.chip_core.specs.State.{State}

-- power is on, and the boot is done
abbrev pub is_up : State → Bool
is_up chip = chip.powered && is_none chip.boot

-- the phase is private: the processor isn't halted, and its next instruction is in the seal
unfoldable pub is_private : State → Bool
is_private chip =
    is_up chip && not chip.halted && is_in (seal ((chip.bus).units).encap) (slice_index chip.registers PC)
