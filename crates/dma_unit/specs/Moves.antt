-- A transfer of DMA as a step: what it moves, and its two accesses (SLAU367, DMA controller).
use Rattle.std.specs.Prelude.{◌<◌, ℕ, ◌%◌}
use Rattle.chip_words.specs.declared.sizes.Size.{Size}
use Rattle.chip_words.specs.declared.sizes.Size.TheVariants.{Byte}
use Rattle.chip_words.specs.declared.accesses.Kind.TheVariants.{Read, Write}
use Rattle.chip_words.specs.Sizes.{IsByteOrWord}
use Rattle.chip_words.specs.Script.{Script, Return, Ask}
use Rattle.dma_unit.specs.declared.transfers.Move.{Move}

-- its addresses have 20 bits, and its widths are bytes or words
pub record IsMove (step : Move) : Type 0 where
  pub from : step.from < 0x100000
  pub to : step.to < 0x100000
  pub read : IsByteOrWord step.read
  pub write : IsByteOrWord step.write

-- what is written of a value that was read: the lower byte of a word, and a byte as it is, so that the upper byte of a
-- word is 0
abbrev pub fitted_to : Size → ℕ → ℕ
fitted_to Byte value = value % 0x100
fitted_to size value = value

-- a value is read at one address and written at the other; the script ends in what was written
unfoldable pub transfer : Move → Script ℕ
transfer step =
    Ask Read step.from step.read 0 (λ value.
    Ask Write step.to step.write (fitted_to step.write value) (λ written.
    Return written))
