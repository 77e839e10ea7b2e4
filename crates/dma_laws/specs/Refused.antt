-- What transfers move that lack a right, and that DMA reaches nothing of the area of the encapsulation.
use Rattle.std.specs.Prelude.{◌≡◌, ℕ, true, None}
use Rattle.chip_words.specs.declared.sizes.Size.{Size}
use Rattle.chip_words.specs.declared.sizes.Size.TheVariants.{Byte}
use Rattle.chip_words.specs.declared.accesses.Agent.TheVariants.{Dma}
use Rattle.chip_words.specs.declared.accesses.Kind.TheVariants.{Read, Write}
use Rattle.chip_words.specs.declared.segments.Right.TheVariants.{No}
use Rattle.chip_words.specs.declared.segments.Segment.{Segment}
use Rattle.chip_words.specs.BusPart.{BusPart}
use Rattle.chip_words.specs.Encap.{area}
use Rattle.chip_words.specs.Map.{aligned}
use Rattle.chip_words.specs.Memory.{stored}
use Rattle.chip_words.specs.Right.{right_of}
use Rattle.chip_words.specs.Seals.{is_in}
use Rattle.dma_unit.specs.declared.transfers.Move.{Move}
use Rattle.dma_laws.specs.Copies.{IsOpen, behind_move}

-- the addresses that a transfer reaches

abbrev pub source : Move → ℕ
source step = aligned step.read step.from

abbrev pub destination : Move → ℕ
destination step = aligned step.write step.to

-- what is read without the right to it
abbrev pub unreadable : Size → ℕ
unreadable Byte = 0xFF
unreadable size = 0x3FFF

-- a transfer stores no byte of its source at its destination, but what is read without a right
abbrev pub StoresUnreadable : Move → BusPart → Type 0
StoresUnreadable step part =
    (behind_move step part).memory ≡ stored part.memory (destination step) step.write (unreadable step.read)

-- a transfer leaves memory as it is
abbrev pub LeavesMemory : Move → BusPart → Type 0
LeavesMemory step part = (behind_move step part).memory ≡ part.memory

-- without the right to its source a transfer stores nothing of it, where no power is cut, and without that to its
-- destination it stores nothing at all
pub record RefusedTransfersMoveNothing : Type 0 where
  pub from :
      (step : Move) (part : BusPart) (place : Segment) → part.budget ≡ None →
      right_of part.units Dma Read (source step) ≡ No place → IsOpen part.units Write (destination step) →
      StoresUnreadable step part
  pub to :
      (step : Move) (part : BusPart) (place : Segment) →
      right_of part.units Dma Write (destination step) ≡ No place → LeavesMemory step part

-- so from and to the area, whatever the segments would say
pub record TransfersKeepOutOfArea : Type 0 where
  pub from :
      (step : Move) (part : BusPart) → part.budget ≡ None →
      is_in (area (part.units).encap) (source step) ≡ true → IsOpen part.units Write (destination step) →
      StoresUnreadable step part
  pub to :
      (step : Move) (part : BusPart) → is_in (area (part.units).encap) (destination step) ≡ true →
      LeavesMemory step part
