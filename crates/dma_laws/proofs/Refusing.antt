-- Transfers that lack a right.
use Rattle.std.proofs.Common.{◌≡◌, ℕ, ◌||◌, not, true, false, Option, Some, None, refl, ap, ◌∙◌, if◌then◌else◌}
use Rattle.chip_words.specs.declared.sizes.Size.{Size}
use Rattle.chip_words.specs.declared.sizes.Size.TheVariants.{Byte, Word, Addr}
use Rattle.chip_words.specs.declared.accesses.Kind.{Kind}
use Rattle.chip_words.specs.declared.accesses.Kind.TheVariants.{Read, Write}
use Rattle.chip_words.specs.declared.accesses.Agent.TheVariants.{Dma}
use Rattle.chip_words.specs.declared.regions.Region.{Region}
use Rattle.chip_words.specs.declared.regions.Region.TheVariants.{Periph, Info, Descriptor, Sram, Main, Vacant}
use Rattle.chip_words.specs.declared.segments.Right.{Right}
use Rattle.chip_words.specs.declared.segments.Right.TheVariants.{Yes, No}
use Rattle.chip_words.specs.declared.segments.Segment.{Segment}
use Rattle.chip_words.specs.declared.segments.Segment.TheVariants.{Sealed}
use Rattle.chip_words.specs.declared.unit_names.UnitName.{UnitName}
use Rattle.chip_words.specs.declared.unit_names.UnitName.TheVariants as of
use Rattle.chip_words.specs.Access.{access, access_by_right, access_present, access_refused, access_region, blank, is_over, listed, numbered, write_absent}
use Rattle.chip_words.specs.Addresses.{unit_at}
use Rattle.chip_words.specs.BusPart.{BusPart}
use Rattle.chip_words.specs.Encap.{allows, area, has_area_right}
use Rattle.chip_words.specs.Map.{aligned, region_at}
use Rattle.chip_words.specs.Memory.{stored}
use Rattle.chip_words.specs.Mpu.{mpu_touched, segment_right}
use Rattle.chip_words.specs.Right.{is_segmented, right_of}
use Rattle.chip_words.specs.Seals.{is_in}
use Rattle.chip_words.specs.Units.{Units, periph, touched_in, units_touched}
use Rattle.dma_unit.specs.declared.transfers.Move.{Move}
use Rattle.dma_unit.specs.Moves.{fitted_to, transfer}
use Rattle.dma_laws.specs.Copies.{IsOpen}
use Rattle.dma_laws.specs.Refused.{LeavesMemory, RefusedTransfersMoveNothing, StoresUnreadable, TransfersKeepOutOfArea, destination, source, unreadable}
use Rattle.dma_laws.proofs.Copied.{stored-fitted, write}

-- ---- without the right to the source

refused :
    (kind : Kind) (at : ℕ) (size : Size) (value : ℕ) (part : BusPart) (place : Segment) →
    right_of part.units Dma kind at ≡ No place →
    access_by_right (right_of part.units Dma kind at) Dma kind at size value part
    ≡ access_refused Dma place kind size value part
refused kind at size value part place lacks = ap (λ right. access_by_right right Dma kind at size value part) lacks

refused_read :
    (at : ℕ) (size : Size) (part : BusPart) (place : Segment) →
    right_of part.units Dma Read (aligned size at) ≡ No place →
    access Dma Read at size 0 part
    ≡ listed Dma Read (aligned size at) size true (access_refused Dma place Read size 0 part)
unfolding access
refused_read at size part place lacks =
    ap (listed Dma Read (aligned size at) size true) (refused Read (aligned size at) size 0 part place lacks)

blank_is_unreadable : (size : Size) → blank size ≡ unreadable size
blank_is_unreadable Byte = refl
blank_is_unreadable Word = refl
blank_is_unreadable Addr = refl

stores_unreadable :
    (step : Move) (part : BusPart) (place : Segment) → part.budget ≡ None →
    right_of part.units Dma Read (source step) ≡ No place → IsOpen part.units Write (destination step) →
    StoresUnreadable step part
unfolding transfer
stores_unreadable step part place whole lacks opened =
    let got = listed Dma Read (source step) step.read true (access_refused Dma place Read step.read 0 part) in
    ap (λ r. ((access Dma Write step.to step.write (fitted_to step.write r.answer) r.part).part).memory)
    (refused_read step.from step.read part place lacks)
    ∙ ap (λ a. (a.part).memory)
    (write step.to step.write (fitted_to step.write got.answer) got.part whole opened)
    ∙ stored-fitted part.memory (destination step) step.write (blank step.read)
    ∙ ap (stored part.memory (destination step) step.write) (blank_is_unreadable step.read)

-- ---- without the right to the destination

-- a read leaves memory, and the rights of DMA
record LeavesRights (before after : BusPart) : Type 0 where
  memory : after.memory ≡ before.memory
  rights : (kind : Kind) (at : ℕ) → right_of after.units Dma kind at ≡ right_of before.units Dma kind at

touched_leaves :
    (at : ℕ) (units : Units) (unit : Option UnitName) (kind : Kind) (to : ℕ) →
    right_of (touched_in unit units at) Dma kind to ≡ right_of units Dma kind to
unfolding right_of mpu_touched segment_right
touched_leaves at units (Some of.Sys) kind to = refl
touched_leaves at units (Some of.Timers) kind to = refl
touched_leaves at units (Some of.Ports) kind to = refl
touched_leaves at units (Some of.Dma) kind to = refl
touched_leaves at units (Some of.Fram) kind to = refl
touched_leaves at units (Some of.Mpu) kind to = refl
touched_leaves at units (Some of.Encap) kind to = refl
touched_leaves at units None kind to = refl

region_leaves :
    (region : Region) (at : ℕ) (size : Size) (part : BusPart) →
    LeavesRights part (access_region region Read at size 0 part).part
unfolding periph units_touched right_of
region_leaves Periph at size part =
    record { memory = refl; rights = λ kind to. touched_leaves at part.units (unit_at at) kind to }
region_leaves Descriptor at size part = record { memory = refl; rights = λ kind to. refl }
region_leaves Vacant at size part = record { memory = refl; rights = λ kind to. refl }
region_leaves Info at size part = record { memory = refl; rights = λ kind to. refl }
region_leaves Sram at size part = record { memory = refl; rights = λ kind to. refl }
region_leaves Main at size part = record { memory = refl; rights = λ kind to. refl }

right_leaves :
    (right : Right) (at : ℕ) (size : Size) (part : BusPart) →
    LeavesRights part (access_by_right right Dma Read at size 0 part).part
right_leaves Yes at size part = region_leaves (region_at at) at size part
right_leaves (No place) at size part = record { memory = refl; rights = λ kind to. refl }

read_leaves : (at : ℕ) (size : Size) (part : BusPart) → LeavesRights part (access Dma Read at size 0 part).part
unfolding access
read_leaves at size part =
    let place = aligned size at in
    let leaves = right_leaves (right_of part.units Dma Read place) place size part in
    record { memory = leaves.memory; rights = leaves.rights }

refused_write :
    (at : ℕ) (size : Size) (value : ℕ) (part : BusPart) (place : Segment) →
    right_of part.units Dma Write (aligned size at) ≡ No place →
    ((access Dma Write at size value part).part).memory ≡ part.memory
unfolding access
refused_write at size value part place lacks =
    let next = numbered part in
    elim (is_over next.budget next.writes) as
    (λ b.
    ((if b then write_absent Dma (aligned size at) size value next
    else access_present Dma Write (aligned size at) size value next).part).memory
    ≡ part.memory) [
      | true ↦ refl
      | false ↦ ap (λ a. (a.part).memory) (refused Write (aligned size at) size value next place lacks)
    ]

leaves_memory :
    (step : Move) (part : BusPart) (place : Segment) →
    right_of part.units Dma Write (destination step) ≡ No place → LeavesMemory step part
unfolding transfer
leaves_memory step part place lacks =
    let got = access Dma Read step.from step.read 0 part in
    let leaves = read_leaves step.from step.read part in
    refused_write step.to step.write (fitted_to step.write got.answer) got.part place
    (leaves.rights Write (destination step) ∙ lacks)
    ∙ leaves.memory

pub refused_transfers_move_nothing : RefusedTransfersMoveNothing
refused_transfers_move_nothing = record { from = stores_unreadable; to = leaves_memory }

-- ---- the area

area_refuses :
    (units : Units) (kind : Kind) (at : ℕ) → is_in (area units.encap) at ≡ true →
    right_of units Dma kind at ≡ No Sealed
unfolding right_of allows
area_refuses units kind at inside =
    ap
    (λ b. if not (not b || has_area_right units.encap Dma kind) then No Sealed
    else if is_segmented Dma then segment_right units.mpu kind at
    else Yes)
    inside

pub transfers_keep_out_of_area : TransfersKeepOutOfArea
transfers_keep_out_of_area = record {
  from = λ step part whole inside opened.
      stores_unreadable step part Sealed whole (area_refuses part.units Read (source step) inside) opened;
  to = λ step part inside. leaves_memory step part Sealed (area_refuses part.units Write (destination step) inside);
}
