-- With the image's seal in force, every step leaves the seal, and one from outside leaves the bytes of the structure.
use Rattle.std.proofs.Common.{◌≡◌, ◌<◌, ◌-◌, ◌||◌, ℕ, List, Bool, true, false, slice_index, arith, refl, ap, sym, ◌∙◌, if◌then◌else◌}
use Rattle.std.specs.Prelude.{Option, Some, None, nat_lt}
use Rattle.chip_words.specs.declared.accesses.Agent.{Agent}
use Rattle.chip_words.specs.declared.accesses.Agent.TheVariants as by
use Rattle.chip_words.specs.BusPart.{BusPart}
use Rattle.chip_words.specs.Encap.{Encap, installed, seal}
use Rattle.chip_words.specs.Public.{IsOutside, IsSettled}
use Rattle.chip_words.specs.Registers.{PC}
use Rattle.chip_words.specs.Script.{Script, run}
use Rattle.chip_words.specs.Seals.{is_in, nowhere}
use Rattle.chip_words.specs.Steps.{begun, step_ended}
use Rattle.bus_fabric.specs.Fabric.{part_entered}
use Rattle.elf_image.specs.Image.{Segment, byte_of}
use Rattle.boot_code.specs.Boot.{SAVED, borders_of, is_good}
use Rattle.boot_code.specs.ImageSeal.{image_seal, image_structure, is_signed}
use Rattle.cpux_extended.specs.Instruction.{instruction}
use Rattle.dma_unit.specs.declared.transfers.Move.{Move}
use Rattle.dma_unit.specs.Moves.{transfer}
use Rattle.dma_unit.specs.Transfers.{move_at, transferred}
use Rattle.right_laws.specs.EncapLocks.{KeepsEncapsulation, lock}
use Rattle.access_laws.proofs.Guarding.{step-byte}
use Rattle.access_laws.proofs.Inside.{inside-locked}
use Rattle.access_laws.proofs.Masks.{is_in-nowhere}
use Rattle.step_laws.proofs.Shapes.{either_holds}
use Rattle.chip_core.specs.Entry.{entry}
use Rattle.chip_core.specs.Phase.{is_private}
use Rattle.chip_core.specs.State.{State}
use Rattle.chip_core.specs.Turns.{Turn, accepted_by, asked, entered, free_turn, instructed, is_halting, is_off, moved, processor_turn, reserved_cause, transfer_turn, with_dma, without_step}
use Rattle.release_log.specs.Lasting.{HaveSameStructure, SealsItself, image_pointer, structure_byte, structure_size}
use Rattle.release_log.proofs.Running.{units_entered-Leaves}
use Rattle.release_log.proofs.Locked.{run-KeepsEncapsulation, step_ended-LeavesStored}

-- ---- the seal of the image

-- the registers by the image's structure
abbrev pub image_encap : List Segment → Encap
image_encap image =
    let borders = borders_of (image_structure image) in
    installed borders.c0 borders.b2 borders.b1

-- an image that seals itself has a signature and a good structure, which gives the seal
pub record GivesSeal (image : List Segment) : Type 0 where
  pub signed : is_signed image ≡ true
  pub good : is_good (image_structure image) ≡ true
  pub seal : image_seal image ≡ seal (image_encap image)

pub image-GivesSeal : (image : List Segment) → SealsItself image → GivesSeal image
unfolding image_seal
image-GivesSeal image seals = by_signature (is_signed image) refl
  where
    first : ℕ
    first = structure_byte image 0

    by_check :
        (good : Bool) → is_signed image ≡ true → is_good (image_structure image) ≡ good → GivesSeal image
    by_check true signed good =
        record { signed = signed; good = good; seal = rw (signed, good) refl }
    by_check false signed bad =
        let empty : image_seal image ≡ nowhere = rw (signed, bad) refl in
        let none : is_in (image_seal image) first ≡ false = rw empty (is_in-nowhere first) in
        let held : is_in (image_seal image) first ≡ true = seals 0 (omega arith) in
        cc

    by_signature : (signed : Bool) → is_signed image ≡ signed → GivesSeal image
    by_signature true signed = by_check (is_good (image_structure image)) signed refl
    by_signature false unsigned =
        let empty : image_seal image ≡ nowhere = rw unsigned refl in
        let none : is_in (image_seal image) first ≡ false = rw empty (is_in-nowhere first) in
        let held : is_in (image_seal image) first ≡ true = seals 0 (omega arith) in
        cc

-- the image's seal is in force, and its addresses are those that stay secret
pub record IsSealed (image : List Segment) (part : BusPart) : Type 0 where
  pub encap : part.units.encap ≡ image_encap image
  pub kept : part.kept ≡ image_seal image

pub sealed-settled : (image : List Segment) (part : BusPart) → SealsItself image → IsSealed image part → IsSettled part
sealed-settled image part seals is =
    is.kept ∙ (image-GivesSeal image seals).seal ∙ sym (ap seal is.encap)

sealed-inside :
    (image : List Segment) (part : BusPart) (k : ℕ) → SealsItself image → IsSealed image part → k < structure_size →
    is_in part.kept (structure_byte image k) ≡ true
sealed-inside image part k seals is below = rw is.kept (seals k below)

pub sealed-locked : (image : List Segment) (part : BusPart) → SealsItself image → IsSealed image part → lock part ≡ true
sealed-locked image part seals is =
    let first = structure_byte image 0 in
    let held : is_in part.kept first ≡ true = sealed-inside image part 0 seals is (omega arith) in
    inside-locked part.units.encap first
    (ap (λ kept. is_in kept first) (sym (sealed-settled image part seals is)) ∙ held)

-- what leaves the encapsulation leaves the seal
pub keeps-IsSealed :
    (image : List Segment) (before after : BusPart) → KeepsEncapsulation before after → IsSealed image before →
    IsSealed image after
keeps-IsSealed image before after keeps is =
    record { encap = keeps.registers ∙ is.encap; kept = keeps.secret ∙ is.kept }

-- ---- a script, and the end of a step

pub run-IsSealed :
    {A : Type 0} (image : List Segment) (who : Agent) (step : Script A) (part : BusPart) → SealsItself image →
    IsSealed image part → IsSealed image (run who step part).part
run-IsSealed image who step part seals is =
    keeps-IsSealed image part (run who step part).part
    (run-KeepsEncapsulation who step part (sealed-locked image part seals is)) is

pub run-structure :
    {A : Type 0} (image : List Segment) (who : Agent) (step : Script A) (part : BusPart) → SealsItself image →
    IsSealed image part → IsOutside part.units.encap who →
    HaveSameStructure image part.memory (run who step part).part.memory
run-structure image who step part seals is outside k below =
    step-byte who step part (structure_byte image k) (sealed-settled image part seals is) outside
    (sealed-inside image part k seals is below)

pub step_ended-IsSealed :
    (image : List Segment) (part : BusPart) → IsSealed image part → IsSealed image (step_ended part)
step_ended-IsSealed image part is =
    keeps-IsSealed image part (step_ended part) (step_ended-LeavesStored part).encapsulation is

-- memory behind the end of a step has the bytes of one before it
pub step_ended-structure :
    (image : List Segment) (memory : List ℕ) (part : BusPart) → HaveSameStructure image memory part.memory →
    HaveSameStructure image memory (step_ended part).memory
step_ended-structure image memory part same k below =
    ap (λ memory. slice_index memory (structure_byte image k)) (step_ended-LeavesStored part).memory ∙ same k below

-- an entry clears what asked for it
part_entered-IsSealed :
    (image : List Segment) (vector : ℕ) (part : BusPart) → IsSealed image part →
    IsSealed image (part_entered vector part)
part_entered-IsSealed image vector part is =
    record { encap = (units_entered-Leaves vector part.units).encap ∙ is.encap; kept = is.kept }

-- ---- a chip whose boot is done

-- the pointer is saved, and the seal in force
pub record IsGuarded (image : List Segment) (chip : State) : Type 0 where
  pub booted : chip.boot ≡ None
  pub marked : chip.keep.mark ≡ SAVED
  pub saved : chip.keep.ptr ≡ image_pointer image
  pub sealed : IsSealed image chip.bus

-- memory has the structure of the image
abbrev pub HasStructure : List Segment → List ℕ → Type 0
HasStructure image memory =
    (k : ℕ) → k < structure_size → slice_index memory (structure_byte image k) ≡ byte_of image (structure_byte image k)

pub record IsHolding (image : List Segment) (chip : State) : Type 0 where
  pub guarded : IsGuarded image chip
  pub bytes : HasStructure image chip.bus.memory

pub same-HasStructure :
    (image : List Segment) (before after : List ℕ) → HaveSameStructure image before after → HasStructure image before →
    HasStructure image after
same-HasStructure image before after same has k below = same k below ∙ has k below

-- ---- the processor's turn

instructed-IsGuarded :
    (image : List Segment) (chip : State) → SealsItself image → IsGuarded image chip →
    IsGuarded image (instructed chip).chip
unfolding instructed
instructed-IsGuarded image chip seals is =
    let who = by.Cpu (slice_index chip.registers PC) in
    let ran = run who (instruction chip.registers) (begun chip.bus) in
    let start : IsSealed image (begun chip.bus) = record { encap = is.sealed.encap; kept = is.sealed.kept } in
    let made : IsSealed image ran.part =
    run-IsSealed image who (instruction chip.registers) (begun chip.bus) seals start in
    let asks : BusPart = asked (reserved_cause ran.value.outcome) ran.part in
    record {
      booted = is.booted;
      marked = is.marked;
      saved = is.saved;
      sealed = step_ended-IsSealed image asks (record { encap = made.encap; kept = made.kept });
    }

entered-IsGuarded :
    (image : List Segment) (vector : ℕ) (chip : State) → SealsItself image → IsGuarded image chip →
    IsGuarded image (entered vector chip).chip
unfolding entered
entered-IsGuarded image vector chip seals is =
    let ran = run by.Entry (entry vector chip.registers) (begun chip.bus) in
    let start : IsSealed image (begun chip.bus) = record { encap = is.sealed.encap; kept = is.sealed.kept } in
    let made : IsSealed image ran.part =
    run-IsSealed image by.Entry (entry vector chip.registers) (begun chip.bus) seals start in
    record {
      booted = is.booted;
      marked = is.marked;
      saved = is.saved;
      sealed =
          step_ended-IsSealed image (part_entered vector ran.part) (part_entered-IsSealed image vector ran.part made);
    }

pub turn-IsGuarded :
    (image : List Segment) (chip : State) → SealsItself image → IsGuarded image chip →
    IsGuarded image (processor_turn chip).chip
unfolding processor_turn
turn-IsGuarded image chip seals is =
    either_holds Guarded (nat_lt 0 chip.busy) (without_step (record chip { busy = chip.busy - 1 })) _
    (record { booted = is.booted; marked = is.marked; saved = is.saved; sealed = is.sealed })
    (either_holds Guarded (is_halting chip) (without_step (record chip { halted = true; pending = false })) _
    (record { booted = is.booted; marked = is.marked; saved = is.saved; sealed = is.sealed })
    (either_holds Guarded (chip.halted || chip.dead) (without_step chip) (free_turn (accepted_by chip) chip) is
    (by_vector (accepted_by chip))))
  where
    Guarded : Turn → Type 0
    Guarded turn = IsGuarded image turn.chip

    by_vector : (vector : Option ℕ) → Guarded (free_turn vector chip)
    by_vector (Some vector) = entered-IsGuarded image vector chip seals is
    by_vector None =
        either_holds Guarded (is_off chip) (without_step chip) (instructed chip) is
        (instructed-IsGuarded image chip seals is)

-- in public phase an instruction is none of the seal
outside-instruction :
    (chip : State) → chip.powered ≡ true → chip.boot ≡ None → chip.halted ≡ false → is_private chip ≡ false →
    IsOutside chip.bus.units.encap (by.Cpu (slice_index chip.registers PC))
unfolding is_private
outside-instruction chip lit booted runs public = grind (arith, lit, booted, runs, public)

-- and so the turn leaves the structure
pub turn-structure :
    (image : List Segment) (chip : State) → SealsItself image → IsGuarded image chip → chip.powered ≡ true →
    is_private chip ≡ false → HaveSameStructure image chip.bus.memory (processor_turn chip).chip.bus.memory
unfolding processor_turn instructed entered
turn-structure image chip seals is lit public =
    either_holds Same (nat_lt 0 chip.busy) (without_step (record chip { busy = chip.busy - 1 })) _ (λ k below. refl)
    (either_holds Same (is_halting chip) (without_step (record chip { halted = true; pending = false })) _
    (λ k below. refl) (by_halt chip.halted refl))
  where
    Same : Turn → Type 0
    Same turn = HaveSameStructure image chip.bus.memory turn.chip.bus.memory

    start : IsSealed image (begun chip.bus)
    start = record { encap = is.sealed.encap; kept = is.sealed.kept }

    by_vector : (vector : Option ℕ) → chip.halted ≡ false → Same (free_turn vector chip)
    by_vector (Some vector) runs =
        let script = entry vector chip.registers in
        let ran = run by.Entry script (begun chip.bus) in
        step_ended-structure image chip.bus.memory (part_entered vector ran.part)
        (run-structure image by.Entry script (begun chip.bus) seals start tt)
    by_vector None runs =
        let who = by.Cpu (slice_index chip.registers PC) in
        let script = instruction chip.registers in
        let ran = run who script (begun chip.bus) in
        either_holds Same (is_off chip) (without_step chip) (instructed chip) (λ k below. refl)
        (step_ended-structure image chip.bus.memory (asked (reserved_cause ran.value.outcome) ran.part)
        (run-structure image who script (begun chip.bus) seals start
        (outside-instruction chip lit is.booted runs public)))

    by_halt :
        (halted : Bool) → chip.halted ≡ halted →
        Same (if halted || chip.dead then without_step chip else free_turn (accepted_by chip) chip)
    by_halt true e = λ k below. refl
    by_halt false e =
        either_holds Same chip.dead (without_step chip) (free_turn (accepted_by chip) chip) (λ k below. refl)
        (by_vector (accepted_by chip) e)

-- ---- a transfer of DMA

moved-IsHolding :
    (image : List Segment) (move : Option Move) (chip : State) → SealsItself image → IsHolding image chip →
    IsHolding image (moved move chip).chip
moved-IsHolding image None chip seals is = is
moved-IsHolding image (Some move) chip seals is =
    let guarded = is.guarded in
    let script = transfer move in
    let ran = run by.Dma script (begun chip.bus) in
    let start : IsSealed image (begun chip.bus) =
    record { encap = guarded.sealed.encap; kept = guarded.sealed.kept } in
    record {
      guarded = record {
        booted = guarded.booted;
        marked = guarded.marked;
        saved = guarded.saved;
        sealed = step_ended-IsSealed image ran.part (run-IsSealed image by.Dma script (begun chip.bus) seals start);
      };
      bytes =
          same-HasStructure image chip.bus.memory (step_ended ran.part).memory
          (step_ended-structure image chip.bus.memory ran.part
          (run-structure image by.Dma script (begun chip.bus) seals start tt))
          is.bytes;
    }

pub transfer-IsHolding :
    (image : List Segment) (channel : ℕ) (chip : State) → SealsItself image → IsHolding image chip →
    IsHolding image (transfer_turn channel chip).chip
unfolding transfer_turn
transfer-IsHolding image channel chip seals is =
    let guarded = is.guarded in
    moved-IsHolding image (move_at channel chip.bus.units.dma.channels) (with_dma (transferred channel) chip)
    seals
    (record {
      guarded = record {
        booted = guarded.booted;
        marked = guarded.marked;
        saved = guarded.saved;
        sealed = record { encap = guarded.sealed.encap; kept = guarded.sealed.kept };
      };
      bytes = is.bytes;
    })
