-- A turn of the processor that doesn't write the structure leaves it.
use Rattle.std.proofs.Common.{◌≡◌, nat_lt, ℕ, List, [], slice_index, refl, ap, sym, ◌∙◌, subst}
use Rattle.std.specs.Prelude.{All, Option, Some, None}
use Rattle.chip_words.specs.declared.accesses.Agent.{Agent}
use Rattle.chip_words.specs.declared.accesses.Agent.TheVariants as by
use Rattle.chip_words.specs.BusPart.{BusPart}
use Rattle.chip_words.specs.Registers.{PC}
use Rattle.chip_words.specs.Script.{Script, run}
use Rattle.chip_words.specs.Steps.{begun, step_ended}
use Rattle.bus_fabric.specs.Fabric.{part_entered}
use Rattle.elf_image.specs.Image.{Segment}
use Rattle.power_schedule.specs.declared.powers.Power.{Power}
use Rattle.stimulus.specs.Stimulus.{Stimulus}
use Rattle.cpux_extended.specs.Instruction.{instruction}
use Rattle.chip_core.specs.declared.owners.Owner.{Owner}
use Rattle.chip_core.specs.declared.owners.Owner.TheVariants.{Processor}
use Rattle.chip_core.specs.Entry.{entry}
use Rattle.chip_core.specs.FirstState.{first_state}
use Rattle.chip_core.specs.Run.{chip_after}
use Rattle.chip_core.specs.State.{State}
use Rattle.chip_core.specs.Tick.{moments, power_of, stages, stages_by}
use Rattle.chip_core.specs.Turns.{Turn, accepted_by, asked, entered, free_turn, instructed, is_halting, is_off, owned, processor_turn, reserved_cause, rested_by, without_step}
use Rattle.release_log.specs.Lasting.{IsMissed, IsSpared, MissesStructure, SealLasts, SparesStructure, structure_byte}
use Rattle.release_log.specs.Puts.{instruction_writes, processor_writes, step_writes}
use Rattle.release_log.specs.Writes.{Misses, StepWrite, writes_of}
use Rattle.release_log.proofs.Lasts.{seal_comes_back}
use Rattle.release_log.proofs.Locked.{step_ended-LeavesStored}
use Rattle.release_log.proofs.Missed.{run-missed}
use Rattle.release_log.proofs.Shorts.{both_hold, by_tests}

-- ---- a turn

-- a byte behind the end of a step whose accesses miss it; what is asked for or cleared in between leaves memory
ended-missed :
    {A : Type 0} (who : Agent) (step : Script A) (part last : BusPart) (byte : ℕ) →
    last.memory ≡ (run who step part).part.memory → All (Misses byte) (writes_of who step part) →
    slice_index (step_ended last).memory byte ≡ slice_index part.memory byte
ended-missed who step part last byte same misses =
    ap (λ memory. slice_index memory byte) ((step_ended-LeavesStored last).memory ∙ same)
    ∙ run-missed who step part byte misses

turn-missed :
    (chip : State) (byte : ℕ) → All (Misses byte) (processor_writes chip) →
    slice_index (processor_turn chip).chip.bus.memory byte ≡ slice_index chip.bus.memory byte
unfolding processor_turn instructed entered
turn-missed chip byte =
    by_tests Leaves (nat_lt 0 chip.busy) (is_halting chip) chip.halted chip.dead [] _ _ _ _ _
    (λ misses. refl) (λ misses. refl) (λ misses. refl) (by_vector (accepted_by chip))
  where
    Leaves : List StepWrite → Turn → Type 0
    Leaves writes turn =
        All (Misses byte) writes → slice_index turn.chip.bus.memory byte ≡ slice_index chip.bus.memory byte

    by_vector : (vector : Option ℕ) → Leaves (step_writes vector chip) (free_turn vector chip)
    by_vector (Some vector) =
        let script = entry vector chip.registers in
        let ran = run by.Entry script (begun chip.bus) in
        λ misses. ended-missed by.Entry script (begun chip.bus) (part_entered vector ran.part) byte refl misses
    by_vector None =
        let who = by.Cpu (slice_index chip.registers PC) in
        let script = instruction chip.registers in
        let ran = run who script (begun chip.bus) in
        both_hold Leaves (is_off chip) [] (instruction_writes chip) (without_step chip) (instructed chip)
        (λ misses. refl)
        (λ misses.
        ended-missed who script (begun chip.bus) (asked (reserved_cause ran.value.outcome) ran.part) byte refl misses)

-- ---- a run

misses-SparesStructure :
    (image : List Segment) (power : Power) (ready : State) (owner : Owner) →
    MissesStructure image (stages_by power ready owner) → SparesStructure image (stages_by power ready owner)
unfolding owned
misses-SparesStructure image power ready owner misses private k below =
    subst
    (λ (owner : Owner).
    slice_index (owned owner ready).chip.bus.memory (structure_byte image k)
    ≡ slice_index ready.bus.memory (structure_byte image k))
    (sym private.owner)
    (turn-missed (rested_by Processor ready) (structure_byte image k) (misses private k below))

missed-IsSpared :
    (image : List Segment) (bench : Stimulus) (chip : State) → IsMissed image bench chip → IsSpared image bench chip
unfolding moments stages
missed-IsSpared image bench chip missed = record {
  steps = misses-SparesStructure image (power_of bench chip) _ _ missed.steps;
  erases = missed.erases;
}

pub seal_lasts : SealLasts
seal_lasts image bench n seals missed =
    seal_comes_back image bench n seals
    (λ k below. missed-IsSpared image bench (chip_after k bench (first_state image bench.fill)) (missed k below))
