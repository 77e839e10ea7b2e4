-- Behind every tick of a run the image's seal is to come back, or in force.
use Rattle.std.proofs.Common.{◌≡◌, ◌<◌, ◌+◌, ◌*◌, ℕ, List, true, slice_index, zero, suc, arith, refl, ap, sym, ◌∙◌, subst, if◌then◌else◌}
use Rattle.std.specs.Prelude.{Option, Some, None}
use Rattle.std.proofs.lemmas.Bool.Decides.{nat_tests}
use Rattle.chip_words.specs.declared.sizes.Size.TheVariants.{Word}
use Rattle.chip_words.specs.Access.{blank}
use Rattle.chip_words.specs.Causes.{is_of_bor}
use Rattle.chip_words.specs.Encap.{seal}
use Rattle.chip_words.specs.Map.{is_fram, is_sram}
use Rattle.chip_words.specs.Memory.{loaded}
use Rattle.bus_fabric.specs.Memory.{sram_filled}
use Rattle.bus_fabric.proofs.MemoryBy.{slice_index-memory_by}
use Rattle.elf_image.specs.Image.{Segment, byte_of}
use Rattle.boot_code.specs.declared.boots.Keep.{Keep}
use Rattle.boot_code.specs.Boot.{POINTER_AT, SIGNATURE_AT}
use Rattle.boot_code.specs.Facts.{boot_word}
use Rattle.boot_code.specs.ImageSeal.{image_seal, image_word}
use Rattle.boot_code.specs.Place.{Place}
use Rattle.boot_code.proofs.Wiping.{fram-cases}
use Rattle.power_schedule.specs.declared.powers.Power.{Power}
use Rattle.power_schedule.specs.declared.powers.Power.TheVariants.{On, Cut, Off}
use Rattle.stimulus.specs.Events.{on_tick}
use Rattle.stimulus.specs.Stimulus.{Stimulus}
use Rattle.access_laws.proofs.Courses.{chosen}
use Rattle.step_laws.proofs.Shapes.{either_holds}
use Rattle.chip_core.specs.FirstState.{first_byte, first_memory, first_state}
use Rattle.chip_core.specs.Phase.{is_up}
use Rattle.chip_core.specs.Run.{chip_after}
use Rattle.chip_core.specs.State.{State}
use Rattle.chip_core.specs.Tick.{after_bor, after_cause, after_events, after_puc, cut, finished, moments, power_of, powered, reset, stages, stages_from, stimulated, taken_cause, ticked, timed}
use Rattle.release_log.specs.Facts.{FitsChip}
use Rattle.release_log.specs.Lasting.{AreNoErases, HasImageSeal, IsSpared, SealComesBack, SealsItself, structure_byte}
use Rattle.release_log.proofs.Begins.{run-IsSound}
use Rattle.release_log.proofs.Held.{IsHeld, Rests, Stands, inside-fram, word-same}
use Rattle.release_log.proofs.Holds.{events-IsWithin, powered-IsWithin, powered-tick, stage-IsHeld, timed-IsWithin, up-booted}
use Rattle.release_log.proofs.Shorts.{filled-fram, fram_within}
use Rattle.release_log.proofs.Spared.{image-GivesSeal}

-- ---- FRAM outlasts a cut

filled-word :
    (fill : ℕ) (memory : List ℕ) (at : ℕ) → is_fram at ≡ true → is_fram (at + 1) ≡ true →
    boot_word (sram_filled fill memory) at ≡ boot_word memory at
unfolding boot_word loaded
filled-word fill memory at low high =
    ap (λ n. if is_fram at then n + 0x100 * slice_index (sram_filled fill memory) (at + 1) else blank Word)
    (filled-fram fill memory at low)
    ∙ ap (λ n. if is_fram at then slice_index memory at + 0x100 * n else blank Word)
    (filled-fram fill memory (at + 1) high)

filled-Rests :
    (image : List Segment) (fill : ℕ) (keep : Keep) (memory : List ℕ) → SealsItself image → Rests image keep memory →
    Rests image keep (sram_filled fill memory)
filled-Rests image fill keep memory seals rests = record {
  marked = rests.marked;
  saved = rests.saved;
  signed = λ e.
      filled-word fill memory SIGNATURE_AT (grind (arith, nat_tests, fram-cases 0xFF88))
      (grind (arith, nat_tests, fram-cases 0xFF89))
      ∙ rests.signed e;
  first = λ e.
      filled-word fill memory POINTER_AT (grind (arith, nat_tests, fram-cases 0xFF8A))
      (grind (arith, nat_tests, fram-cases 0xFF8B))
      ∙ rests.first e;
  bytes = λ k below.
      filled-fram fill memory (structure_byte image k)
      (inside-fram (image_seal image) (structure_byte image k) (seals k below))
      ∙ rests.bytes k below;
}

-- ---- the last stages

reset-IsHeld : (image : List Segment) (chip : State) → IsHeld image chip → IsHeld image (reset chip)
unfolding reset
reset-IsHeld image chip held = by_cause (taken_cause chip)
  where
    by_cause : (cause : Option ℕ) → IsHeld image (after_cause cause chip)
    by_cause None = held
    by_cause (Some cause) =
        either_holds (IsHeld image) (is_of_bor cause) (after_bor cause chip) (after_puc cause chip)
        (record { rests = held.rests; kept = held.kept; stands = refl })
        (record { rests = held.rests; kept = held.kept; stands = held.stands })

cut-IsHeld : (image : List Segment) (chip : State) → SealsItself image → IsHeld image chip → IsHeld image (cut chip)
unfolding cut
cut-IsHeld image chip seals held = record {
  rests = filled-Rests image chip.bus.fill chip.keep chip.bus.memory seals held.rests;
  kept = held.kept;
  stands = refl;
}

finished-IsHeld :
    (image : List Segment) (power : Power) (chip : State) → SealsItself image → IsHeld image chip →
    IsHeld image (finished power chip)
finished-IsHeld image On chip seals held = reset-IsHeld image chip held
finished-IsHeld image (Cut writes) chip seals held = cut-IsHeld image chip seals held
finished-IsHeld image Off chip seals held = held

-- ---- a tick

ticked-IsHeld :
    (image : List Segment) (bench : Stimulus) (chip : State) → SealsItself image →
    FitsChip chip.boot chip.keep chip.bus.memory → IsSpared image bench chip → IsHeld image chip →
    IsHeld image (ticked bench chip)
unfolding ticked moments stages stimulated
ticked-IsHeld image bench chip seals fit spared held =
    let power = power_of bench chip in
    let begins = powered power chip in
    let events = on_tick begins.tick bench.events in
    let none : AreNoErases events begins =
    subst (λ tick. AreNoErases (on_tick tick bench.events) begins) (sym (powered-tick power chip)) spared.erases in
    let told = events-IsWithin image power events begins seals none (powered-IsWithin image power chip held fit) in
    let ready = timed power (after_events events begins) in
    let turned =
    stage-IsHeld image power ready seals (timed-IsWithin image power (after_events events begins) told) spared.steps in
    let ended = finished-IsHeld image power (stages_from power ready).turn.chip seals turned in
    record { rests = ended.rests; kept = ended.kept; stands = ended.stands }

-- ---- a run

pub first-get :
    (image : List Segment) (fill at : ℕ) → is_fram at ≡ true →
    slice_index (first_memory image fill) at ≡ byte_of image at
first-get image fill at fram =
    slice_index-memory_by (first_byte image fill) at (fram_within at fram)
    ∙ chosen (is_fram at) (byte_of image at) (if is_sram at then fill else 0) fram

first-word :
    (image : List Segment) (fill at : ℕ) → is_fram at ≡ true → is_fram (at + 1) ≡ true →
    boot_word (first_memory image fill) at ≡ image_word image at
first-word image fill at low high =
    word-same image (first_memory image fill) at (first-get image fill at low) (first-get image fill (at + 1) high)

first-IsHeld :
    (image : List Segment) (fill : ℕ) → SealsItself image → IsHeld image (first_state image fill)
first-IsHeld image fill seals =
    let gives = image-GivesSeal image seals in
    let signed = gives.signed in
    record {
      rests = record {
        marked = refl;
        saved = λ e. absurd (omega arith);
        signed = λ e.
            first-word image fill SIGNATURE_AT (grind (arith, nat_tests, fram-cases 0xFF88))
            (grind (arith, nat_tests, fram-cases 0xFF89))
            ∙ grind (arith, nat_tests);
        first = λ e.
            first-word image fill POINTER_AT (grind (arith, nat_tests, fram-cases 0xFF8A))
            (grind (arith, nat_tests, fram-cases 0xFF8B));
        bytes = λ k below.
            first-get image fill (structure_byte image k)
            (inside-fram (image_seal image) (structure_byte image k) (seals k below));
      };
      kept = refl;
      stands = refl;
    }

-- the facts of every chip of the run
abbrev FitsThrough : List Segment → Stimulus → ℕ → Type 0
FitsThrough image bench n =
    (k : ℕ) → k < n →
    (let chip = chip_after k bench (first_state image bench.fill) in FitsChip chip.boot chip.keep chip.bus.memory)

run-IsHeld :
    (image : List Segment) (bench : Stimulus) (n : ℕ) → SealsItself image → FitsThrough image bench n →
    ((k : ℕ) → k < n → IsSpared image bench (chip_after k bench (first_state image bench.fill))) →
    IsHeld image (chip_after n bench (first_state image bench.fill))
run-IsHeld image bench zero seals fits spared = first-IsHeld image bench.fill seals
run-IsHeld image bench (suc n) seals fits spared =
    ticked-IsHeld image bench (chip_after n bench (first_state image bench.fill)) seals (fits n (omega arith))
    (spared n (omega arith))
    (run-IsHeld image bench n seals (λ k below. fits k (omega arith)) (λ k below. spared k (omega arith)))

held-HasImageSeal :
    (image : List Segment) (chip : State) → SealsItself image → IsHeld image chip → HasImageSeal image chip
held-HasImageSeal image chip seals held = record { in_force = in_force; secret = held.kept }
  where
    in_force : is_up chip ≡ true → seal chip.bus.units.encap ≡ image_seal image
    in_force up =
        let booted = up-booted chip.powered chip.boot up in
        let stands : Stands image None chip.keep chip.bus.units.encap =
        subst (λ (boot : Option Place). Stands image boot chip.keep chip.bus.units.encap) booted held.stands in
        ap seal stands.1 ∙ sym (image-GivesSeal image seals).seal

pub seal_comes_back : SealComesBack
seal_comes_back image bench n seals spared =
    held-HasImageSeal image (chip_after n bench (first_state image bench.fill)) seals
    (run-IsHeld image bench n seals (λ k below. (run-IsSound image bench k).fit) spared)
