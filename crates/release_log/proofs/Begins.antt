-- A run begins with the facts, and every chip of it has them.
use Rattle.std.proofs.Common.{◌≡◌, ◌≢◌, ◌+◌, ◌&&◌, ℕ, zero, suc, List, Bool, true, false, refl, sym, subst, if◌then◌else◌}
use Rattle.std.specs.Prelude.{slice_index}
use Rattle.chip_words.specs.declared.regions.Region.{Region}
use Rattle.chip_words.specs.declared.regions.Region.TheVariants.{Periph, Info, Descriptor, Sram, Main, Vacant}
use Rattle.chip_words.specs.Map.{is_fram, is_sram, keeps_without_power, loses_without_power, region_at}
use Rattle.chip_words.specs.Seals.{nowhere}
use Rattle.access_laws.specs.Boots.{HasBorders}
use Rattle.access_laws.proofs.Masks.{seal-HasBorders}
use Rattle.bus_fabric.specs.Memory.{sram_filled}
use Rattle.bus_fabric.proofs.MemoryBy.{length-memory_by, same_memory, slice_index-memory_by}
use Rattle.elf_image.specs.Image.{Segment, byte_of}
use Rattle.boot_code.specs.Boot.{borders_of, is_good}
use Rattle.boot_code.specs.ImageSeal.{image_seal, image_structure, is_signed, seal_of}
use Rattle.power_schedule.specs.declared.cuts.Cut.{Cut as Stretch}
use Rattle.power_schedule.specs.declared.powers.Power.{Power}
use Rattle.power_schedule.specs.declared.powers.Power.TheVariants.{On, Cut, Off}
use Rattle.power_schedule.specs.Powers.{power_at}
use Rattle.power_schedule.proofs.Unpowered.{off_never_follows_on}
use Rattle.step_laws.proofs.Shapes.{either_holds}
use Rattle.stimulus.specs.Events.{on_tick}
use Rattle.stimulus.specs.Stimulus.{Stimulus}
use Rattle.chip_core.specs.FirstState.{first_byte, first_memory, first_state}
use Rattle.chip_core.specs.Run.{chip_after}
use Rattle.chip_core.specs.State.{State}
use Rattle.chip_core.specs.Tick.{begun_by, cut, power_of, powered, stages, stimulated, ticked, timed}
use Rattle.chip_core.specs.Turns.{owned}
use Rattle.release_log.specs.Facts.{IsSound, MayBeOff}
use Rattle.release_log.specs.RunFacts.{RunKeepsFacts, RunLosesPowerByCuts}
use Rattle.release_log.proofs.Ending.{no_registers-Are, true-false}
use Rattle.release_log.proofs.Kept.{off_events-powered, ticked-IsSound, ticked-by, ticked_by}

-- ---- the first chip

image_seal-HasBorders : (image : List Segment) → HasBorders (image_seal image)
unfolding image_seal
image_seal-HasBorders image =
    either_holds HasBorders (is_signed image && is_good (image_structure image))
    (seal_of (borders_of (image_structure image))) nowhere (seal-HasBorders _)
    (record { low = refl; high = refl })

sram-not_fram : (region : Region) → loses_without_power region ≡ true → keeps_without_power region ≡ false
sram-not_fram Sram sram = refl
sram-not_fram Periph sram = cc
sram-not_fram Info sram = cc
sram-not_fram Descriptor sram = cc
sram-not_fram Main sram = cc
sram-not_fram Vacant sram = cc

-- the fill of SRAM is there
first-filled : (image : List Segment) (fill : ℕ) → sram_filled fill (first_memory image fill) ≡ first_memory image fill
unfolding is_sram is_fram
first-filled image fill =
    let filled : ℕ → ℕ = λ at. if is_sram at then fill else slice_index (first_memory image fill) at in
    same_memory filled (first_byte image fill)
    (λ at within.
    by_sram at (loses_without_power (region_at at)) (keeps_without_power (region_at at)) (sram-not_fram (region_at at))
    (slice_index-memory_by (first_byte image fill) at within))
  where
    by_sram :
        (at : ℕ) (sram fram : Bool) → (sram ≡ true → fram ≡ false) →
        slice_index (first_memory image fill) at ≡ (if fram then byte_of image at else if sram then fill else 0) →
        (if sram then fill else slice_index (first_memory image fill) at)
        ≡ (if fram then byte_of image at else if sram then fill else 0)
    by_sram at true true apart same = absurd (true-false (apart refl))
    by_sram at true false apart same = refl
    by_sram at false fram apart same = same

pub first-IsSound : (image : List Segment) (fill : ℕ) → IsSound (first_state image fill)
first-IsSound image fill = record {
  unrequested = refl;
  quiet = refl;
  unnumbered = refl;
  unbudgeted = refl;
  unlisted = refl;
  uncaused = refl;
  size = length-memory_by (first_byte image fill);
  registers = no_registers-Are;
  marked = refl;
  borders = image_seal-HasBorders image;
  settled = λ up. absurd (true-false (sym up));
  unpowered = λ off. record {
    registers = refl;
    sram = first-filled image fill;
    idle = refl;
    alive = refl;
    running = refl;
    unasked = refl;
    first_tick = refl;
    place = refl;
  };
  fit = refl;
}

-- ---- power

-- a tick without power comes behind one that is cut, or behind another one without
abbrev pub MayFollow : Power → Power → Type 0
MayFollow On Off = ⊥
MayFollow power next = Unit {0}

-- a cut leaves power off, and so does a tick without power
cut-powered : (writes : ℕ) (chip : State) → (stages (Cut writes) chip).after.powered ≡ false
unfolding stages cut
cut-powered writes chip = refl

off-powered : (bench : Stimulus) (chip : State) → chip.powered ≡ false → (ticked_by Off bench chip).powered ≡ false
unfolding stages timed owned powered stimulated
off-powered bench chip off = off_events-powered (on_tick chip.tick bench.events) (begun_by Off chip) off

next-MayBeOff :
    (power next : Power) (bench : Stimulus) (chip : State) → MayFollow power next → MayBeOff power chip →
    MayBeOff next (ticked_by power bench chip)
next-MayBeOff On On bench chip follows off = tt
next-MayBeOff On (Cut writes) bench chip follows off = tt
next-MayBeOff On Off bench chip follows off = absurd follows
next-MayBeOff (Cut writes) On bench chip follows off = tt
next-MayBeOff (Cut writes) (Cut others) bench chip follows off = tt
next-MayBeOff (Cut writes) Off bench chip follows off = cut-powered writes _
next-MayBeOff Off On bench chip follows off = tt
next-MayBeOff Off (Cut writes) bench chip follows off = tt
next-MayBeOff Off Off bench chip follows off = off-powered bench chip off

by_powers : (power next : Power) → (next ≡ Off → power ≢ On) → MayFollow power next
by_powers On On apart = tt
by_powers On (Cut writes) apart = tt
by_powers On Off apart = apart refl refl
by_powers (Cut writes) next apart = tt
by_powers Off next apart = tt

-- so it is by a list of cuts
pub power_at-MayFollow :
    (cuts : List Stretch) (tick : ℕ) → MayFollow (power_at cuts tick) (power_at cuts (tick + 1))
power_at-MayFollow cuts tick =
    by_powers (power_at cuts tick) (power_at cuts (tick + 1)) (off_never_follows_on cuts tick)

-- the powers of two ticks, one behind the other
power-MayFollow :
    (bench : Stimulus) (chip : State) → MayFollow (power_of bench chip) (power_of bench (ticked bench chip))
unfolding ticked
power-MayFollow bench chip = power_at-MayFollow bench.cuts chip.tick

first-MayBeOff : (power : Power) (image : List Segment) (fill : ℕ) → MayBeOff power (first_state image fill)
first-MayBeOff On image fill = tt
first-MayBeOff (Cut writes) image fill = tt
first-MayBeOff Off image fill = refl

-- ---- every chip

pub run-MayBeOff :
    (image : List Segment) (bench : Stimulus) (n : ℕ) →
    MayBeOff (power_of bench (chip_after n bench (first_state image bench.fill)))
    (chip_after n bench (first_state image bench.fill))
run-MayBeOff image bench zero = first-MayBeOff (power_of bench (first_state image bench.fill)) image bench.fill
run-MayBeOff image bench (suc n) =
    let chip : State = chip_after n bench (first_state image bench.fill) in
    let next : Power = power_of bench (ticked bench chip) in
    subst (MayBeOff next) (sym (ticked-by bench chip))
    (next-MayBeOff (power_of bench chip) next bench chip (power-MayFollow bench chip) (run-MayBeOff image bench n))

pub run-IsSound :
    (image : List Segment) (bench : Stimulus) (n : ℕ) → IsSound (chip_after n bench (first_state image bench.fill))
run-IsSound image bench zero = first-IsSound image bench.fill
run-IsSound image bench (suc n) =
    ticked-IsSound bench (chip_after n bench (first_state image bench.fill)) (run-MayBeOff image bench n)
    (run-IsSound image bench n)

pub run_keeps_facts : RunKeepsFacts
run_keeps_facts image bench n = run-IsSound image bench n

pub run_loses_power_by_cuts : RunLosesPowerByCuts
run_loses_power_by_cuts image bench n = run-MayBeOff image bench n
