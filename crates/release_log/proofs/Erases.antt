-- While an erase is under way the boot acts and nothing else does.
use Rattle.std.proofs.Common.{◌≡◌, ◌≤◌, ◌+◌, ◌-◌, not, ℕ, List, [], ◌∷◌, Bool, true, false, slice_index, zero, suc, arith, refl, ap, sym, ◌∙◌, subst}
use Rattle.std.specs.Prelude.{Option, Some, None}
use Rattle.std.proofs.lemmas.Bool.Decides.{nat_tests}
use Rattle.chip_words.specs.declared.accesses.Agent.TheVariants as agent
use Rattle.chip_words.specs.Causes.{is_of_bor}
use Rattle.chip_words.specs.Map.{is_fram}
use Rattle.chip_words.specs.Script.{Script, run}
use Rattle.access_laws.proofs.Courses.{chosen}
use Rattle.power_schedule.specs.declared.powers.Power.{Power}
use Rattle.power_schedule.specs.declared.powers.Power.TheVariants.{On, Cut, Off}
use Rattle.elf_image.specs.Image.{Segment}
use Rattle.stimulus.specs.declared.events.Event.{Event}
use Rattle.stimulus.specs.declared.events.EventAct.{EventAct}
use Rattle.stimulus.specs.declared.events.EventAct.TheVariants.{Pin, Debug as DebugEvent}
use Rattle.stimulus.specs.Events.{on_tick}
use Rattle.stimulus.specs.Stimulus.{Stimulus}
use Rattle.debug_port.specs.declared.answers.Answer.{Answer}
use Rattle.debug_port.specs.declared.answers.Answer.TheVariants.{Booting}
use Rattle.debug_port.specs.declared.commands.Command.{Command}
use Rattle.debug_port.specs.Commands.{Commanded, commanded, unless_refused}
use Rattle.dma_unit.specs.Transfers.{due, passed}
use Rattle.boot_code.specs.declared.boots.Keep.{Keep}
use Rattle.boot_code.specs.Boot.{EMPTY, ERASING, SAVED, boot_step}
use Rattle.boot_code.specs.Facts.{Fits, IsBlank, is_unerased}
use Rattle.boot_code.specs.Place.{Place, Start, Sig, Ptr, Word0, Word1, Word2, Word3, SavePtr, SaveMark, MarkErase, Wipe, MarkEmpty, DoneWith, DoneWithout}
use Rattle.step_laws.proofs.Shapes.{either_holds}
use Rattle.chip_core.specs.declared.owners.Owner.TheVariants.{Boot}
use Rattle.chip_core.specs.Boot.{boot_run, is_next_over}
use Rattle.chip_core.specs.Debugger.{answer_to, debug_of, ran}
use Rattle.chip_core.specs.Phase.{is_up}
use Rattle.chip_core.specs.State.{State}
use Rattle.chip_core.specs.Tick.{after_bor, after_cause, after_event, after_events, after_puc, begun_by, clocked, cut, moments, owner_in, power_of, powered, powered_on, reset, stages, stimulated, supplied, taken_cause, ticked, timed}
use Rattle.chip_core.specs.Turns.{boot_turn, owned, owner_by, owner_of, with_dma}
use Rattle.release_log.specs.Erasing.{AreHeldOff, EraseIsAlone, IsAlone, IsBlankAt, IsBootAtMost, IsHeldOff, chip_at}
use Rattle.release_log.specs.Facts.{FitsChip}
use Rattle.release_log.proofs.Begins.{run-IsSound}
use Rattle.release_log.proofs.Kept.{booting-unup, command-unup, ticked-by, ticked_by}
use Rattle.release_log.proofs.Shorts.{filled-fram}

-- ---- a chip that erases

-- a chip within a tick, of which the boot comes to a place with an erase begun
record Erases (chip : State) : Type 0 where
  pub place : Place
  pub boot : chip.boot ≡ Some place
  pub marked : chip.keep.mark ≡ ERASING
  pub fit : Fits place chip.keep chip.bus.memory

unmarked : (mark : ℕ) → is_unerased mark ≡ true → mark ≡ ERASING → ⊥
unmarked mark unerased erasing = absurd (grind (arith, nat_tests))

fit-Erases :
    (chip : State) → FitsChip chip.boot chip.keep chip.bus.memory → chip.keep.mark ≡ ERASING → Erases chip
fit-Erases chip fit marked = by_boot chip.boot refl fit
  where
    by_boot : (boot : Option Place) → chip.boot ≡ boot → FitsChip boot chip.keep chip.bus.memory → Erases chip
    by_boot (Some place) boot fit = record { place = place; boot = boot; marked = marked; fit = fit }
    by_boot None boot fit = absurd (unmarked chip.keep.mark fit marked)

-- the boot, mark and pointer and memory are as they were
record StaysErasing (before after : State) : Type 0 where
  pub boot : after.boot ≡ before.boot
  pub keep : after.keep ≡ before.keep
  pub memory : after.bus.memory ≡ before.bus.memory

stays-Erases : (before after : State) → StaysErasing before after → Erases before → Erases after
stays-Erases before after stays is = record {
  place = is.place;
  boot = stays.boot ∙ is.boot;
  marked = ap (λ (keep : Keep). keep.mark) stays.keep ∙ is.marked;
  fit =
      subst (λ (keep : Keep). Fits is.place keep after.bus.memory) (sym stays.keep)
      (subst (λ memory. Fits is.place before.keep memory) (sym stays.memory) is.fit);
}

-- ---- power

-- where power comes on, the boot starts
start-Erases :
    (before after : State) → after.boot ≡ Some Start → after.keep ≡ before.keep → Erases before → Erases after
start-Erases before after boot keep is =
    let marked : after.keep.mark ≡ ERASING = ap (λ (keep : Keep). keep.mark) keep ∙ is.marked in
    record { place = Start; boot = boot; marked = marked; fit = grind (arith, nat_tests) }

on-Erases : (power : Power) (chip : State) → Erases chip → Erases (powered_on (begun_by power chip))
on-Erases power chip is =
    either_holds Erases chip.powered (begun_by power chip) _
    (stays-Erases chip (begun_by power chip) (record { boot = refl; keep = refl; memory = refl }) is)
    (start-Erases chip _ refl refl is)

powered-Erases : (power : Power) (chip : State) → Erases chip → Erases (powered power chip)
unfolding powered
powered-Erases Off chip is =
    stays-Erases chip (begun_by Off chip) (record { boot = refl; keep = refl; memory = refl }) is
powered-Erases power chip is = on-Erases power chip is

-- ---- the stimulus

down : (chip : State) → Erases chip → is_up chip ≡ false
down chip is = booting-unup is.place chip is.boot

answer-Booting : (command : Command) (chip : State) → is_up chip ≡ false → answer_to command chip ≡ Booting
unfolding ran commanded
answer-Booting command chip down =
    ap (λ refusal. answer_by (unless_refused refusal command (debug_of chip) chip.registers))
    (chosen (not (is_up chip)) (Some Booting) _ (ap not down))
  where
    answer_by : Script Commanded → Answer
    answer_by script = (run agent.Debug script chip.bus).value.answer

event-Erases : (event : EventAct) (chip : State) → Erases chip → Erases (after_event event chip)
event-Erases (Pin port bit level) chip is =
    stays-Erases chip _ (record { boot = refl; keep = refl; memory = refl }) is
event-Erases (DebugEvent command) chip is = subst Erases (sym (command-unup command chip (down chip is))) is

event-IsHeldOff : (event : EventAct) (chip : State) → Erases chip → IsHeldOff event chip
event-IsHeldOff (Pin port bit level) chip is = tt
event-IsHeldOff (DebugEvent command) chip is = answer-Booting command chip (down chip is)

events-Erases : (events : List Event) (chip : State) → Erases chip → Erases (after_events events chip)
events-Erases [] chip is = is
events-Erases (event ∷ events) chip is =
    events-Erases events (after_event event.act chip) (event-Erases event.act chip is)

events-AreHeldOff : (events : List Event) (chip : State) → Erases chip → AreHeldOff events chip
events-AreHeldOff [] chip is = tt
events-AreHeldOff (event ∷ events) chip is = (
  event-IsHeldOff event.act chip is,
  events-AreHeldOff events (after_event event.act chip) (event-Erases event.act chip is),
)

stimulated-Erases : (bench : Stimulus) (chip : State) → Erases chip → Erases (stimulated bench chip)
unfolding stimulated
stimulated-Erases bench chip is = events-Erases (on_tick chip.tick bench.events) chip is

-- ---- the owner of the bus

timed-Erases : (power : Power) (chip : State) → Erases chip → Erases (timed power chip)
unfolding timed
timed-Erases Off chip is = is
timed-Erases power chip is = subst (λ boot. Erases (clocked boot chip)) (sym is.boot) is

owner_of-Boot : (chip : State) (is : Erases chip) → owner_of chip ≡ Boot is.place
unfolding owner_of
owner_of-Boot chip is = ap (λ boot. owner_by boot chip.second_tick (due chip.bus.units.dma)) is.boot

owner_in-IsBootAtMost : (power : Power) (chip : State) → Erases chip → IsBootAtMost (owner_in power chip)
owner_in-IsBootAtMost Off chip is = tt
owner_in-IsBootAtMost power chip is = subst IsBootAtMost (sym (owner_of-Boot chip is)) tt

stages-IsBootAtMost : (power : Power) (chip : State) → Erases chip → IsBootAtMost (stages power chip).owner
unfolding stages
stages-IsBootAtMost power chip is = owner_in-IsBootAtMost power (timed power chip) (timed-Erases power chip is)

chip-IsAlone : (bench : Stimulus) (chip : State) → Erases chip → IsAlone bench chip
unfolding moments
chip-IsAlone bench chip is =
    let supplies : Erases (supplied bench chip) = powered-Erases (power_of bench chip) chip is in
    record {
      commands = events-AreHeldOff (on_tick chip.tick bench.events) (supplied bench chip) supplies;
      owner =
          stages-IsBootAtMost (power_of bench chip) (stimulated bench (supplied bench chip))
          (stimulated-Erases bench (supplied bench chip) supplies);
    }

-- ---- how far the erase has come behind a tick

-- it goes on, or FRAM is blank
data Lasts (chip : State) : Type 0 where
  GoesOn : chip.keep.mark ≡ ERASING → Lasts chip
  HasWiped : IsBlank chip.bus.memory → Lasts chip

-- FRAM and mark are as they were
record StaysStored (before after : State) : Type 0 where
  pub mark : after.keep.mark ≡ before.keep.mark
  pub fram : (at : ℕ) → is_fram at ≡ true → slice_index after.bus.memory at ≡ slice_index before.bus.memory at

stays-Lasts : (before after : State) → StaysStored before after → Lasts before → Lasts after
stays-Lasts before after stays (GoesOn marked) = GoesOn (stays.mark ∙ marked)
stays-Lasts before after stays (HasWiped blank) = HasWiped (λ at fram. stays.fram at fram ∙ blank at fram)

-- a step of the boot
boot_turn-Lasts :
    (place : Place) (chip : State) → Fits place chip.keep chip.bus.memory → chip.keep.mark ≡ ERASING →
    Lasts (boot_turn place chip)
unfolding boot_turn boot_run boot_step
boot_turn-Lasts Start chip fit marked = GoesOn marked
boot_turn-Lasts (Wipe at) chip fit marked = GoesOn marked
boot_turn-Lasts MarkEmpty chip fit marked = by_absence (is_next_over chip.bus) refl
  where
    by_absence : (test : Bool) → is_next_over chip.bus ≡ test → Lasts (boot_turn MarkEmpty chip)
    by_absence true absent =
        GoesOn (ap (λ (keep : Keep). keep.mark) (chosen (is_next_over chip.bus) chip.keep _ absent) ∙ marked)
    by_absence false present = HasWiped fit.1
boot_turn-Lasts Sig chip fit marked = absurd (grind (arith, nat_tests))
boot_turn-Lasts Ptr chip fit marked = let empty : chip.keep.mark ≡ EMPTY = fit.0 in absurd (grind (arith, nat_tests))
boot_turn-Lasts (Word0 p) chip fit marked = absurd (unmarked chip.keep.mark fit.marked marked)
boot_turn-Lasts (Word1 p w0) chip fit marked = absurd (unmarked chip.keep.mark fit.0.marked marked)
boot_turn-Lasts (Word2 p w0 w1) chip fit marked = absurd (unmarked chip.keep.mark fit.0.marked marked)
boot_turn-Lasts (Word3 p w0 w1 w2) chip fit marked = absurd (unmarked chip.keep.mark fit.0.marked marked)
boot_turn-Lasts (SavePtr p words) chip fit marked = absurd (unmarked chip.keep.mark fit.1.marked marked)
boot_turn-Lasts (SaveMark p words) chip fit marked = absurd (unmarked chip.keep.mark fit.1.marked marked)
boot_turn-Lasts MarkErase chip fit marked = absurd (unmarked chip.keep.mark fit marked)
boot_turn-Lasts (DoneWith p words) chip fit marked =
    let saved : chip.keep.mark ≡ SAVED = fit.0 in absurd (grind (arith, nat_tests))
boot_turn-Lasts DoneWithout chip fit marked = absurd (grind (arith, nat_tests))

turn-Lasts : (chip : State) → Erases chip → Lasts (owned (owner_of chip) chip).chip
unfolding owned
turn-Lasts chip is =
    subst (λ owner. Lasts (owned owner chip).chip) (sym (owner_of-Boot chip is))
    (boot_turn-Lasts is.place (with_dma passed chip) is.fit is.marked)

-- the reset, and the cut
reset-Lasts : (chip : State) → Lasts chip → Lasts (reset chip)
unfolding reset
reset-Lasts chip lasts = by_cause (taken_cause chip)
  where
    by_cause : (cause : Option ℕ) → Lasts (after_cause cause chip)
    by_cause (Some cause) =
        either_holds Lasts (is_of_bor cause) (after_bor cause chip) (after_puc cause chip)
        (stays-Lasts chip _ (record { mark = refl; fram = λ at fram. refl }) lasts)
        (stays-Lasts chip _ (record { mark = refl; fram = λ at fram. refl }) lasts)
    by_cause None = lasts

cut-Lasts : (chip : State) → Lasts chip → Lasts (cut chip)
unfolding cut
cut-Lasts chip lasts =
    stays-Lasts chip _
    (record { mark = refl; fram = λ at fram. filled-fram chip.bus.fill chip.bus.memory at fram }) lasts

stages-Lasts : (power : Power) (chip : State) → Erases chip → Lasts (stages power chip).after
unfolding stages owned timed
stages-Lasts On chip is = reset-Lasts _ (turn-Lasts (timed On chip) (timed-Erases On chip is))
stages-Lasts (Cut count) chip is = cut-Lasts _ (turn-Lasts (timed (Cut count) chip) (timed-Erases (Cut count) chip is))
stages-Lasts Off chip is = GoesOn is.marked

tick-Lasts : (bench : Stimulus) (chip : State) → Erases chip → Lasts (ticked bench chip)
tick-Lasts bench chip is =
    let power = power_of bench chip in
    let start = powered power chip in
    subst Lasts (sym (ticked-by bench chip))
    (stays-Lasts (stages power (stimulated bench start)).after (ticked_by power bench chip)
    (record { mark = refl; fram = λ at fram. refl })
    (stages-Lasts power (stimulated bench start) (stimulated-Erases bench start (powered-Erases power chip is))))

-- ---- over a run

run-Erases :
    (image : List Segment) (bench : Stimulus) (tick : ℕ) → (chip_at image bench tick).keep.mark ≡ ERASING →
    Erases (chip_at image bench tick)
run-Erases image bench tick marked = fit-Erases (chip_at image bench tick) (run-IsSound image bench tick).fit marked

abbrev IsUndone : List Segment → Stimulus → ℕ → ℕ → Type 0
IsUndone image bench first last =
    (tick : ℕ) → first ≤ tick → tick ≤ last → IsBlankAt image bench tick → ⊥

still-marked :
    (image : List Segment) (bench : Stimulus) (first more : ℕ) → (chip_at image bench first).keep.mark ≡ ERASING →
    IsUndone image bench first (first + more) → (chip_at image bench (first + more)).keep.mark ≡ ERASING
still-marked image bench first zero began undone =
    let same : first + 0 ≡ first = omega arith in
    rw same began
still-marked image bench first (suc more) began undone =
    let last = first + more in
    let same : first + suc more ≡ suc last = omega arith in
    let before : (chip_at image bench last).keep.mark ≡ ERASING =
    still-marked image bench first more began (λ tick above below. undone tick above (omega arith)) in
    let is = run-Erases image bench last before in
    rw same
    (goes_on (tick-Lasts bench (chip_at image bench last) is)
    (λ blank. undone (suc last) (omega arith) (omega arith) blank))
  where
    goes_on : {chip : State} → Lasts chip → (IsBlank chip.bus.memory → ⊥) → chip.keep.mark ≡ ERASING
    goes_on (GoesOn marked) unwiped = marked
    goes_on (HasWiped blank) unwiped = absurd (unwiped blank)

pub erase_is_alone : EraseIsAlone
erase_is_alone image bench first last is =
    let same : first + (last - first) ≡ last = omega (arith, is.in_order) in
    let marked : (chip_at image bench last).keep.mark ≡ ERASING =
    subst (λ n. (chip_at image bench n).keep.mark ≡ ERASING) same
    (still-marked image bench first (last - first) is.began
    (subst (IsUndone image bench first) (sym same) is.undone)) in
    chip-IsAlone bench (chip_at image bench last) (run-Erases image bench last marked)
