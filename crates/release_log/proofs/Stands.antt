-- The kept set stands while no boot comes to its end.
use Rattle.std.proofs.Common.{◌≡◌, ◌&&◌, ℕ, List, [], ◌∷◌, true, false, refl, ap, sym, ◌∙◌, subst}
use Rattle.std.specs.Prelude.{Option, Some, None}
use Rattle.chip_words.specs.Causes.{POWER_ON}
use Rattle.chip_words.specs.Script.{Ran}
use Rattle.chip_words.specs.Steps.{begun}
use Rattle.ip_encap.specs.declared.encap.Borders.{Borders}
use Rattle.boot_code.specs.declared.boots.Act.{Act}
use Rattle.boot_code.specs.declared.boots.Act.TheVariants as act
use Rattle.boot_code.specs.declared.boots.BootStep.{BootStep}
use Rattle.boot_code.specs.declared.boots.BootStep.TheVariants.{Going, Done}
use Rattle.boot_code.specs.Place.{Place}
use Rattle.boot_code.specs.Boot.{Stepped, boot_step, run_of}
use Rattle.chip_words.specs.declared.accesses.Agent.TheVariants as by
use Rattle.dma_unit.specs.Transfers.{passed}
use Rattle.power_schedule.specs.declared.powers.Power.{Power}
use Rattle.power_schedule.specs.declared.powers.Power.TheVariants.{On, Cut, Off}
use Rattle.step_laws.proofs.Shapes.{either_holds}
use Rattle.stimulus.specs.declared.events.Event.{Event}
use Rattle.stimulus.specs.declared.events.EventAct.{EventAct}
use Rattle.stimulus.specs.declared.events.EventAct.TheVariants.{Pin, Debug}
use Rattle.stimulus.specs.Events.{on_tick}
use Rattle.stimulus.specs.Stimulus.{Stimulus}
use Rattle.chip_core.specs.Boot.{acted, after_boot_step, boot_run, ended_unless_cut}
use Rattle.chip_core.specs.Phase.{is_up}
use Rattle.chip_core.specs.State.{State}
use Rattle.chip_core.specs.Tick.{after_bor, after_event, after_events, begun_by, cut, power_of, powered, powered_on, stages, stimulated, timed}
use Rattle.chip_core.specs.Turns.{boot_turn, owned, with_dma}
use Rattle.release_log.specs.Boots.{BootKeepsKept}
use Rattle.release_log.specs.Facts.{IsSound, MayBeOff}
use Rattle.release_log.specs.Sound.{KeepsFacts}
use Rattle.release_log.proofs.Running.{step-KeepsFacts}
use Rattle.release_log.proofs.Ending.{true-false}
use Rattle.release_log.proofs.Booting.{IsBooting, OnlyMemory, fits-IsPlace, step-OnlyMemory}
use Rattle.release_log.proofs.Kept.{began, booting-cut, booting-uncut, booting-unup, command-unup, events-IsBooting, events-budget, passed-IsBooting, powered_on-budget, ticked-by, ticked_by}
use Rattle.release_log.proofs.Installs.{At, InBoot, powered_on-InBoot}

-- two chips keep the same bytes secret
abbrev pub KeepsSame : State → State → Type 0
KeepsSame before after = after.bus.kept ≡ before.bus.kept

-- ---- the boot's step

acted-KeepsSame : (act : Act) (chip : State) → KeepsSame chip (acted act chip)
acted-KeepsSame (act.Mark mark) chip = refl
acted-KeepsSame (act.Ptr ptr) chip = refl
acted-KeepsSame act chip = refl

-- the boot's end comes in no tick that is cut, and else leaves the chip up
ended-KeepsSame :
    (budget : Option ℕ) (borders : Borders) (chip : State) → chip.powered ≡ true →
    (budget ≡ None → is_up (ended_unless_cut budget borders chip) ≡ false) →
    KeepsSame chip (ended_unless_cut budget borders chip)
ended-KeepsSame (Some budget) borders chip powered down = refl
ended-KeepsSame None borders chip powered down =
    absurd (true-false (sym (ap (λ powered. powered && true) powered) ∙ down refl))

pub boot_turn-KeepsSame :
    (place : Place) (chip : State) → IsBooting place chip →
    (chip.bus.budget ≡ None → is_up (boot_turn place chip) ≡ false) → KeepsSame chip (boot_turn place chip)
unfolding boot_turn boot_run
boot_turn-KeepsSame place chip is down = by_step (ran.value).step down
  where
    ran : Ran Stepped
    ran = run_of place chip.keep (begun chip.bus)

    after : State
    after = record chip { bus = ran.part; boot = Some (ran.value).place }

    keeps : KeepsFacts chip.bus ran.part
    keeps = step-KeepsFacts by.Boot (boot_step place chip.keep) chip.bus

    only : OnlyMemory (begun chip.bus) ran.part
    only = step-OnlyMemory place chip.keep (begun chip.bus) (fits-IsPlace place chip.keep chip.bus.memory is.fit)

    by_step :
        (step : BootStep) → (chip.bus.budget ≡ None → is_up (after_boot_step step after) ≡ false) →
        KeepsSame chip (after_boot_step step after)
    by_step (Going act) down = acted-KeepsSame act after ∙ only.kept
    by_step (Done borders) down =
        ended-KeepsSame ran.part.budget borders after is.powered (λ uncut. down (sym keeps.budget ∙ uncut)) ∙ only.kept

-- ---- the events

unup-event-KeepsSame : (act : EventAct) (chip : State) → is_up chip ≡ false → KeepsSame chip (after_event act chip)
unup-event-KeepsSame (Pin port bit level) chip down = refl
unup-event-KeepsSame (Debug what) chip down = ap (λ (after : State). after.bus.kept) (command-unup what chip down)

unup-event : (act : EventAct) (chip : State) → is_up chip ≡ false → is_up (after_event act chip) ≡ false
unup-event (Pin port bit level) chip down = down
unup-event (Debug what) chip down = ap is_up (command-unup what chip down) ∙ down

pub unup-events-KeepsSame :
    (events : List Event) (chip : State) → is_up chip ≡ false → KeepsSame chip (after_events events chip)
unup-events-KeepsSame [] chip down = refl
unup-events-KeepsSame (event ∷ events) chip down =
    unup-events-KeepsSame events (after_event event.act chip) (unup-event event.act chip down)
    ∙ unup-event-KeepsSame event.act chip down

-- power that comes on leaves them
powered_on-KeepsSame :
    (budget : Option ℕ) (chip : State) → KeepsSame chip (powered_on (began budget chip))
powered_on-KeepsSame budget chip =
    either_holds (KeepsSame chip) chip.powered (began budget chip)
    (record (after_bor POWER_ON (began budget chip)) { powered = true }) refl refl

-- ---- the tick

uncut-KeepsSame :
    (events : List Event) (chip : State) → InBoot chip → chip.bus.budget ≡ None →
    is_up (stages On (after_events events chip)).after ≡ false →
    KeepsSame chip (stages On (after_events events chip)).after
uncut-KeepsSame events chip (At place is) uncut down =
    let now : State = after_events events chip in
    let boots : IsBooting place now = events-IsBooting place events chip is in
    let same : (stages On now).after ≡ boot_turn place (with_dma passed now) =
    booting-uncut place now boots (events-budget place events chip is ∙ uncut) in
    ap (λ (after : State). after.bus.kept) same
    ∙ boot_turn-KeepsSame place (with_dma passed now) (passed-IsBooting place now boots)
    (λ none. ap is_up (sym same) ∙ down)
    ∙ unup-events-KeepsSame events chip (booting-unup place chip is.boot)

cut-KeepsSame :
    (writes : ℕ) (events : List Event) (chip : State) → InBoot chip → chip.bus.budget ≡ Some writes →
    KeepsSame chip (stages (Cut writes) (after_events events chip)).after
unfolding cut
cut-KeepsSame writes events chip (At place is) budget =
    let now : State = after_events events chip in
    let boots : IsBooting place now = events-IsBooting place events chip is in
    let short : now.bus.budget ≡ Some writes = events-budget place events chip is ∙ budget in
    ap (λ (after : State). after.bus.kept) (booting-cut place writes now boots)
    ∙ boot_turn-KeepsSame place (with_dma passed now) (passed-IsBooting place now boots)
    (λ none. let no : Some writes ≡ None = sym short ∙ none in cc)
    ∙ unup-events-KeepsSame events chip (booting-unup place chip is.boot)

off-KeepsSame :
    (events : List Event) (chip : State) → is_up chip ≡ false →
    KeepsSame chip (stages Off (after_events events chip)).after
unfolding stages timed owned
off-KeepsSame events chip down = unup-events-KeepsSame events chip down

by-KeepsSame :
    (power : Power) (bench : Stimulus) (chip : State) → MayBeOff power chip → IsSound chip → is_up chip ≡ false →
    is_up (ticked_by power bench chip) ≡ false → KeepsSame chip (ticked_by power bench chip)
unfolding powered stimulated
by-KeepsSame On bench chip off is down still =
    uncut-KeepsSame (on_tick (powered_on (begun_by On chip)).tick bench.events) (powered_on (begun_by On chip))
    (powered_on-InBoot None chip is down) (powered_on-budget None chip) still
    ∙ powered_on-KeepsSame None chip
by-KeepsSame (Cut writes) bench chip off is down still =
    cut-KeepsSame writes (on_tick (powered_on (begun_by (Cut writes) chip)).tick bench.events)
    (powered_on (begun_by (Cut writes) chip)) (powered_on-InBoot (Some writes) chip is down)
    (powered_on-budget (Some writes) chip)
    ∙ powered_on-KeepsSame (Some writes) chip
by-KeepsSame Off bench chip off is down still =
    off-KeepsSame (on_tick chip.tick bench.events) (begun_by Off chip) down

pub boot_keeps_kept : BootKeepsKept
boot_keeps_kept bench chip off is down still =
    subst (KeepsSame chip) (sym (ticked-by bench chip))
    (by-KeepsSame (power_of bench chip) bench chip off is down (ap is_up (sym (ticked-by bench chip)) ∙ still))
