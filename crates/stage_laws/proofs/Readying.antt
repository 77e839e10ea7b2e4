-- What holds of a chip when the owner of the bus acts, from what holds of it between two ticks.
use Rattle.std.proofs.Common.{◌≡◌, ℕ, List, [], ◌∷◌, Bool, true, false, length, refl, ap, sym, ◌∙◌, subst, if◌then◌else◌}
use Rattle.std.specs.Prelude.{Option, Some, None, IfSome}
use Rattle.std.proofs.lemmas.List.{append-nil, length-replicate}
use Rattle.chip_words.specs.declared.accesses.Agent.TheVariants as by
use Rattle.chip_words.specs.Access.{access}
use Rattle.chip_words.specs.BusPart.{BusPart}
use Rattle.chip_words.specs.Causes.{POWER_ON, no_causes}
use Rattle.chip_words.specs.Script.{Ask, Return, Script, run}
use Rattle.access_laws.proofs.Staying.{access-list}
use Rattle.boot_code.specs.Boot.{ERASING}
use Rattle.boot_code.specs.Place.{IsPlace, Place, Start}
use Rattle.debug_port.specs.declared.commands.Command.{Command}
use Rattle.debug_port.specs.Commands.{commanded}
use Rattle.power_schedule.specs.declared.powers.Power.{Power}
use Rattle.power_schedule.specs.declared.powers.Power.TheVariants.{On, Cut, Off}
use Rattle.step_laws.proofs.Shapes.{either_holds}
use Rattle.stimulus.specs.declared.events.Event.{Event}
use Rattle.stimulus.specs.declared.events.EventAct.{EventAct}
use Rattle.stimulus.specs.declared.events.EventAct.TheVariants.{Pin, Debug}
use Rattle.stimulus.specs.Events.{on_tick}
use Rattle.stimulus.specs.Stimulus.{Stimulus}
use Rattle.chip_core.specs.Boot.{with_mark}
use Rattle.chip_core.specs.Debugger.{accessed, after_command, debug_of, ran, reset_by, view_of}
use Rattle.chip_core.specs.State.{State}
use Rattle.chip_core.specs.Tick.{after_bor, after_event, after_events, begun_by, behind_tick, budget_of, clocked, moments, power_of, powered, powered_on, stages, stimulated, timed}
use Rattle.chip_core.specs.Turns.{owned}
use Rattle.release_log.specs.Facts.{IsSound}
use Rattle.release_log.proofs.Booting.{IsBooting, fits-IsPlace}
use Rattle.release_log.proofs.Ending.{settled-HasBorders, true-false}
use Rattle.release_log.proofs.Kept.{IsOn, Runs, Boots, began, booting-unup, by-IsSound, events-IsBooting, off_events-powered, off-unup, powered_on-IsOn, powered_on-budget}
use Rattle.release_log.proofs.Steady.{run-KeepsFacts}
use Rattle.release_log.proofs.Running.{GoesOn-IsRunning, IsRunning, clocked-GoesOn, events-IsRunning}
use Rattle.stage_laws.specs.Ready.{TicksHaveBudgets, TicksMakeReady}
use Rattle.stage_laws.specs.Seen.{IsReady}

-- ---- the list of accesses

-- the debugger's accesses are in no list
run-unlisted :
    {A : Type 0} (script : Script A) (part : BusPart) → (run by.Debug script part).part.accesses ≡ part.accesses
run-unlisted (Return value) part = refl
run-unlisted (Ask kind at size value rest) part =
    let next = access by.Debug kind at size value part in
    run-unlisted (rest next.answer) next.part
    ∙ access-list by.Debug kind at size value part
    ∙ append-nil part.accesses

command-unlisted : (what : Command) (chip : State) → (after_command what chip).bus.accesses ≡ chip.bus.accesses
unfolding after_command ran
command-unlisted what chip =
    let done = ran what chip in
    let asked = reset_by (done.value).debug (accessed done chip) in
    let list = chip.bus.accesses in
    let told = run-unlisted (commanded what (view_of chip) (debug_of chip) chip.registers) chip.bus in
    either_holds (λ (now : State). now.bus.accesses ≡ list) ((done.value).debug).erase
    (with_mark ERASING asked) asked told told

event-unlisted : (act : EventAct) (chip : State) → (after_event act chip).bus.accesses ≡ chip.bus.accesses
event-unlisted (Pin port bit level) chip = refl
event-unlisted (Debug what) chip = command-unlisted what chip

events-unlisted : (events : List Event) (chip : State) → (after_events events chip).bus.accesses ≡ chip.bus.accesses
events-unlisted [] chip = refl
events-unlisted (event ∷ events) chip =
    events-unlisted events (after_event event.act chip) ∙ event-unlisted event.act chip

clocked-unlisted : (boot : Option Place) (chip : State) → (clocked boot chip).bus.accesses ≡ chip.bus.accesses
clocked-unlisted (Some place) chip = refl
clocked-unlisted None chip = refl

powered_on-unlisted : (budget : Option ℕ) (chip : State) → (powered_on (began budget chip)).bus.accesses ≡ chip.bus.accesses
powered_on-unlisted budget chip =
    either_holds (λ (now : State). now.bus.accesses ≡ chip.bus.accesses) chip.powered (began budget chip)
    (record (after_bor POWER_ON (began budget chip)) { powered = true }) refl refl

-- ---- a chip with power

no_causes-count : length no_causes ≡ 65
unfolding no_causes
no_causes-count = length-replicate 65 false

running-IsReady : (chip : State) → IsRunning chip → chip.bus.accesses ≡ [] → IsReady chip
running-IsReady chip is unlisted = record {
  registers = is.registers;
  borders = settled-HasBorders chip.bus is.settled;
  count = is.count ∙ sym no_causes-count;
  quiet = is.quiet;
  unlisted = unlisted;
  settled = λ up. is.settled;
  place = subst (λ boot. IfSome boot IsPlace) (sym is.booted) tt;
}

booting-IsReady : (place : Place) (chip : State) → IsBooting place chip → chip.bus.accesses ≡ [] → IsReady chip
booting-IsReady place chip is unlisted = record {
  registers = is.registers;
  borders = is.borders;
  count = ap length is.unrequested;
  quiet = is.quiet;
  unlisted = unlisted;
  settled = λ up. absurd (true-false (sym up ∙ booting-unup place chip is.boot));
  place = subst (λ boot. IfSome boot IsPlace) (sym is.boot) (fits-IsPlace place chip.keep chip.bus.memory is.fit);
}

-- behind the stimulus, and behind the timers
events-IsReady :
    (events : List Event) (chip : State) → IsOn chip → chip.bus.accesses ≡ [] → IsReady (after_events events chip)
events-IsReady events chip (Runs is) unlisted =
    running-IsReady (after_events events chip) (events-IsRunning events chip is)
    (events-unlisted events chip ∙ unlisted)
events-IsReady events chip (Boots place is) unlisted =
    booting-IsReady place (after_events events chip) (events-IsBooting place events chip is)
    (events-unlisted events chip ∙ unlisted)

on-IsReady :
    (events : List Event) (chip : State) → IsOn chip → chip.bus.accesses ≡ [] →
    IsReady (clocked (after_events events chip).boot (after_events events chip))
on-IsReady events chip (Runs is) unlisted =
    let now : State = after_events events chip in
    let runs : IsRunning (clocked now.boot now) =
    GoesOn-IsRunning now _ (clocked-GoesOn now.boot now) (events-IsRunning events chip is) in
    running-IsReady (clocked now.boot now) runs
    (clocked-unlisted now.boot now ∙ events-unlisted events chip ∙ unlisted)
on-IsReady events chip (Boots place is) unlisted =
    let now : State = after_events events chip in
    let boots : IsBooting place now = events-IsBooting place events chip is in
    subst (λ boot. IsReady (clocked boot now)) (sym boots.boot)
    (booting-IsReady place now boots (events-unlisted events chip ∙ unlisted))

-- ---- a chip without

off-IsReady : (bench : Stimulus) (chip : State) → chip.powered ≡ false → IsSound chip → IsReady (stimulated bench (powered Off chip))
unfolding stages timed owned powered stimulated
off-IsReady bench chip off is =
    let now : State = stimulated bench (begun_by Off chip) in
    let sound : IsSound (behind_tick chip.tick now) = by-IsSound Off bench chip off is in
    let down : now.powered ≡ false = off_events-powered (on_tick chip.tick bench.events) (begun_by Off chip) off in
    let start : now.boot ≡ Some Start = (sound.unpowered down).place in
    record {
      registers = sound.registers;
      borders = sound.borders;
      count = ap length sound.unrequested;
      quiet = sound.quiet;
      unlisted = events-unlisted (on_tick chip.tick bench.events) (begun_by Off chip) ∙ is.unlisted;
      settled = λ up. absurd (true-false (sym up ∙ off-unup now down));
      place = subst (λ boot. IfSome boot IsPlace) (sym start) tt;
    }

-- a tick without power, also where it found power on
unpowered-IsReady : (bench : Stimulus) (chip : State) → IsSound chip → IsReady (stimulated bench (powered Off chip))
unfolding stimulated powered
unpowered-IsReady bench chip is = by_power chip.powered refl
  where
    found : IsOn (powered_on (began None chip))
    found = powered_on-IsOn None chip is

    by_power : (on : Bool) → chip.powered ≡ on → IsReady (stimulated bench (powered Off chip))
    by_power false off = off-IsReady bench chip off is
    by_power true on =
        events-IsReady (on_tick chip.tick bench.events) (began None chip)
        (subst
        (λ test. IsOn (if test then began None chip else record (after_bor POWER_ON (began None chip)) { powered = true }))
        on found)
        is.unlisted

-- ---- every tick

by-IsReady :
    (power : Power) (bench : Stimulus) (chip : State) → IsSound chip →
    IsReady (stages power (stimulated bench (powered power chip))).ready
unfolding stages timed powered stimulated
by-IsReady On bench chip is =
    on-IsReady (on_tick (powered_on (begun_by On chip)).tick bench.events) (powered_on (begun_by On chip))
    (powered_on-IsOn None chip is) (powered_on-unlisted None chip ∙ is.unlisted)
by-IsReady (Cut writes) bench chip is =
    on-IsReady (on_tick (powered_on (begun_by (Cut writes) chip)).tick bench.events)
    (powered_on (begun_by (Cut writes) chip)) (powered_on-IsOn (Some writes) chip is)
    (powered_on-unlisted (Some writes) chip ∙ is.unlisted)
by-IsReady Off bench chip is = unpowered-IsReady bench chip is

pub ticks_make_ready : TicksMakeReady
unfolding moments
ticks_make_ready bench chip is = by-IsReady (power_of bench chip) bench chip is

-- ---- the budget

command-budget : (what : Command) (chip : State) → (after_command what chip).bus.budget ≡ chip.bus.budget
unfolding after_command ran
command-budget what chip =
    let done = ran what chip in
    let asked = reset_by (done.value).debug (accessed done chip) in
    let stands = (run-KeepsFacts by.Debug (commanded what (view_of chip) (debug_of chip) chip.registers) chip.bus).budget in
    either_holds (λ (now : State). now.bus.budget ≡ chip.bus.budget) ((done.value).debug).erase (with_mark ERASING asked)
    asked stands stands

event-budget : (act : EventAct) (chip : State) → (after_event act chip).bus.budget ≡ chip.bus.budget
event-budget (Pin port bit level) chip = refl
event-budget (Debug what) chip = command-budget what chip

events-budget : (events : List Event) (chip : State) → (after_events events chip).bus.budget ≡ chip.bus.budget
events-budget [] chip = refl
events-budget (event ∷ events) chip =
    events-budget events (after_event event.act chip) ∙ event-budget event.act chip

clocked-budget : (boot : Option Place) (chip : State) → (clocked boot chip).bus.budget ≡ chip.bus.budget
clocked-budget (Some place) chip = refl
clocked-budget None chip = refl

on-budget :
    (events : List Event) (chip : State) →
    (clocked (after_events events chip).boot (after_events events chip)).bus.budget ≡ chip.bus.budget
on-budget events chip =
    clocked-budget (after_events events chip).boot (after_events events chip) ∙ events-budget events chip

by-budget :
    (power : Power) (bench : Stimulus) (chip : State) →
    (stages power (stimulated bench (powered power chip))).ready.bus.budget ≡ budget_of power
unfolding stages timed powered stimulated
by-budget On bench chip =
    on-budget (on_tick (powered_on (begun_by On chip)).tick bench.events) (powered_on (begun_by On chip))
    ∙ powered_on-budget None chip
by-budget (Cut writes) bench chip =
    on-budget (on_tick (powered_on (begun_by (Cut writes) chip)).tick bench.events)
    (powered_on (begun_by (Cut writes) chip))
    ∙ powered_on-budget (Some writes) chip
by-budget Off bench chip = events-budget (on_tick chip.tick bench.events) (begun_by Off chip)

pub ticks_have_budgets : TicksHaveBudgets
unfolding moments
ticks_have_budgets bench chip = by-budget (power_of bench chip) bench chip
