-- Each tick keeps the facts, whatever its power and its events are.
use Rattle.std.proofs.Common.{◌≡◌, ◌+◌, ◌&&◌, not, ℕ, zero, suc, List, [], ◌∷◌, Bool, true, false, length, replicate, refl, ap, sym, ◌∙◌, subst, arith, if◌then◌else◌}
use Rattle.std.specs.Prelude.{Option, Some, None, is_none}
use Rattle.std.proofs.lemmas.Bool.Decides.{nat_tests}
use Rattle.std.proofs.lemmas.List.{length-replicate}
use Rattle.chip_words.specs.declared.accesses.Agent.TheVariants as by
use Rattle.chip_words.specs.Causes.{POWER_ON, least_cause, least_from, no_causes}
use Rattle.chip_words.specs.Script.{run}
use Rattle.access_laws.proofs.Courses.{chosen}
use Rattle.boot_code.specs.Facts.{is_unerased}
use Rattle.boot_code.specs.Place.{Place, Start}
use Rattle.bus_fabric.specs.Fabric.{tick_begun}
use Rattle.debug_port.specs.declared.answers.Answer.TheVariants.{Booting}
use Rattle.debug_port.specs.declared.commands.Command.{Command}
use Rattle.debug_port.specs.Commands.{commanded, unless_refused}
use Rattle.dma_unit.specs.Transfers.{due, passed}
use Rattle.power_schedule.specs.declared.powers.Power.{Power}
use Rattle.power_schedule.specs.declared.powers.Power.TheVariants.{On, Cut, Off}
use Rattle.right_laws.specs.Ends.{is_asked, requests}
use Rattle.step_laws.proofs.Shapes.{either_holds}
use Rattle.stimulus.specs.declared.events.Event.{Event}
use Rattle.stimulus.specs.declared.events.EventAct.{EventAct}
use Rattle.stimulus.specs.declared.events.EventAct.TheVariants.{Pin, Debug}
use Rattle.stimulus.specs.Events.{on_tick}
use Rattle.stimulus.specs.Stimulus.{Stimulus}
use Rattle.chip_core.specs.Debugger.{after_command, behind, debug_of, ran}
use Rattle.chip_core.specs.Phase.{is_up}
use Rattle.chip_core.specs.State.{State}
use Rattle.chip_core.specs.Tick.{after_bor, after_cause, after_event, after_events, begun_by, behind_tick, clocked, finished, moments, power_of, powered, powered_on, reset, stages, stimulated, ticked, timed}
use Rattle.chip_core.specs.Turns.{boot_turn, owned, owner_by, owner_of, with_dma}
use Rattle.release_log.specs.Facts.{FitsChip, IsSound, IsUnpowered, MayBeOff}
use Rattle.release_log.specs.RunFacts.{TickKeepsFacts}
use Rattle.release_log.proofs.Running.{GoesOn-IsRunning, IsRunning, TurnGoesOn, clocked-GoesOn, events-IsRunning, owned-GoesOn}
use Rattle.release_log.proofs.Ending.{IsEnded, and-false, behind_tick-IsSound, cut-IsEnded, no_registers-Are, reset-IsEnded, running-IsCuttable}
use Rattle.release_log.proofs.Booting.{IsBooting, boot_turn-IsCuttable, boot_turn-IsEnded}

-- ---- a tick by its power

-- a tick of a chip, with whatever power
abbrev pub ticked_by : Power → Stimulus → State → State
ticked_by power bench chip = behind_tick chip.tick ((stages power (stimulated bench (powered power chip))).after)

pub ticked-by : (bench : Stimulus) (chip : State) → ticked bench chip ≡ ticked_by (power_of bench chip) bench chip
unfolding ticked moments
ticked-by bench chip = refl

-- ---- a chip that isn't up

-- where power is off or the boot isn't done, a command changes nothing
pub command-unup : (what : Command) (chip : State) → is_up chip ≡ false → after_command what chip ≡ chip
unfolding after_command ran commanded
command-unup what chip down =
    ap (λ refusal. behind (run by.Debug (unless_refused refusal what (debug_of chip) chip.registers) chip.bus) chip)
    (chosen (not (is_up chip)) (Some Booting) _ (ap not down))

pub off-unup : (chip : State) → chip.powered ≡ false → is_up chip ≡ false
off-unup chip off = ap (λ powered. powered && is_none chip.boot) off

pub booting-unup : (place : Place) (chip : State) → chip.boot ≡ Some place → is_up chip ≡ false
booting-unup place chip boot = ap (λ boot. chip.powered && is_none boot) boot ∙ and-false chip.powered

-- ---- power comes on, or stays

-- a tick begins, with its budget
abbrev pub began : Option ℕ → State → State
began budget chip = record chip { bus = tick_begun budget chip.bus }

-- a chip with power, as its tick begins
pub data IsOn (chip : State) : Type 0 where
  Runs : IsRunning chip → IsOn chip
  Boots : (place : Place) → IsBooting place chip → IsOn chip

none-least : (n k : ℕ) → least_from k (replicate n false) ≡ None
none-least zero k = refl
none-least (suc n) k = none-least n (k + 1)

no_causes-least : least_cause no_causes ≡ None
unfolding no_causes
no_causes-least = none-least 65 0

no_causes-count : length no_causes ≡ 65
unfolding no_causes
no_causes-count = length-replicate 65 false

none-asked : (n k : ℕ) → is_asked (replicate n false) k ≡ false
none-asked zero k = refl
none-asked (suc n) zero = refl
none-asked (suc n) (suc k) = none-asked n k

no_causes-asked : (cause : ℕ) → is_asked no_causes cause ≡ false
unfolding no_causes
no_causes-asked cause = none-asked 65 cause

begun-IsRunning :
    (budget : Option ℕ) (chip : State) → IsSound chip → chip.powered ≡ true → chip.boot ≡ None →
    IsRunning (began budget chip)
begun-IsRunning budget chip is powered boot =
    let unerased : is_unerased chip.keep.mark ≡ true =
    subst (λ boot. FitsChip boot chip.keep chip.bus.memory) boot is.fit in
    record {
      powered = powered;
      booted = boot;
      count = ap length is.unrequested ∙ no_causes-count;
      quiet = is.quiet;
      size = is.size;
      registers = is.registers;
      settled = is.settled (ap (λ powered. powered && is_none chip.boot) powered ∙ ap is_none boot);
      marked = is.marked;
      high = λ cause low. ap (λ requested. is_asked requested cause) is.unrequested ∙ no_causes-asked cause;
      erasing = λ marked. absurd (grind (arith, nat_tests));
    }

begun-IsBooting :
    (budget : Option ℕ) (place : Place) (chip : State) → IsSound chip → chip.powered ≡ true → chip.boot ≡ Some place →
    IsBooting place (began budget chip)
begun-IsBooting budget place chip is powered boot = record {
  powered = powered;
  boot = boot;
  unrequested = is.unrequested;
  quiet = is.quiet;
  size = is.size;
  registers = is.registers;
  borders = is.borders;
  fit = subst (λ boot. FitsChip boot chip.keep chip.bus.memory) boot is.fit;
}

came-IsBooting :
    (budget : Option ℕ) (chip : State) → IsSound chip →
    IsBooting Start (record (after_bor POWER_ON (began budget chip)) { powered = true })
came-IsBooting budget chip is = record {
  powered = refl;
  boot = refl;
  unrequested = refl;
  quiet = is.quiet;
  size = is.size;
  registers = no_registers-Are;
  borders = is.borders;
  fit = is.marked;
}

pub powered_on-IsOn :
    (budget : Option ℕ) (chip : State) → IsSound chip → IsOn (powered_on (began budget chip))
powered_on-IsOn budget chip is = by_power chip.powered refl
  where
    by_boot : (boot : Option Place) → chip.powered ≡ true → chip.boot ≡ boot → IsOn (began budget chip)
    by_boot None powered boot = Runs (begun-IsRunning budget chip is powered boot)
    by_boot (Some place) powered boot = Boots place (begun-IsBooting budget place chip is powered boot)

    by_power :
        (test : Bool) → chip.powered ≡ test →
        IsOn (if test then began budget chip else record (after_bor POWER_ON (began budget chip)) { powered = true })
    by_power true powered = by_boot chip.boot powered refl
    by_power false powered = Boots Start (came-IsBooting budget chip is)

-- the budget of the tick stands where power comes on
pub powered_on-budget :
    (budget : Option ℕ) (chip : State) →
    (powered_on (began budget chip)).bus.budget ≡ budget
powered_on-budget budget chip =
    either_holds (λ (now : State). now.bus.budget ≡ budget) chip.powered (began budget chip)
    (record (after_bor POWER_ON (began budget chip)) { powered = true }) refl refl

-- ---- a boot's tick

event-IsBooting :
    (place : Place) (act : EventAct) (chip : State) → IsBooting place chip → IsBooting place (after_event act chip)
event-IsBooting place (Pin port bit level) chip is = record {
  powered = is.powered;
  boot = is.boot;
  unrequested = is.unrequested;
  quiet = is.quiet;
  size = is.size;
  registers = is.registers;
  borders = is.borders;
  fit = is.fit;
}
event-IsBooting place (Debug what) chip is =
    subst (IsBooting place) (sym (command-unup what chip (booting-unup place chip is.boot))) is

pub events-IsBooting :
    (place : Place) (events : List Event) (chip : State) → IsBooting place chip →
    IsBooting place (after_events events chip)
events-IsBooting place [] chip is = is
events-IsBooting place (event ∷ events) chip is =
    events-IsBooting place events (after_event event.act chip) (event-IsBooting place event.act chip is)

event-budget :
    (place : Place) (act : EventAct) (chip : State) → IsBooting place chip →
    (after_event act chip).bus.budget ≡ chip.bus.budget
event-budget place (Pin port bit level) chip is = refl
event-budget place (Debug what) chip is =
    ap (λ (after : State). after.bus.budget) (command-unup what chip (booting-unup place chip is.boot))

pub events-budget :
    (place : Place) (events : List Event) (chip : State) → IsBooting place chip →
    (after_events events chip).bus.budget ≡ chip.bus.budget
events-budget place [] chip is = refl
events-budget place (event ∷ events) chip is =
    events-budget place events (after_event event.act chip) (event-IsBooting place event.act chip is)
    ∙ event-budget place event.act chip is

pub passed-IsBooting : (place : Place) (chip : State) → IsBooting place chip → IsBooting place (with_dma passed chip)
passed-IsBooting place chip is = record {
  powered = is.powered;
  boot = is.boot;
  unrequested = is.unrequested;
  quiet = is.quiet;
  size = is.size;
  registers = is.registers;
  borders = is.borders;
  fit = is.fit;
}

-- the boot owns the bus
booting-turn :
    (place : Place) (chip : State) → chip.boot ≡ Some place →
    (owned (owner_of (clocked chip.boot chip)) (clocked chip.boot chip)).chip ≡ boot_turn place (with_dma passed chip)
unfolding owned owner_of
booting-turn place chip boot =
    ap (λ boot. (owned (owner_of (clocked boot chip)) (clocked boot chip)).chip) boot
    ∙ ap (λ boot. (owned (owner_by boot chip.second_tick (due (chip.bus.units).dma)) chip).chip) boot

reset-none : (chip : State) → requests chip.bus ≡ no_causes → reset chip ≡ chip
unfolding reset
reset-none chip none = ap (λ taken. after_cause taken chip) (ap least_cause none ∙ no_causes-least)

-- so a tick that isn't cut is the boot's step
pub booting-uncut :
    (place : Place) (chip : State) → IsBooting place chip → chip.bus.budget ≡ None →
    (stages On chip).after ≡ boot_turn place (with_dma passed chip)
unfolding stages timed
booting-uncut place chip is uncut =
    let ended : IsEnded (boot_turn place (with_dma passed chip)) =
    boot_turn-IsEnded place (with_dma passed chip) (passed-IsBooting place chip is) uncut in
    ap reset (booting-turn place chip is.boot) ∙ reset-none (boot_turn place (with_dma passed chip)) ended.unrequested

-- and one that is cut is its cut
pub booting-cut :
    (place : Place) (writes : ℕ) (chip : State) → IsBooting place chip →
    (stages (Cut writes) chip).after ≡ finished (Cut writes) (boot_turn place (with_dma passed chip))
unfolding stages timed
booting-cut place writes chip is = ap (finished (Cut writes)) (booting-turn place chip is.boot)

-- ---- the tick of a chip that runs

running-turn :
    (chip : State) → IsRunning chip →
    IsRunning (owned (owner_of (clocked chip.boot chip)) (clocked chip.boot chip)).chip
unfolding owner_of
running-turn chip is =
    let ready = clocked chip.boot chip in
    let runs : IsRunning ready = GoesOn-IsRunning chip ready (clocked-GoesOn chip.boot chip) is in
    let channel = due (ready.bus.units).dma in
    GoesOn-IsRunning ready _
    (subst (λ boot. TurnGoesOn ready (owned (owner_by boot ready.second_tick channel) ready)) (sym runs.booted)
    (owned-GoesOn ready.second_tick channel ready))
    runs

-- ---- the stages behind the events

uncut-IsEnded :
    (events : List Event) (chip : State) → chip.bus.budget ≡ None → IsOn chip →
    IsEnded (stages On (after_events events chip)).after
unfolding stages timed
uncut-IsEnded events chip uncut (Runs is) = reset-IsEnded _ (running-turn _ (events-IsRunning events chip is))
uncut-IsEnded events chip uncut (Boots place is) =
    let now : State = after_events events chip in
    let boots : IsBooting place now = events-IsBooting place events chip is in
    let budget : now.bus.budget ≡ None = events-budget place events chip is ∙ uncut in
    subst IsEnded (sym (booting-uncut place now boots budget))
    (boot_turn-IsEnded place (with_dma passed now) (passed-IsBooting place now boots) budget)

cut_short-IsEnded :
    (writes : ℕ) (events : List Event) (chip : State) → IsOn chip →
    IsEnded (stages (Cut writes) (after_events events chip)).after
unfolding stages timed
cut_short-IsEnded writes events chip (Runs is) =
    cut-IsEnded _ (running-IsCuttable _ (running-turn _ (events-IsRunning events chip is)))
cut_short-IsEnded writes events chip (Boots place is) =
    let now : State = after_events events chip in
    let boots : IsBooting place now = events-IsBooting place events chip is in
    subst IsEnded (sym (booting-cut place writes now boots))
    (cut-IsEnded _ (boot_turn-IsCuttable place (with_dma passed now) (passed-IsBooting place now boots)))

-- ---- a tick without power

off-stages : (chip : State) → (stages Off chip).after ≡ chip
unfolding stages timed owned
off-stages chip = refl

begun-unpowered :
    (budget : Option ℕ) (chip : State) → IsUnpowered chip → IsUnpowered (began budget chip)
begun-unpowered budget chip is = record {
  registers = is.registers;
  sram = is.sram;
  idle = is.idle;
  alive = is.alive;
  running = is.running;
  unasked = is.unasked;
  first_tick = is.first_tick;
  place = is.place;
}

begun_off-IsEnded : (chip : State) → IsSound chip → IsEnded (begun_by Off chip)
begun_off-IsEnded chip is = record {
  unrequested = is.unrequested;
  quiet = is.quiet;
  size = is.size;
  registers = is.registers;
  marked = is.marked;
  borders = is.borders;
  settled = λ up. is.settled up;
  unpowered = λ off. begun-unpowered None chip (is.unpowered off);
  fit = is.fit;
}

off_event-IsEnded :
    (act : EventAct) (chip : State) → chip.powered ≡ false → IsEnded chip → IsEnded (after_event act chip)
off_event-IsEnded (Pin port bit level) chip off is = record {
  unrequested = is.unrequested;
  quiet = is.quiet;
  size = is.size;
  registers = is.registers;
  marked = is.marked;
  borders = is.borders;
  settled = λ up. is.settled up;
  unpowered = λ off.
      let lost : IsUnpowered chip = is.unpowered off in
      record {
        registers = lost.registers;
        sram = lost.sram;
        idle = lost.idle;
        alive = lost.alive;
        running = lost.running;
        unasked = lost.unasked;
        first_tick = lost.first_tick;
        place = lost.place;
      };
  fit = is.fit;
}
off_event-IsEnded (Debug what) chip off is = subst IsEnded (sym (command-unup what chip (off-unup chip off))) is

-- an event neither brings power nor takes it
pub off_event-powered : (act : EventAct) (chip : State) → chip.powered ≡ false → (after_event act chip).powered ≡ false
off_event-powered (Pin port bit level) chip off = off
off_event-powered (Debug what) chip off =
    ap (λ (after : State). after.powered) (command-unup what chip (off-unup chip off)) ∙ off

pub off_events-powered :
    (events : List Event) (chip : State) → chip.powered ≡ false → (after_events events chip).powered ≡ false
off_events-powered [] chip off = off
off_events-powered (event ∷ events) chip off =
    off_events-powered events (after_event event.act chip) (off_event-powered event.act chip off)

off_events-IsEnded :
    (events : List Event) (chip : State) → chip.powered ≡ false → IsEnded chip → IsEnded (after_events events chip)
off_events-IsEnded [] chip off is = is
off_events-IsEnded (event ∷ events) chip off is =
    off_events-IsEnded events (after_event event.act chip) (off_event-powered event.act chip off)
    (off_event-IsEnded event.act chip off is)

-- ---- every tick

stages-IsEnded :
    (power : Power) (bench : Stimulus) (chip : State) → MayBeOff power chip → IsSound chip →
    IsEnded (stages power (stimulated bench (powered power chip))).after
unfolding powered stimulated
stages-IsEnded On bench chip off is =
    uncut-IsEnded (on_tick (powered_on (begun_by On chip)).tick bench.events) (powered_on (begun_by On chip))
    (powered_on-budget None chip) (powered_on-IsOn None chip is)
stages-IsEnded (Cut writes) bench chip off is =
    cut_short-IsEnded writes (on_tick (powered_on (begun_by (Cut writes) chip)).tick bench.events)
    (powered_on (begun_by (Cut writes) chip)) (powered_on-IsOn (Some writes) chip is)
stages-IsEnded Off bench chip off is =
    subst IsEnded (sym (off-stages (stimulated bench (begun_by Off chip))))
    (off_events-IsEnded (on_tick chip.tick bench.events) (begun_by Off chip) off (begun_off-IsEnded chip is))

pub by-IsSound :
    (power : Power) (bench : Stimulus) (chip : State) → MayBeOff power chip → IsSound chip →
    IsSound (ticked_by power bench chip)
by-IsSound power bench chip off is = behind_tick-IsSound chip.tick _ (stages-IsEnded power bench chip off is)

pub ticked-IsSound :
    (bench : Stimulus) (chip : State) → MayBeOff (power_of bench chip) chip → IsSound chip →
    IsSound (ticked bench chip)
ticked-IsSound bench chip off is =
    subst IsSound (sym (ticked-by bench chip)) (by-IsSound (power_of bench chip) bench chip off is)

pub tick_keeps_facts : TickKeepsFacts
tick_keeps_facts bench chip off is = ticked-IsSound bench chip off is
