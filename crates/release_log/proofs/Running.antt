-- A tick of a chip whose boot is done: what holds of the chip from stage to stage.
use Rattle.std.proofs.Common.{◌≡◌, ◌<◌, ℕ, zero, suc, List, [], ◌∷◌, Bool, true, false, length, slice_set, arith, refl, ap, sym, ◌∙◌, subst, if◌then◌else◌}
use Rattle.std.specs.Prelude.{Option, Some, None, nat_lt, ◌||◌, ◌-◌, slice_index}
use Rattle.chip_words.specs.declared.accesses.Agent.{Agent}
use Rattle.chip_words.specs.declared.accesses.Agent.TheVariants as by
use Rattle.chip_words.specs.Access.{access}
use Rattle.chip_words.specs.BusPart.{BusPart}
use Rattle.chip_words.specs.Causes.{DEBUG_RESET, WATCHDOG_INTERVAL, with_cause}
use Rattle.chip_words.specs.Dma.{Dma}
use Rattle.chip_words.specs.Interrupts.{Interrupt, entered_by, interrupts, units_entered}
use Rattle.chip_words.specs.Memory.{memory_size}
use Rattle.chip_words.specs.Public.{IsSettled}
use Rattle.chip_words.specs.Registers.{AreRegisters, PC}
use Rattle.chip_words.specs.Script.{Ask, Return, Script, run}
use Rattle.chip_words.specs.Steps.{begun}
use Rattle.chip_words.specs.Encap.{seal}
use Rattle.chip_words.specs.Timers.{fired}
use Rattle.chip_words.specs.Units.{Units, units_clocked, units_driven}
use Rattle.bus_fabric.specs.Fabric.{part_entered}
use Rattle.boot_code.specs.Boot.{ERASING}
use Rattle.boot_code.specs.Facts.{is_mark}
use Rattle.boot_code.specs.Place.{Place}
use Rattle.boot_code.specs.declared.boots.Keep.{Keep}
use Rattle.debug_port.specs.declared.answers.Answer.{Answer}
use Rattle.debug_port.specs.declared.answers.Answer.TheVariants.{Bytes}
use Rattle.debug_port.specs.declared.commands.Command.{Command}
use Rattle.debug_port.specs.declared.commands.Command.TheVariants as command
use Rattle.debug_port.specs.declared.states.Debug.{Debug}
use Rattle.debug_port.specs.declared.states.DebugView.{DebugView}
use Rattle.debug_port.specs.Commands.{Commanded, answered, bytes_from, carried_out, commanded, refusal_of, unless_refused}
use Rattle.dma_unit.specs.declared.transfers.Move.{Move}
use Rattle.dma_unit.specs.Moves.{transfer}
use Rattle.dma_unit.specs.Transfers.{move_at, passed, transferred}
use Rattle.cpux_execute.specs.declared.outcomes.Outcome.{Outcome}
use Rattle.cpux_execute.specs.declared.outcomes.Outcome.TheVariants.{Cycles, Reserved}
use Rattle.cpux_execute.specs.Execution.{Stepped}
use Rattle.cpux_extended.specs.Instruction.{instruction}
use Rattle.stimulus.specs.declared.events.Event.{Event}
use Rattle.stimulus.specs.declared.events.EventAct.{EventAct}
use Rattle.stimulus.specs.declared.events.EventAct.TheVariants.{Pin, Debug as Told}
use Rattle.right_laws.specs.Ends.{is_asked, requests}
use Rattle.step_laws.specs.Status.{Ends}
use Rattle.step_laws.proofs.Shapes.{either_holds}
use Rattle.chip_core.specs.Boot.{is_next_over, with_mark}
use Rattle.chip_core.specs.Debugger.{accessed, after_command, debug_cause, debug_of, marked_by, ran, reset_by, view_of}
use Rattle.chip_core.specs.Entry.{entry}
use Rattle.chip_core.specs.State.{State}
use Rattle.chip_core.specs.Tick.{after_event, after_events, aclk_edge, clocked, smclk_edge}
use Rattle.chip_core.specs.Turns.{Turn, accepted_by, asked, entered, free_turn, instructed, is_halting, is_off, moved, owned, owner_by, processor_turn, reserved_cause, transfer_turn, with_dma, without_step}
use Rattle.release_log.specs.Sound.{DEBUGGER, HasNoneLower, KeepsFacts, OnlyJoin}
use Rattle.release_log.proofs.Requests.{IsHigh, OnlyJoin-same, with_cause-OnlyJoin}
use Rattle.release_log.proofs.Steady.{KeepsFacts-same, KeepsFacts-then, run-KeepsFacts, run-noted, step_ended-KeepsFacts, step_ended-quiet}
use Rattle.release_log.proofs.Registers.{Ends-behind, entries_leave_registers, instructions_leave_registers, with_register-Are}

-- ---- what holds

-- of a chip within a tick, whose boot is done
pub record IsRunning (chip : State) : Type 0 where
  pub powered : chip.powered ≡ true
  pub booted : chip.boot ≡ None
  pub count : length (requests chip.bus) ≡ 65
  pub quiet : chip.bus.noted ≡ 0
  pub size : length chip.bus.memory ≡ memory_size
  pub registers : AreRegisters chip.registers
  pub settled : IsSettled chip.bus
  pub marked : is_mark chip.keep.mark ≡ true
  -- no request is below the debugger's, and where an erase has begun the debugger's is there
  pub high : HasNoneLower (requests chip.bus)
  pub erasing : chip.keep.mark ≡ ERASING → is_asked (requests chip.bus) DEBUGGER ≡ true

-- what a part of such a tick leaves of it
pub record GoesOn (before after : State) : Type 0 where
  pub powered : after.powered ≡ before.powered
  pub boot : after.boot ≡ before.boot
  pub keep : after.keep ≡ before.keep
  pub bus : KeepsFacts before.bus after.bus
  pub quiet : before.bus.noted ≡ 0 → after.bus.noted ≡ 0
  pub registers : AreRegisters before.registers → AreRegisters after.registers

pub GoesOn-IsRunning : (before after : State) → GoesOn before after → IsRunning before → IsRunning after
GoesOn-IsRunning before after goes is = record {
  powered = goes.powered ∙ is.powered;
  booted = goes.boot ∙ is.booted;
  count = goes.bus.requested.count ∙ is.count;
  quiet = goes.quiet is.quiet;
  size = goes.bus.size ∙ is.size;
  registers = goes.registers is.registers;
  settled = goes.bus.settled is.settled;
  marked = ap (λ (keep : Keep). is_mark keep.mark) goes.keep ∙ is.marked;
  high = λ cause low. goes.bus.requested.none_lower cause low ∙ is.high cause low;
  erasing = λ marked.
      goes.bus.requested.stand DEBUGGER
      (is.erasing (ap (λ (keep : Keep). keep.mark) (sym goes.keep) ∙ marked));
}

pub GoesOn-then : (a b c : State) → GoesOn a b → GoesOn b c → GoesOn a c
GoesOn-then a b c first second = record {
  powered = second.powered ∙ first.powered;
  boot = second.boot ∙ first.boot;
  keep = second.keep ∙ first.keep;
  bus = KeepsFacts-then a.bus b.bus c.bus first.bus second.bus;
  quiet = λ quiet. second.quiet (first.quiet quiet);
  registers = λ are. second.registers (first.registers are);
}

-- the bus part alone changes
pub bus-GoesOn :
    (chip : State) (part : BusPart) → KeepsFacts chip.bus part → (chip.bus.noted ≡ 0 → part.noted ≡ 0) →
    GoesOn chip (record chip { bus = part })
bus-GoesOn chip part keeps quiet =
    record { powered = refl; boot = refl; keep = refl; bus = keeps; quiet = quiet; registers = λ are. are }

pub GoesOn-same : (chip : State) → GoesOn chip chip
GoesOn-same chip = bus-GoesOn chip chip.bus (KeepsFacts-same chip.bus) (λ quiet. quiet)

-- ---- steps

-- what holds of each end of a script holds of its run's
pub run-Ends :
    {A : Type 0} (Holds : A → Type 0) (who : Agent) (script : Script A) (part : BusPart) → Ends Holds script →
    Holds (run who script part).value
run-Ends Holds who (Return value) part holds = holds
run-Ends Holds who (Ask kind at size value rest) part holds =
    let next = access who kind at size value part in
    run-Ends Holds who (rest next.answer) next.part (holds next.answer)

-- a list and causes of a step are none of the facts
pub begun-KeepsFacts : (part : BusPart) → KeepsFacts part (begun part)
begun-KeepsFacts part = record {
  size = refl;
  fill = refl;
  budget = refl;
  requested = OnlyJoin-same (requests part);
  borders = λ is. is;
  settled = λ is. is;
}

pub step-KeepsFacts :
    {A : Type 0} (who : Agent) (step : Script A) (part : BusPart) → KeepsFacts part (run who step (begun part)).part
step-KeepsFacts who step part =
    KeepsFacts-then part (begun part) _ (begun-KeepsFacts part) (run-KeepsFacts who step (begun part))

pub asked-KeepsFacts : (cause : Option ℕ) (part : BusPart) → IsHigh cause → KeepsFacts part (asked cause part)
asked-KeepsFacts cause part high = record {
  size = refl;
  fill = refl;
  budget = refl;
  requested = with_cause-OnlyJoin cause (requests part) high;
  borders = λ is. is;
  settled = λ is. is;
}

-- ---- the debugger

-- what a command leaves: an erase comes with a reset
record IsObeyed (done : Commanded) : Type 0 where
  pub registers : AreRegisters done.registers
  pub erases : done.debug.erase ≡ true → done.debug.reset ≡ true

carried_out-Ends :
    (what : Command) (debug : Debug) (registers : List ℕ) → AreRegisters registers →
    (debug.erase ≡ true → debug.reset ≡ true) → Ends IsObeyed (carried_out what debug registers)
carried_out-Ends (command.Read at) debug registers are fresh = λ word. record { registers = are; erases = fresh }
carried_out-Ends (command.Write at value) debug registers are fresh =
    λ written. record { registers = are; erases = fresh }
carried_out-Ends (command.Dump at count) debug registers are fresh =
    Ends-behind IsObeyed (bytes_from count at) (λ bytes. answered (Bytes bytes) debug registers)
    (λ bytes. record { registers = are; erases = fresh })
carried_out-Ends (command.Reg n) debug registers are fresh = record { registers = are; erases = fresh }
carried_out-Ends (command.SetReg n value) debug registers are fresh =
    record { registers = with_register-Are registers n value are; erases = fresh }
carried_out-Ends command.Halt debug registers are fresh = record {
  registers = are;
  erases =
      either_holds (λ (after : Debug). after.erase ≡ true → after.reset ≡ true) debug.halted debug
      (record debug { pending = true }) fresh fresh;
}
carried_out-Ends command.Go debug registers are fresh = record { registers = are; erases = fresh }
carried_out-Ends command.Reset debug registers are fresh = record { registers = are; erases = λ erases. refl }
carried_out-Ends command.Erase debug registers are fresh = record { registers = are; erases = λ erases. refl }

commanded-Ends :
    (what : Command) (view : DebugView) (debug : Debug) (registers : List ℕ) → AreRegisters registers →
    (debug.erase ≡ true → debug.reset ≡ true) → Ends IsObeyed (commanded what view debug registers)
unfolding commanded
commanded-Ends what view debug registers are fresh = by_refusal (refusal_of what view debug)
  where
    by_refusal : (refusal : Option Answer) → Ends IsObeyed (unless_refused refusal what debug registers)
    by_refusal (Some answer) = record { registers = are; erases = fresh }
    by_refusal None = carried_out-Ends what debug registers are fresh

ran-IsObeyed : (what : Command) (chip : State) → AreRegisters chip.registers → IsObeyed (ran what chip).value
unfolding ran
ran-IsObeyed what chip are =
    run-Ends IsObeyed by.Debug (commanded what (view_of chip) (debug_of chip) chip.registers) chip.bus
    (commanded-Ends what (view_of chip) (debug_of chip) chip.registers are (λ erases. cc))

accessed-GoesOn : (what : Command) (chip : State) → GoesOn chip (accessed (ran what chip) chip)
unfolding ran
accessed-GoesOn what chip =
    let step = commanded what (view_of chip) (debug_of chip) chip.registers in
    record {
      powered = refl;
      boot = refl;
      keep = refl;
      bus = run-KeepsFacts by.Debug step chip.bus;
      quiet = λ quiet. run-noted by.Debug step chip.bus refl ∙ quiet;
      registers = λ are. (ran-IsObeyed what chip are).registers;
    }

debug_cause-IsHigh : (debug : Debug) → IsHigh (debug_cause debug)
debug_cause-IsHigh debug = either_holds IsHigh debug.reset (Some DEBUG_RESET) None (omega arith) tt

reset_by-GoesOn : (debug : Debug) (chip : State) → GoesOn chip (reset_by debug chip)
reset_by-GoesOn debug chip =
    bus-GoesOn chip _ (asked-KeepsFacts (debug_cause debug) chip.bus (debug_cause-IsHigh debug)) (λ quiet. quiet)

set-asked :
    (requested : List Bool) (cause : ℕ) → cause < length requested →
    is_asked (slice_set requested cause true) cause ≡ true
set-asked [] cause few = absurd (omega arith)
set-asked (x ∷ requested) zero few = refl
set-asked (x ∷ requested) (suc cause) few = set-asked requested cause (omega arith)

-- a reset of the debugger is requested
reset_by-asked :
    (debug : Debug) (chip : State) → IsRunning chip → debug.reset ≡ true →
    is_asked (requests (reset_by debug chip).bus) DEBUGGER ≡ true
reset_by-asked debug chip is resets =
    let count : length (requests chip.bus) ≡ 65 = is.count in
    let asks : Bool → Type 0 = λ reset.
    is_asked (with_cause (if reset then Some DEBUG_RESET else None) (requests chip.bus)) DEBUGGER ≡ true in
    subst asks (sym resets) (set-asked (requests chip.bus) DEBUGGER (omega arith))

marked-IsRunning :
    (chip : State) → IsRunning chip → is_asked (requests chip.bus) DEBUGGER ≡ true →
    IsRunning (with_mark ERASING chip)
marked-IsRunning chip is resets = record {
  powered = is.powered;
  booted = is.booted;
  count = is.count;
  quiet = is.quiet;
  size = is.size;
  registers = is.registers;
  settled = is.settled;
  marked =
      either_holds (λ (keep : Keep). is_mark keep.mark ≡ true) (is_next_over chip.bus) chip.keep
      (record (chip.keep) { mark = ERASING }) is.marked refl;
  high = is.high;
  erasing = λ marked. resets;
}

obeyed-IsRunning :
    (debug : Debug) (chip : State) → (debug.erase ≡ true → debug.reset ≡ true) → IsRunning chip →
    IsRunning (marked_by debug (reset_by debug chip))
obeyed-IsRunning debug chip erases is = by_erase debug.erase refl
  where
    asks : IsRunning (reset_by debug chip)
    asks = GoesOn-IsRunning chip (reset_by debug chip) (reset_by-GoesOn debug chip) is

    by_erase :
        (test : Bool) → debug.erase ≡ test →
        IsRunning (if test then with_mark ERASING (reset_by debug chip) else reset_by debug chip)
    by_erase true erased =
        marked-IsRunning (reset_by debug chip) asks (reset_by-asked debug chip is (erases erased))
    by_erase false erased = asks

command-IsRunning : (what : Command) (chip : State) → IsRunning chip → IsRunning (after_command what chip)
unfolding after_command
command-IsRunning what chip is =
    obeyed-IsRunning (ran what chip).value.debug (accessed (ran what chip) chip)
    (ran-IsObeyed what chip is.registers).erases
    (GoesOn-IsRunning chip _ (accessed-GoesOn what chip) is)

-- ---- the events

-- the units change, and neither the requests nor the encapsulation do
pub units-KeepsFacts :
    (part : BusPart) (units : Units) → (units.sys).requested ≡ (part.units.sys).requested →
    units.encap ≡ part.units.encap → KeepsFacts part (record part { units = units })
units-KeepsFacts part units requested encap = record {
  size = refl;
  fill = refl;
  budget = refl;
  requested = subst (OnlyJoin (requests part)) (sym requested) (OnlyJoin-same (requests part));
  borders = λ is. is;
  settled = λ is. is ∙ ap seal (sym encap);
}

event-IsRunning : (act : EventAct) (chip : State) → IsRunning chip → IsRunning (after_event act chip)
event-IsRunning (Pin port bit level) chip is =
    let driven = units_driven port bit level chip.bus.units in
    GoesOn-IsRunning chip _ (bus-GoesOn chip _ (units-KeepsFacts chip.bus driven refl refl) (λ quiet. quiet)) is
event-IsRunning (Told what) chip is = command-IsRunning what chip is

pub events-IsRunning : (events : List Event) (chip : State) → IsRunning chip → IsRunning (after_events events chip)
events-IsRunning [] chip is = is
events-IsRunning (event ∷ events) chip is =
    events-IsRunning events (after_event event.act chip) (event-IsRunning event.act chip is)

-- ---- the clocks

units_clocked-KeepsFacts :
    (smclk aclk : Bool) (part : BusPart) →
    KeepsFacts part (record part { units = units_clocked smclk aclk part.units })
units_clocked-KeepsFacts smclk aclk part =
    let requested = requests part in
    let joined : OnlyJoin requested (with_cause (Some WATCHDOG_INTERVAL) requested) =
    with_cause-OnlyJoin (Some WATCHDOG_INTERVAL) requested (omega arith) in
    record {
      size = refl;
      fill = refl;
      budget = refl;
      requested =
          either_holds (OnlyJoin requested) (fired part.units.timers smclk aclk).reset _ _ joined
          (OnlyJoin-same requested);
      borders = λ is. is;
      settled = λ is. is;
    }

pub clocked-GoesOn : (boot : Option Place) (chip : State) → GoesOn chip (clocked boot chip)
clocked-GoesOn (Some place) chip = GoesOn-same chip
clocked-GoesOn None chip =
    bus-GoesOn chip _ (units_clocked-KeepsFacts (smclk_edge chip) (aclk_edge chip) chip.bus) (λ quiet. quiet)

-- ---- an entry

-- the requests and the encapsulation are as they were
pub record LeavesRequests (before after : Units) : Type 0 where
  pub requested : (after.sys).requested ≡ (before.sys).requested
  pub encap : after.encap ≡ before.encap

abbrev LeavesAll : List Interrupt → Units → Type 0
LeavesAll [] units = Unit {0}
LeavesAll (row ∷ rows) units = LeavesRequests units (row.entered units) × LeavesAll rows units

entered_by-Leaves :
    (rows : List Interrupt) (vector : ℕ) (units : Units) → LeavesAll rows units →
    LeavesRequests units (entered_by rows vector units)
entered_by-Leaves [] vector units leave = record { requested = refl; encap = refl }
entered_by-Leaves (row ∷ rows) vector units leave =
    either_holds (LeavesRequests units) _ (row.entered units) (entered_by rows vector units) leave.0
    (entered_by-Leaves rows vector units leave.1)

interrupts-Leave : (units : Units) → LeavesAll interrupts units
interrupts-Leave units =
    let one : LeavesRequests units units = record { requested = refl; encap = refl } in (
      record { requested = refl; encap = refl },
      (
        one,
        (
          record { requested = refl; encap = refl },
          (
            one,
            (
              record { requested = refl; encap = refl },
              (
                one,
                (one, (record { requested = refl; encap = refl }, (one, (one, (one, (one, (one, tt))))))),
              ),
            ),
          ),
        ),
      ),
    )

pub units_entered-Leaves : (vector : ℕ) (units : Units) → LeavesRequests units (units_entered vector units)
unfolding units_entered
units_entered-Leaves vector units = entered_by-Leaves interrupts vector units (interrupts-Leave units)

part_entered-KeepsFacts : (vector : ℕ) (part : BusPart) → KeepsFacts part (part_entered vector part)
part_entered-KeepsFacts vector part =
    let leaves = units_entered-Leaves vector part.units in
    let keeps = units-KeepsFacts part (units_entered vector part.units) leaves.requested leaves.encap in
    record {
      size = refl;
      fill = refl;
      budget = refl;
      requested = keeps.requested;
      borders = λ is. is;
      settled = keeps.settled;
    }

entered-GoesOn : (vector : ℕ) (chip : State) → GoesOn chip (entered vector chip).chip
unfolding entered
entered-GoesOn vector chip =
    let ran = run by.Entry (entry vector chip.registers) (begun chip.bus) in
    let behind = part_entered vector ran.part in
    record {
      powered = refl;
      boot = refl;
      keep = refl;
      bus =
          KeepsFacts-then chip.bus ran.part _ (step-KeepsFacts by.Entry (entry vector chip.registers) chip.bus)
          (KeepsFacts-then ran.part behind _ (part_entered-KeepsFacts vector ran.part) (step_ended-KeepsFacts behind));
      quiet = λ quiet. step_ended-quiet behind;
      registers = λ are.
          run-Ends AreRegisters by.Entry (entry vector chip.registers) (begun chip.bus)
          (entries_leave_registers vector chip.registers are);
    }

-- ---- an instruction

reserved_cause-IsHigh : (outcome : Outcome) → IsHigh (reserved_cause outcome)
reserved_cause-IsHigh (Cycles cycles) = tt
reserved_cause-IsHigh Reserved = omega arith

instructed-GoesOn : (chip : State) → GoesOn chip (instructed chip).chip
unfolding instructed
instructed-GoesOn chip =
    let who = by.Cpu (slice_index chip.registers PC) in
    let ran = run who (instruction chip.registers) (begun chip.bus) in
    let behind = asked (reserved_cause (ran.value).outcome) ran.part in
    record {
      powered = refl;
      boot = refl;
      keep = refl;
      bus =
          KeepsFacts-then chip.bus ran.part _ (step-KeepsFacts who (instruction chip.registers) chip.bus)
          (KeepsFacts-then ran.part behind _
          (asked-KeepsFacts (reserved_cause (ran.value).outcome) ran.part
          (reserved_cause-IsHigh (ran.value).outcome))
          (step_ended-KeepsFacts behind));
      quiet = λ quiet. step_ended-quiet behind;
      registers = λ are.
          run-Ends (λ (stepped : Stepped). AreRegisters stepped.registers) who (instruction chip.registers)
          (begun chip.bus) (instructions_leave_registers chip.registers are);
    }

-- ---- the turn of the processor

abbrev pub TurnGoesOn : State → Turn → Type 0
TurnGoesOn chip turn = GoesOn chip turn.chip

free_turn-GoesOn : (vector : Option ℕ) (chip : State) → TurnGoesOn chip (free_turn vector chip)
free_turn-GoesOn (Some vector) chip = entered-GoesOn vector chip
free_turn-GoesOn None chip =
    either_holds (TurnGoesOn chip) (is_off chip) (without_step chip) (instructed chip) (GoesOn-same chip)
    (instructed-GoesOn chip)

-- neither the processor's rest of cycles nor a halt is one of the facts
rests-GoesOn : (chip : State) (busy : ℕ) (halted pending second : Bool) →
    GoesOn chip (record chip { busy = busy; halted = halted; pending = pending; second_tick = second })
rests-GoesOn chip busy halted pending second = record {
  powered = refl;
  boot = refl;
  keep = refl;
  bus = KeepsFacts-same chip.bus;
  quiet = λ quiet. quiet;
  registers = λ are. are;
}

processor_turn-GoesOn : (chip : State) → TurnGoesOn chip (processor_turn chip)
unfolding processor_turn
processor_turn-GoesOn chip =
    let busy : Turn = without_step (record chip { busy = chip.busy - 1 }) in
    let halting : Turn = without_step (record chip { halted = true; pending = false }) in
    let free : Turn = free_turn (accepted_by chip) chip in
    let still : Turn = if chip.halted || chip.dead then without_step chip else free in
    either_holds (TurnGoesOn chip) (nat_lt 0 chip.busy) busy (if is_halting chip then halting else still)
    (rests-GoesOn chip (chip.busy - 1) chip.halted chip.pending chip.second_tick)
    (either_holds (TurnGoesOn chip) (is_halting chip) halting still
    (rests-GoesOn chip chip.busy true false chip.second_tick)
    (either_holds (TurnGoesOn chip) (chip.halted || chip.dead) (without_step chip) free (GoesOn-same chip)
    (free_turn-GoesOn (accepted_by chip) chip)))

-- ---- a transfer

pub with_dma-GoesOn : (change : Dma → Dma) (chip : State) → GoesOn chip (with_dma change chip)
with_dma-GoesOn change chip =
    let changed : Units = record (chip.bus.units) { dma = change (chip.bus.units).dma } in
    bus-GoesOn chip _ (units-KeepsFacts chip.bus changed refl refl) (λ quiet. quiet)

moved-GoesOn : (move : Option Move) (chip : State) → TurnGoesOn chip (moved move chip)
moved-GoesOn (Some move) chip =
    let ran = run by.Dma (transfer move) (begun chip.bus) in
    record {
      powered = refl;
      boot = refl;
      keep = refl;
      bus =
          KeepsFacts-then chip.bus ran.part _ (step-KeepsFacts by.Dma (transfer move) chip.bus)
          (step_ended-KeepsFacts ran.part);
      quiet = λ quiet. step_ended-quiet ran.part;
      registers = λ are. are;
    }
moved-GoesOn None chip = GoesOn-same chip

transfer_turn-GoesOn : (channel : ℕ) (chip : State) → TurnGoesOn chip (transfer_turn channel chip)
unfolding transfer_turn
transfer_turn-GoesOn channel chip =
    let counted = with_dma (transferred channel) chip in
    GoesOn-then chip counted _ (with_dma-GoesOn (transferred channel) chip)
    (moved-GoesOn (move_at channel ((chip.bus.units).dma).channels) counted)

-- ---- whoever owns the bus

pub owned-GoesOn :
    (second : Bool) (channel : Option ℕ) (chip : State) → TurnGoesOn chip (owned (owner_by None second channel) chip)
unfolding owned
owned-GoesOn true channel chip = rests-GoesOn chip chip.busy chip.halted chip.pending false
owned-GoesOn false (Some channel) chip = transfer_turn-GoesOn channel chip
owned-GoesOn false None chip =
    let rested = with_dma passed chip in
    GoesOn-then chip rested _ (with_dma-GoesOn passed chip) (processor_turn-GoesOn rested)
