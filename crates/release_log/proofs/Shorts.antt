-- A tick whose power is cut leaves the first of its writes.
use Rattle.std.proofs.Common.{◌≡◌, ◌≢◌, ◌<◌, ◌+◌, ◌-◌, ◌++◌, ◌||◌, ◌&&◌, not, nat_lt, ℕ, List, [], ◌∷◌, Bool, true, false, length, slice_index, zero, suc, take, arith, refl, ap, sym, ◌∙◌, subst, if◌then◌else◌, length-append}
use Rattle.std.specs.Prelude.{Option, Some, None}
use Rattle.std.proofs.lemmas.Bool.Decides.{nat_tests}
use Rattle.std.proofs.lemmas.List.{length-map}
use Rattle.std.proofs.lemmas.List.Sums.{fold-append}
use Rattle.chip_words.specs.declared.accesses.Agent.{Agent}
use Rattle.chip_words.specs.declared.accesses.Agent.TheVariants as agent
use Rattle.chip_words.specs.declared.segments.Segment.{Segment}
use Rattle.chip_words.specs.declared.segments.Segment.TheVariants.{One, Two, Three, Info, Sealed}
use Rattle.chip_words.specs.Access.{is_over, next_number}
use Rattle.chip_words.specs.Bits.{has_bit}
use Rattle.chip_words.specs.BusPart.{BusPart}
use Rattle.chip_words.specs.Map.{is_fram, is_sram, region_at}
use Rattle.chip_words.specs.Memory.{memory_size}
use Rattle.chip_words.specs.Registers.{PC}
use Rattle.chip_words.specs.Script.{Script, run}
use Rattle.chip_words.specs.Segments.{flag_of}
use Rattle.chip_words.specs.Steps.{begun, ended_at, ended_with, step_ended, violation_ended}
use Rattle.access_laws.proofs.Courses.{chosen, unchosen}
use Rattle.bus_fabric.specs.Fabric.{part_entered}
use Rattle.bus_fabric.specs.Memory.{sram_filled}
use Rattle.bus_fabric.proofs.MemoryBy.{slice_index-memory_by}
use Rattle.power_schedule.specs.declared.powers.Power.TheVariants.{Cut}
use Rattle.stimulus.specs.declared.events.Event.{Event}
use Rattle.stimulus.specs.declared.events.EventAct.{EventAct}
use Rattle.stimulus.specs.declared.events.EventAct.TheVariants.{Pin, Debug as DebugEvent}
use Rattle.stimulus.specs.Events.{on_tick}
use Rattle.stimulus.specs.Stimulus.{Stimulus}
use Rattle.debug_port.specs.declared.answers.Answer.{Answer}
use Rattle.debug_port.specs.declared.answers.Answer.TheVariants.{Accepted, Booting, Closed, Running}
use Rattle.debug_port.specs.declared.commands.Command.{Command}
use Rattle.debug_port.specs.declared.commands.Command.TheVariants.{Read, Write, Dump, Reg, SetReg, Halt, Go, Reset, Erase}
use Rattle.debug_port.specs.declared.states.Debug.{Debug}
use Rattle.debug_port.specs.declared.states.DebugView.{DebugView}
use Rattle.debug_port.specs.Commands.{Commanded, bytes_from, carried_out, commanded, needs_halt, refusal_of, unless_refused}
use Rattle.debug_port.specs.States.{halt_asked}
use Rattle.dma_unit.specs.declared.transfers.Move.{Move}
use Rattle.dma_unit.specs.Moves.{transfer}
use Rattle.dma_unit.specs.Transfers.{move_at, transferred}
use Rattle.boot_code.specs.declared.boots.Act.{Act}
use Rattle.boot_code.specs.declared.boots.Act.TheVariants as act
use Rattle.boot_code.specs.declared.boots.BootStep.{BootStep}
use Rattle.boot_code.specs.declared.boots.BootStep.TheVariants.{Going, Done}
use Rattle.boot_code.specs.declared.boots.Keep.{Keep}
use Rattle.boot_code.specs.Boot.{ERASING, boot_step}
use Rattle.boot_code.specs.Place.{Place}
use Rattle.cpux_extended.specs.Instruction.{instruction}
use Rattle.step_laws.specs.Status.{Ends}
use Rattle.step_laws.proofs.Shapes.{either_holds}
use Rattle.chip_core.specs.declared.owners.Owner.{Owner}
use Rattle.chip_core.specs.declared.owners.Owner.TheVariants.{Nobody, Boot, SecondTick, Transfer, Processor}
use Rattle.chip_core.specs.Boot.{acted, after_boot_step, boot_run, ended_unless_cut, is_next_over, with_keep, with_mark}
use Rattle.chip_core.specs.Debugger.{accessed, after_command, answer_to, debug_of, marked_by, ran, reset_by, view_of}
use Rattle.chip_core.specs.Entry.{entry}
use Rattle.chip_core.specs.State.{State}
use Rattle.chip_core.specs.Tick.{after_event, after_events, begun_by, clocked, cut, owner_in, power_of, powered, stages, stimulated, ticked, timed}
use Rattle.chip_core.specs.Turns.{Turn, accepted_by, asked, boot_turn, entered, free_turn, instructed, is_halting, is_off, moved, owned, processor_turn, rested_by, reserved_cause, transfer_turn, turn_of, with_dma, without_step}
use Rattle.release_log.specs.Puts.{CutHoldsFirst, HoldsWithoutPower, IsCutShort, OfBus, OfMark, OfPointer, Stored, TickWrite, act_writes, after_stages, asked_writes, behind_write, behind_writes, boot_writes, command_script, command_writes, erase_writes, event_writes, events_writes, instruction_writes, move_writes, of_bus, owner_writes, processor_writes, stages_writes, step_writes, stimulus_writes, stored_behind, stored_in, supplied_writes, tick_writes, transfer_writes, turn_writes}
use Rattle.release_log.specs.Writes.{END_OF_COUNT, StepWrite, with_write, with_writes, writes_of}
use Rattle.release_log.proofs.Firsts.{next-left, over-absent, over-present, run-HoldsFirst, take-append}
use Rattle.release_log.proofs.Locked.{step_ended-LeavesStored}
use Rattle.release_log.proofs.Kept.{ticked-by, ticked_by}
use Rattle.release_log.proofs.Registers.{Ends-behind}
use Rattle.release_log.proofs.Running.{run-Ends}
use Rattle.release_log.proofs.Steady.{run-KeepsFacts, step_ended-KeepsFacts}

-- ---- lists of writes

abbrev storing : List ℕ → Keep → Stored
storing memory keep = record { memory = memory; keep = keep }

first_of_none : (stored : Stored) (n : ℕ) → behind_writes stored (take n []) ≡ stored
first_of_none stored zero = refl
first_of_none stored (suc n) = refl

behind-of_bus :
    (memory : List ℕ) (keep : Keep) (n : ℕ) (writes : List StepWrite) →
    behind_writes (storing memory keep) (take n (of_bus writes)) ≡ storing (with_writes memory (take n writes)) keep
behind-of_bus memory keep zero writes = refl
behind-of_bus memory keep (suc n) [] = refl
behind-of_bus memory keep (suc n) (write ∷ writes) = behind-of_bus (with_write memory write) keep n writes

-- ---- parts of a tick

-- power is cut in the tick
record IsCut (count : ℕ) (part : BusPart) : Type 0 where
  pub budget : part.budget ≡ Some count
  pub below : count < END_OF_COUNT

-- memory, and what a cut goes by, are the same
record AreSame (one other : BusPart) : Type 0 where
  pub memory : other.memory ≡ one.memory
  pub fill : other.fill ≡ one.fill
  pub budget : other.budget ≡ one.budget
  pub writes : other.writes ≡ one.writes

AreSame-same : (part : BusPart) → AreSame part part
AreSame-same part = record { memory = refl; fill = refl; budget = refl; writes = refl }

begun-AreSame : (part : BusPart) → AreSame part (begun part)
begun-AreSame part = record { memory = refl; fill = refl; budget = refl; writes = refl }

AreSame-then : (a b c : BusPart) → AreSame a b → AreSame b c → AreSame a c
AreSame-then a b c first second = record {
  memory = second.memory ∙ first.memory;
  fill = second.fill ∙ first.fill;
  budget = second.budget ∙ first.budget;
  writes = second.writes ∙ first.writes;
}

-- a part of a tick leaves the first of its writes, as many as the budget left, and no other
record LeavesFirst (writes : List TickWrite) (count : ℕ) (before after : State) : Type 0 where
  pub stored : stored_in after ≡ behind_writes (stored_in before) (take (count - before.bus.writes) writes)
  pub left : count - after.bus.writes ≡ count - before.bus.writes - length writes
  pub fill : after.bus.fill ≡ before.bus.fill
  pub budget : after.bus.budget ≡ before.bus.budget

LeavesFirst-none :
    (count : ℕ) (before after : State) → AreSame before.bus after.bus → after.keep ≡ before.keep →
    LeavesFirst [] count before after
LeavesFirst-none count before after same keep = record {
  stored =
      ap (λ memory. storing memory after.keep) same.memory
      ∙ ap (storing before.bus.memory) keep
      ∙ sym (first_of_none (stored_in before) (count - before.bus.writes));
  left = omega (arith, same.writes);
  fill = same.fill;
  budget = same.budget;
}

LeavesFirst-then :
    (one other : List TickWrite) (count : ℕ) (a b c : State) → LeavesFirst one count a b →
    LeavesFirst other count b c → LeavesFirst (one ++ other) count a c
LeavesFirst-then one other count a b c first second =
    let n = count - a.bus.writes in
    record {
      stored =
          second.stored
          ∙ ap (λ left. behind_writes (stored_in b) (take left other)) first.left
          ∙ ap (λ stored. behind_writes stored (take (n - length one) other)) first.stored
          ∙ sym (fold-append behind_write (stored_in a) (take n one) (take (n - length one) other))
          ∙ sym (ap (behind_writes (stored_in a)) (take-append n one other));
      left =
          let both : length (one ++ other) ≡ length one + length other = length-append one other in
          omega (arith, first.left, second.left);
      fill = second.fill ∙ first.fill;
      budget = second.budget ∙ first.budget;
    }

stays-IsCut :
    (writes : List TickWrite) (count : ℕ) (before after : State) → IsCut count before.bus →
    LeavesFirst writes count before after → IsCut count after.bus
stays-IsCut writes count before after is leaves =
    record { budget = leaves.budget ∙ is.budget; below = is.below }

-- a script, from a part that is the chip's to one that will be
script-LeavesFirst :
    {A : Type 0} (who : Agent) (step : Script A) (count : ℕ) (start : BusPart) (before after : State) →
    IsCut count before.bus → AreSame before.bus start → AreSame (run who step start).part after.bus →
    after.keep ≡ before.keep → LeavesFirst (of_bus (writes_of who step start)) count before after
script-LeavesFirst who step count start before after is first last keep =
    let writes = writes_of who step start in
    let n = count - before.bus.writes in
    let holds = run-HoldsFirst who step count start (first.budget ∙ is.budget) is.below in
    let keeps = run-KeepsFacts who step start in
    record {
      stored =
          ap (λ memory. storing memory after.keep)
          (last.memory
          ∙ holds.memory
          ∙ ap (λ number. with_writes start.memory (take (count - number) writes)) first.writes
          ∙ ap (λ memory. with_writes memory (take n writes)) first.memory)
          ∙ ap (storing (with_writes before.bus.memory (take n writes))) keep
          ∙ sym (behind-of_bus before.bus.memory before.keep n writes);
      left =
          let same : length (of_bus writes) ≡ length writes = length-map writes OfBus in
          omega (arith, holds.left, last.writes, first.writes);
      fill = last.fill ∙ keeps.fill ∙ first.fill;
      budget = last.budget ∙ keeps.budget ∙ first.budget;
    }

-- a write of mark or pointer
keep-LeavesFirst :
    (keep : Keep) (write : TickWrite) (count : ℕ) (chip : State) → IsCut count chip.bus →
    behind_write (stored_in chip) write ≡ storing chip.bus.memory keep →
    LeavesFirst (write ∷ []) count chip (with_keep keep chip)
keep-LeavesFirst keep write count chip is writes = record {
  stored = by_left (count - chip.bus.writes) refl;
  left = next-left count chip.bus.writes is.below;
  fill = refl;
  budget = refl;
}
  where
    over : (test : Bool) → is_over (Some count) (next_number chip.bus.writes) ≡ test → is_next_over chip.bus ≡ test
    over test e = ap (λ (budget : Option ℕ). is_over budget (next_number chip.bus.writes)) is.budget ∙ e

    first_of : ℕ → Stored
    first_of n = behind_writes (stored_in chip) (take n (write ∷ []))

    by_left : (n : ℕ) → count - chip.bus.writes ≡ n → stored_in (with_keep keep chip) ≡ first_of (count - chip.bus.writes)
    by_left zero e =
        ap (storing chip.bus.memory)
        (chosen (is_next_over chip.bus) chip.keep keep (over true (over-absent count chip.bus.writes is.below e)))
        ∙ sym (ap first_of e)
    by_left (suc n) e =
        ap (storing chip.bus.memory)
        (unchosen (is_next_over chip.bus) chip.keep keep
        (over false (over-present count chip.bus.writes n is.below e)))
        ∙ sym writes
        ∙ sym (first_of_none (behind_write (stored_in chip) write) n)
        ∙ sym (ap first_of e)

-- ---- the end of a step

ended_at-writes : (noted : ℕ) (place : Segment) (part : BusPart) → (ended_at noted place part).writes ≡ part.writes
ended_at-writes noted place part =
    either_holds (λ (after : BusPart). after.writes ≡ part.writes) (has_bit noted (flag_of place))
    (violation_ended place part) part refl refl

step_ended-AreSame : (part : BusPart) → AreSame part (step_ended part)
unfolding ended_with
step_ended-AreSame part =
    let start : BusPart = record part { noted = 0 } in
    let a : BusPart = ended_at part.noted Sealed start in
    let b : BusPart = ended_at part.noted Info a in
    let c : BusPart = ended_at part.noted One b in
    let d : BusPart = ended_at part.noted Two c in
    let keeps = step_ended-KeepsFacts part in
    record {
      memory = (step_ended-LeavesStored part).memory;
      fill = keeps.fill;
      budget = keeps.budget;
      writes =
          ended_at-writes part.noted Three d ∙ ended_at-writes part.noted Two c ∙ ended_at-writes part.noted One b
          ∙ ended_at-writes part.noted Info a
          ∙ ended_at-writes part.noted Sealed start;
    }

-- ---- the debugger

-- a refusal isn't taken for an erase
refused-writes : (command : Command) (answer : Answer) → answer ≢ Accepted → erase_writes command answer ≡ []
refused-writes Erase Accepted refused = absurd (refused refl)
refused-writes command answer refused = refl

abbrev IsRefusal : Option Answer → Type 0
IsRefusal (Some answer) = answer ≢ Accepted
IsRefusal None = Unit {0}

refusal_of-IsRefusal : (command : Command) (view : DebugView) (debug : Debug) → IsRefusal (refusal_of command view debug)
refusal_of-IsRefusal command view debug =
    either_holds IsRefusal (not view.up) (Some Booting) _ (λ e. cc)
    (either_holds IsRefusal view.closed (Some Closed) _ (λ e. cc)
    (either_holds IsRefusal (needs_halt command && not debug.halted) (Some Running) None (λ e. cc) tt))

-- what a command leaves of the debugger's state asks for a mark where it writes one
abbrev asked_mark : Bool → List TickWrite
asked_mark erase = if erase then OfMark ERASING ∷ [] else []

abbrev TellsErase : Command → Commanded → Type 0
TellsErase command commanded = erase_writes command commanded.answer ≡ asked_mark commanded.debug.erase

halt-TellsErase : (debug : Debug) → debug.erase ≡ false → (halt_asked debug).erase ≡ false
halt-TellsErase debug none =
    either_holds (λ (after : Debug). after.erase ≡ false) debug.halted debug (record debug { pending = true }) none none

asked_none : (erase : Bool) → erase ≡ false → [] ≡ asked_mark erase
asked_none true none = cc
asked_none false none = refl

carried_out-TellsErase :
    (command : Command) (debug : Debug) (registers : List ℕ) → debug.erase ≡ false →
    Ends (TellsErase command) (carried_out command debug registers)
carried_out-TellsErase (Read at) debug registers none = λ word. asked_none debug.erase none
carried_out-TellsErase (Write at value) debug registers none = λ written. asked_none debug.erase none
carried_out-TellsErase (Dump at count) debug registers none =
    Ends-behind (TellsErase (Dump at count)) (bytes_from count at) _ (λ bytes. asked_none debug.erase none)
carried_out-TellsErase (Reg n) debug registers none = asked_none debug.erase none
carried_out-TellsErase (SetReg n value) debug registers none = asked_none debug.erase none
carried_out-TellsErase Halt debug registers none =
    asked_none (halt_asked debug).erase (halt-TellsErase debug none)
carried_out-TellsErase Go debug registers none = asked_none debug.erase none
carried_out-TellsErase Reset debug registers none = asked_none debug.erase none
carried_out-TellsErase Erase debug registers none = refl

commanded-TellsErase :
    (command : Command) (view : DebugView) (debug : Debug) (registers : List ℕ) → debug.erase ≡ false →
    Ends (TellsErase command) (commanded command view debug registers)
unfolding commanded
commanded-TellsErase command view debug registers none =
    by_refusal (refusal_of command view debug) (refusal_of-IsRefusal command view debug)
  where
    by_refusal :
        (refusal : Option Answer) → IsRefusal refusal →
        Ends (TellsErase command) (unless_refused refusal command debug registers)
    by_refusal (Some answer) refused = refused-writes command answer refused ∙ asked_none debug.erase none
    by_refusal None refused = carried_out-TellsErase command debug registers none

marked-LeavesFirst :
    (erase : Bool) (count : ℕ) (chip : State) → IsCut count chip.bus →
    LeavesFirst (asked_mark erase) count chip (if erase then with_mark ERASING chip else chip)
marked-LeavesFirst true count chip is =
    keep-LeavesFirst (record (chip.keep) { mark = ERASING }) (OfMark ERASING) count chip is refl
marked-LeavesFirst false count chip is = LeavesFirst-none count chip chip (AreSame-same chip.bus) refl

command-LeavesFirst :
    (command : Command) (count : ℕ) (chip : State) → IsCut count chip.bus →
    LeavesFirst (command_writes command chip) count chip (after_command command chip)
unfolding after_command ran
command-LeavesFirst command count chip is =
    let script = command_script command chip in
    let debug = ((ran command chip).value).debug in
    let accessing = of_bus (writes_of agent.Debug script chip.bus) in
    let middle : State = reset_by debug (accessed (ran command chip) chip) in
    let first : LeavesFirst accessing count chip middle =
    script-LeavesFirst agent.Debug script count chip.bus chip middle is (AreSame-same chip.bus)
    (record { memory = refl; fill = refl; budget = refl; writes = refl }) refl in
    let tells : TellsErase command (ran command chip).value =
    run-Ends (TellsErase command) agent.Debug script chip.bus
    (commanded-TellsErase command (view_of chip) (debug_of chip) chip.registers refl) in
    let second = marked-LeavesFirst debug.erase count middle (stays-IsCut accessing count chip middle is first) in
    LeavesFirst-then accessing (erase_writes command (answer_to command chip)) count chip middle _ first
    (subst (λ writes. LeavesFirst writes count middle (marked_by debug middle)) (sym tells) second)

-- ---- the stimulus

event-LeavesFirst :
    (event : EventAct) (count : ℕ) (chip : State) → IsCut count chip.bus →
    LeavesFirst (event_writes event chip) count chip (after_event event chip)
event-LeavesFirst (Pin port bit level) count chip is =
    LeavesFirst-none count chip _ (record { memory = refl; fill = refl; budget = refl; writes = refl }) refl
event-LeavesFirst (DebugEvent command) count chip is = command-LeavesFirst command count chip is

events-LeavesFirst :
    (events : List Event) (count : ℕ) (chip : State) → IsCut count chip.bus →
    LeavesFirst (events_writes events chip) count chip (after_events events chip)
events-LeavesFirst [] count chip is = LeavesFirst-none count chip chip (AreSame-same chip.bus) refl
events-LeavesFirst (event ∷ events) count chip is =
    let next = after_event event.act chip in
    let first = event-LeavesFirst event.act count chip is in
    LeavesFirst-then (event_writes event.act chip) (events_writes events next) count chip next _ first
    (events-LeavesFirst events count next (stays-IsCut (event_writes event.act chip) count chip next is first))

-- ---- the boot

act-LeavesFirst :
    (request : Act) (count : ℕ) (chip : State) → IsCut count chip.bus →
    LeavesFirst (act_writes request) count chip (acted request chip)
act-LeavesFirst (act.Mark mark) count chip is =
    keep-LeavesFirst (record (chip.keep) { mark = mark }) (OfMark mark) count chip is refl
act-LeavesFirst (act.Ptr ptr) count chip is =
    keep-LeavesFirst (record (chip.keep) { ptr = ptr }) (OfPointer ptr) count chip is refl
act-LeavesFirst request count chip is = LeavesFirst-none count chip chip (AreSame-same chip.bus) refl

boot_step-LeavesFirst :
    (step : BootStep) (count : ℕ) (chip : State) → IsCut count chip.bus →
    LeavesFirst (asked_writes step) count chip (after_boot_step step chip)
boot_step-LeavesFirst (Going request) count chip is = act-LeavesFirst request count chip is
boot_step-LeavesFirst (Done borders) count chip is =
    subst (λ budget. LeavesFirst [] count chip (ended_unless_cut budget borders chip)) (sym is.budget)
    (LeavesFirst-none count chip chip (AreSame-same chip.bus) refl)

boot-LeavesFirst :
    (place : Place) (count : ℕ) (chip : State) → IsCut count chip.bus →
    LeavesFirst (boot_writes place chip) count chip (boot_turn place chip)
unfolding boot_turn boot_run
boot-LeavesFirst place count chip is =
    let script = boot_step place chip.keep in
    let accessing = of_bus (writes_of agent.Boot script (begun chip.bus)) in
    let ran = boot_run place chip in
    let middle : State = record chip { bus = ran.part; boot = Some (ran.value).place } in
    let first : LeavesFirst accessing count chip middle =
    script-LeavesFirst agent.Boot script count (begun chip.bus) chip middle is (begun-AreSame chip.bus)
    (AreSame-same ran.part) refl in
    LeavesFirst-then accessing (asked_writes (ran.value).step) count chip middle _ first
    (boot_step-LeavesFirst (ran.value).step count middle (stays-IsCut accessing count chip middle is first))

-- ---- DMA and the processor

-- a step that ends, behind which what the cut goes by stays the same
ended-LeavesFirst :
    {A : Type 0} (who : Agent) (step : Script A) (last : BusPart) (count : ℕ) (before after : State) →
    IsCut count before.bus → AreSame (run who step (begun before.bus)).part last → after.bus ≡ step_ended last →
    after.keep ≡ before.keep → LeavesFirst (of_bus (writes_of who step (begun before.bus))) count before after
ended-LeavesFirst who step last count before after is same ends keep =
    let ran = (run who step (begun before.bus)).part in
    script-LeavesFirst who step count (begun before.bus) before after is (begun-AreSame before.bus)
    (subst (AreSame ran) (sym ends) (AreSame-then ran last (step_ended last) same (step_ended-AreSame last))) keep

abbrev TurnLeaves : ℕ → State → List StepWrite → Turn → Type 0
TurnLeaves count chip writes turn = LeavesFirst (of_bus writes) count chip turn.chip

unwritten-TurnLeaves :
    (count : ℕ) (chip : State) (turn : Turn) → AreSame chip.bus turn.chip.bus → turn.chip.keep ≡ chip.keep →
    TurnLeaves count chip [] turn
unwritten-TurnLeaves count chip turn same keep = LeavesFirst-none count chip turn.chip same keep

pub both_hold :
    {A B : Type 0} (Holds : A → B → Type 0) (test : Bool) (a b : A) (c d : B) → Holds a c → Holds b d →
    Holds (if test then a else b) (if test then c else d)
both_hold Holds true a b c d one other = one
both_hold Holds false a b c d one other = other

moved-LeavesFirst :
    (move : Option Move) (count : ℕ) (chip : State) → IsCut count chip.bus →
    TurnLeaves count chip (move_writes move chip) (moved move chip)
moved-LeavesFirst (Some move) count chip is =
    ended-LeavesFirst agent.Dma (transfer move) (run agent.Dma (transfer move) (begun chip.bus)).part count chip
    (moved (Some move) chip).chip is (AreSame-same _) refl refl
moved-LeavesFirst None count chip is =
    unwritten-TurnLeaves count chip (without_step chip) (AreSame-same chip.bus) refl

instruction-LeavesFirst :
    (count : ℕ) (chip : State) → IsCut count chip.bus →
    TurnLeaves count chip (instruction_writes chip) (instructed chip)
unfolding instructed
instruction-LeavesFirst count chip is =
    let who = agent.Cpu (slice_index chip.registers PC) in
    let ran = run who (instruction chip.registers) (begun chip.bus) in
    ended-LeavesFirst who (instruction chip.registers) (asked (reserved_cause (ran.value).outcome) ran.part) count chip
    (instructed chip).chip is (record { memory = refl; fill = refl; budget = refl; writes = refl }) refl refl

entry-LeavesFirst :
    (vector count : ℕ) (chip : State) → IsCut count chip.bus →
    TurnLeaves count chip (step_writes (Some vector) chip) (entered vector chip)
unfolding entered
entry-LeavesFirst vector count chip is =
    let ran = run agent.Entry (entry vector chip.registers) (begun chip.bus) in
    ended-LeavesFirst agent.Entry (entry vector chip.registers) (part_entered vector ran.part) count chip
    (entered vector chip).chip is (record { memory = refl; fill = refl; budget = refl; writes = refl }) refl refl

free-LeavesFirst :
    (accepted : Option ℕ) (count : ℕ) (chip : State) → IsCut count chip.bus →
    TurnLeaves count chip (step_writes accepted chip) (free_turn accepted chip)
free-LeavesFirst (Some vector) count chip is = entry-LeavesFirst vector count chip is
free-LeavesFirst None count chip is =
    both_hold (TurnLeaves count chip) (is_off chip) [] (instruction_writes chip) (without_step chip) (instructed chip)
    (unwritten-TurnLeaves count chip (without_step chip) (AreSame-same chip.bus) refl)
    (instruction-LeavesFirst count chip is)

-- the tests of the processor's turn, of which the first that passes decides
pub by_tests :
    {A B : Type 0} (Holds : A → B → Type 0) (busy halting halted dead : Bool) (none free : A) (a b c d : B) →
    Holds none a → Holds none b → Holds none c → Holds free d →
    Holds (if busy || halting || halted || dead then none else free)
    (if busy then a else if halting then b else if halted || dead then c else d)
by_tests Holds true halting halted dead none free a b c d first second third last = first
by_tests Holds false true halted dead none free a b c d first second third last = second
by_tests Holds false false true dead none free a b c d first second third last = third
by_tests Holds false false false true none free a b c d first second third last = third
by_tests Holds false false false false none free a b c d first second third last = last

processor-LeavesFirst :
    (count : ℕ) (chip : State) → IsCut count chip.bus →
    TurnLeaves count chip (processor_writes chip) (processor_turn chip)
unfolding processor_turn
processor-LeavesFirst count chip is =
    let same : AreSame chip.bus chip.bus = AreSame-same chip.bus in
    by_tests (TurnLeaves count chip) (nat_lt 0 chip.busy) (is_halting chip) chip.halted chip.dead [] _ _ _ _ _
    (LeavesFirst-none count chip _ same refl)
    (LeavesFirst-none count chip _ same refl)
    (LeavesFirst-none count chip _ same refl)
    (free-LeavesFirst (accepted_by chip) count chip is)

-- ---- the stages

-- a part that writes nothing comes first
behind-LeavesFirst :
    (writes : List TickWrite) (count : ℕ) (before next after : State) → AreSame before.bus next.bus →
    next.keep ≡ before.keep → (IsCut count next.bus → LeavesFirst writes count next after) → IsCut count before.bus →
    LeavesFirst writes count before after
behind-LeavesFirst writes count before next after same keep rest is =
    LeavesFirst-then [] writes count before next after (LeavesFirst-none count before next same keep)
    (rest (record { budget = same.budget ∙ is.budget; below = is.below }))

transfer-LeavesFirst :
    (channel count : ℕ) (chip : State) → IsCut count chip.bus →
    TurnLeaves count chip (transfer_writes channel chip) (transfer_turn channel chip)
unfolding transfer_turn
transfer-LeavesFirst channel count chip is =
    behind-LeavesFirst _ count chip (with_dma (transferred channel) chip) _
    (record { memory = refl; fill = refl; budget = refl; writes = refl }) refl
    (moved-LeavesFirst (move_at channel chip.bus.units.dma.channels) count (with_dma (transferred channel) chip)) is

turn-LeavesFirst :
    (owner : Owner) (count : ℕ) (chip : State) → IsCut count chip.bus →
    LeavesFirst (turn_writes owner chip) count chip (turn_of owner chip).chip
turn-LeavesFirst Nobody count chip is = LeavesFirst-none count chip chip (AreSame-same chip.bus) refl
turn-LeavesFirst (Boot place) count chip is = boot-LeavesFirst place count chip is
turn-LeavesFirst SecondTick count chip is = LeavesFirst-none count chip _ (AreSame-same chip.bus) refl
turn-LeavesFirst (Transfer channel) count chip is = transfer-LeavesFirst channel count chip is
turn-LeavesFirst Processor count chip is = processor-LeavesFirst count chip is

rested-AreSame : (owner : Owner) (chip : State) → AreSame chip.bus (rested_by owner chip).bus
rested-AreSame Nobody chip = AreSame-same chip.bus
rested-AreSame SecondTick chip = AreSame-same chip.bus
rested-AreSame (Transfer channel) chip = AreSame-same chip.bus
rested-AreSame owner chip = record { memory = refl; fill = refl; budget = refl; writes = refl }

rested-keep : (owner : Owner) (chip : State) → (rested_by owner chip).keep ≡ chip.keep
rested-keep Nobody chip = refl
rested-keep SecondTick chip = refl
rested-keep (Transfer channel) chip = refl
rested-keep owner chip = refl

owned-LeavesFirst :
    (owner : Owner) (count : ℕ) (chip : State) → IsCut count chip.bus →
    LeavesFirst (owner_writes owner chip) count chip (owned owner chip).chip
unfolding owned
owned-LeavesFirst owner count chip is =
    behind-LeavesFirst (owner_writes owner chip) count chip (rested_by owner chip) _ (rested-AreSame owner chip)
    (rested-keep owner chip) (turn-LeavesFirst owner count (rested_by owner chip)) is

clocked-AreSame : (place : Option Place) (chip : State) → AreSame chip.bus (clocked place chip).bus
clocked-AreSame (Some place) chip = AreSame-same chip.bus
clocked-AreSame None chip = record { memory = refl; fill = refl; budget = refl; writes = refl }

clocked-keep : (place : Option Place) (chip : State) → (clocked place chip).keep ≡ chip.keep
clocked-keep (Some place) chip = refl
clocked-keep None chip = refl

-- the chip behind the turn of the bus's owner
abbrev turned : ℕ → State → State
turned count chip = (stages (Cut count) chip).turn.chip

stages-LeavesFirst :
    (count : ℕ) (chip : State) → IsCut count chip.bus →
    LeavesFirst (stages_writes (Cut count) chip) count chip (turned count chip)
unfolding stages timed
stages-LeavesFirst count chip is =
    let ready = timed (Cut count) chip in
    behind-LeavesFirst (stages_writes (Cut count) chip) count chip ready _ (clocked-AreSame chip.boot chip)
    (clocked-keep chip.boot chip) (owned-LeavesFirst (owner_in (Cut count) ready) count ready) is

tick-LeavesFirst :
    (bench : Stimulus) (count : ℕ) (chip : State) → IsCut count chip.bus →
    LeavesFirst (supplied_writes (Cut count) bench chip) count chip (turned count (stimulated bench chip))
unfolding stimulated
tick-LeavesFirst bench count chip is =
    let next = stimulated bench chip in
    let first = events-LeavesFirst (on_tick chip.tick bench.events) count chip is in
    LeavesFirst-then (stimulus_writes bench chip) (stages_writes (Cut count) next) count chip next _ first
    (stages-LeavesFirst count next (stays-IsCut (stimulus_writes bench chip) count chip next is first))

-- ---- power, and the cut

-- a tick that will be cut begins with no write counted
record Begins (count : ℕ) (before after : State) : Type 0 where
  pub stored : stored_in after ≡ stored_in before
  pub fill : after.bus.fill ≡ before.bus.fill
  pub budget : after.bus.budget ≡ Some count
  pub writes : after.bus.writes ≡ 0

powered-Begins : (count : ℕ) (chip : State) → Begins count chip (powered (Cut count) chip)
unfolding powered
powered-Begins count chip =
    either_holds (Begins count chip) chip.powered (begun_by (Cut count) chip) _
    (record { stored = refl; fill = refl; budget = refl; writes = refl })
    (record { stored = refl; fill = refl; budget = refl; writes = refl })

pub fram_within : (at : ℕ) → is_fram at ≡ true → at < memory_size
unfolding is_fram region_at memory_size
fram_within at fram = grind (arith, nat_tests)

sram_within : (at : ℕ) → is_sram at ≡ true → at < memory_size
unfolding is_sram region_at memory_size
sram_within at sram = grind (arith, nat_tests)

pub fram-not_sram : (at : ℕ) → is_fram at ≡ true → is_sram at ≡ false
unfolding is_fram is_sram region_at
fram-not_sram at fram = grind (arith, nat_tests)

pub filled-fram :
    (fill : ℕ) (memory : List ℕ) (at : ℕ) → is_fram at ≡ true →
    slice_index (sram_filled fill memory) at ≡ slice_index memory at
filled-fram fill memory at fram =
    slice_index-memory_by _ at (fram_within at fram)
    ∙ unchosen (is_sram at) fill (slice_index memory at) (fram-not_sram at fram)

filled-sram :
    (fill : ℕ) (memory : List ℕ) (at : ℕ) → is_sram at ≡ true → slice_index (sram_filled fill memory) at ≡ fill
filled-sram fill memory at sram =
    slice_index-memory_by _ at (sram_within at sram) ∙ chosen (is_sram at) fill (slice_index memory at) sram

cut-HoldsWithoutPower :
    (stored : Stored) (fill : ℕ) (chip : State) → stored_in chip ≡ stored → chip.bus.fill ≡ fill →
    HoldsWithoutPower stored fill (cut chip)
unfolding cut
cut-HoldsWithoutPower stored fill chip e same = record {
  fram = λ at fram.
      filled-fram chip.bus.fill chip.bus.memory at fram ∙ ap (λ (s : Stored). slice_index s.memory at) e;
  keep = ap (λ (s : Stored). s.keep) e;
  sram = λ at sram. filled-sram chip.bus.fill chip.bus.memory at sram ∙ same;
}

stages-IsCutShort :
    (bench : Stimulus) (chip : State) (count : ℕ) → count < END_OF_COUNT →
    IsCutShort bench count chip (after_stages (Cut count) bench chip)
unfolding stages
stages-IsCutShort bench chip count below =
    let start = powered (Cut count) chip in
    let begins = powered-Begins count chip in
    let writes = tick_writes (Cut count) bench chip in
    let leaves = tick-LeavesFirst bench count start (record { budget = begins.budget; below = below }) in
    let all : count - start.bus.writes ≡ count = omega (arith, begins.writes) in
    cut-HoldsWithoutPower (stored_behind bench count chip) chip.bus.fill
    (turned count (stimulated bench start))
    (leaves.stored
    ∙ ap (λ n. behind_writes (stored_in start) (take n writes)) all
    ∙ ap (λ stored. behind_writes stored (take count writes)) begins.stored)
    (leaves.fill ∙ begins.fill)

tick-IsCutShort :
    (bench : Stimulus) (chip : State) (count : ℕ) → count < END_OF_COUNT → power_of bench chip ≡ Cut count →
    IsCutShort bench count chip (ticked bench chip)
tick-IsCutShort bench chip count below is =
    let short = stages-IsCutShort bench chip count below in
    subst (IsCutShort bench count chip) (sym (ticked-by bench chip))
    (subst (λ power. IsCutShort bench count chip (ticked_by power bench chip)) (sym is)
    (record { fram = short.fram; keep = short.keep; sram = short.sram }))

pub cut_holds_first : CutHoldsFirst
cut_holds_first = record { stages = stages-IsCutShort; tick = tick-IsCutShort }
