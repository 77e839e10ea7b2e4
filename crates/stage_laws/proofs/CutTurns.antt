-- The processor's turn in private phase, in a tick that is cut.
use Rattle.std.proofs.Common.{◌≡◌, ◌-◌, ◌%◌, ◌++◌, ◌||◌, ℕ, List, [], ◌∷◌, true, false, slice_index, arith, refl, ap, sym, ◌∙◌, subst, if◌then◌else◌}
use Rattle.std.specs.Prelude.{Option, Some, None, IfSome, nat_lt}
use Rattle.chip_words.specs.declared.sizes.Size.TheVariants.{Word}
use Rattle.chip_words.specs.declared.accesses.Access.{Access}
use Rattle.chip_words.specs.declared.accesses.Agent.{Agent}
use Rattle.chip_words.specs.declared.accesses.Agent.TheVariants.{Cpu, Entry}
use Rattle.chip_words.specs.declared.accesses.Kind.TheVariants.{Read, Write}
use Rattle.chip_words.specs.declared.segments.Segment.{Segment}
use Rattle.chip_words.specs.declared.segments.Segment.TheVariants.{One, Two, Three, Info, Sealed}
use Rattle.chip_words.specs.Access.{Accessed, access}
use Rattle.chip_words.specs.Bits.{has_bit}
use Rattle.chip_words.specs.BusPart.{BusPart}
use Rattle.chip_words.specs.Map.{aligned}
use Rattle.chip_words.specs.Ports.{Ports}
use Rattle.chip_words.specs.Public.{IsInside, IsLocked, public_part}
use Rattle.chip_words.specs.Registers.{PC, SP}
use Rattle.chip_words.specs.Script.{Ran, Script, run}
use Rattle.chip_words.specs.Segments.{flag_of}
use Rattle.chip_words.specs.Steps.{begun, ended_at, ended_with, step_ended, violation_ended}
use Rattle.access_laws.specs.Replay.{NO_MEMORY, released, replay}
use Rattle.access_laws.proofs.Courses.{unchosen}
use Rattle.access_laws.proofs.Replaying.{step-replayed}
use Rattle.access_laws.proofs.Staying.{access-list}
use Rattle.bus_fabric.specs.Fabric.{part_entered}
use Rattle.cpux_execute.specs.Execution.{Stepped}
use Rattle.cpux_execute.specs.Operands.{before}
use Rattle.cpux_extended.specs.Instruction.{instruction}
use Rattle.power_schedule.specs.declared.powers.Power.TheVariants.{Cut}
use Rattle.step_laws.proofs.Shapes.{accesses_come_in_order, either_holds}
use Rattle.chip_core.specs.Entry.{below_two, entry, status_on_stack}
use Rattle.chip_core.specs.Items.{start_of}
use Rattle.chip_core.specs.Phase.{is_private}
use Rattle.chip_core.specs.State.{State}
use Rattle.chip_core.specs.Tick.{stages_from}
use Rattle.chip_core.specs.Turns.{Turn, accepted_by, asked, entered, free_turn, instructed, is_halting, is_off, owned, owner_of, processor_turn, reserved_cause, without_step}
use Rattle.stage_laws.specs.Cuts.{CutTurnsAgree, Lasting, lasting}
use Rattle.stage_laws.specs.Seen.{Seen, always_public}
use Rattle.stage_laws.specs.Stages.{IsPrivateTurn, tick_items}
use Rattle.stage_laws.proofs.CutTurning.{AreOrderly, AreReads, EndsInRead, LeavesLasting, both-reads, lasts, lasts-public, leaves-lasts, released-last, released-orderly, replay-reads, run-orderly}
use Rattle.stage_laws.proofs.Leaving.{agent_of, replay-anyone}
use Rattle.stage_laws.proofs.PrivateTurning.{PublicFacts, private-halting, private-inside, private-locked, processor-owned, processor_turn-IsLeft, ready-PublicFacts, released-behind, rested, rested-PublicFacts, rested-private, rested-start, seen-IsPrivateTurn, seen-PublicFacts}
use Rattle.stage_laws.proofs.Telling.{StepFetches, released_of, told-cut_tick, told_by}
use Rattle.stage_laws.proofs.Vectors.{IsVector, accepted-vector, entered-ports, vector-open}

-- ---- the end of a step

violation-leaves : (place : Segment) (part : BusPart) → LeavesLasting part (violation_ended place part)
violation-leaves place part = record { kept = refl; memory = refl; fill = refl; first = refl; second = refl }

ended_at-lasts :
    (chip : State) (noted : ℕ) (place : Segment) (part : BusPart) →
    lasts chip (ended_at noted place part) ≡ lasts chip part
ended_at-lasts chip noted place part =
    either_holds (λ (after : BusPart). lasts chip after ≡ lasts chip part) (has_bit noted (flag_of place))
    (violation_ended place part) part (leaves-lasts chip part _ (violation-leaves place part)) refl

ended-lasts : (chip : State) (part : BusPart) → lasts chip (step_ended part) ≡ lasts chip part
unfolding ended_with
ended-lasts chip part =
    let start : BusPart = record part { noted = 0 } in
    let a : BusPart = ended_at part.noted Sealed start in
    let b : BusPart = ended_at part.noted Info a in
    let c : BusPart = ended_at part.noted One b in
    let d : BusPart = ended_at part.noted Two c in
    ended_at-lasts chip part.noted Three d
    ∙ ended_at-lasts chip part.noted Two c
    ∙ ended_at-lasts chip part.noted One b
    ∙ ended_at-lasts chip part.noted Info a
    ∙ ended_at-lasts chip part.noted Sealed start

entered-lasts : (chip : State) (vector : ℕ) (part : BusPart) → lasts chip (part_entered vector part) ≡ lasts chip part
entered-lasts chip vector part =
    let ports = entered-ports vector part.units in
    leaves-lasts chip part (part_entered vector part) (record {
      kept = refl;
      memory = refl;
      fill = refl;
      first = ap (λ (p : Ports). p.first.levels) ports;
      second = ap (λ (p : Ports). p.second.levels) ports;
    })

-- ---- a turn by its releases

-- its releases
abbrev releases : State → Turn → List Access
releases chip turn = released_of (start_of chip) turn.step turn.chip

-- what outlasts, from what was public
abbrev by_replay : Agent → List Access → State → Lasting
by_replay who list chip = lasts chip (replay who chip.bus list)

-- an instruction, or no step; or an entry
data IsCut (chip : State) (turn : Turn) : Type 0 where
  ByWords :
      lasting turn.chip ≡ by_replay (Cpu NO_MEMORY) (releases chip turn) (always_public chip) →
      AreOrderly 0 (releases chip turn) → IsCut chip turn
  ByEntry :
      lasting turn.chip ≡ by_replay Entry (releases chip turn) (always_public chip) →
      EndsInRead (releases chip turn) → IsCut chip turn

idle-IsCut : (chip : State) (busy : ℕ) → IsCut chip (without_step (record chip { busy = busy }))
idle-IsCut chip busy = ByWords (sym (lasts-public chip chip.bus)) tt

-- what a step from inside the seal leaves
step-lasting :
    {A : Type 0} (chip : State) (vector : Option ℕ) (ia : ℕ) (step : Script A) (behind : BusPart) (list : List Access) →
    IsLocked chip.bus → IsInside (chip.bus.units).encap (agent_of vector ia) →
    lasts chip behind ≡ lasts chip (run (agent_of vector ia) step (begun chip.bus)).part →
    released chip.bus.kept (run (agent_of vector ia) step (begun chip.bus)).part.accesses ≡ list →
    lasts chip (step_ended behind) ≡ by_replay (agent_of vector NO_MEMORY) list (always_public chip)
step-lasting chip vector ia step behind list locked inside same lists =
    let who : Agent = agent_of vector ia in
    let ran : BusPart = (run who step (begun chip.bus)).part in
    let part : BusPart = public_part chip.bus in
    ended-lasts chip behind ∙ same
    ∙ sym (lasts-public chip ran)
    ∙ ap (lasts chip)
    (step-replayed who step (begun chip.bus) (record { settled = locked.settled; locked = locked.locked }) inside refl
    ∙ replay-anyone vector ia part (released chip.bus.kept ran.accesses)
    ∙ ap (replay (agent_of vector NO_MEMORY) part) lists)

instructed-IsCut : (chip : State) → PublicFacts chip → is_private chip ≡ true → IsCut chip (instructed chip)
unfolding instructed
instructed-IsCut chip is private =
    let who : Agent = Cpu (slice_index chip.registers PC) in
    let step : Script Stepped = instruction chip.registers in
    let ran : Ran Stepped = run who step (begun chip.bus) in
    let locked : IsLocked chip.bus = private-locked chip is private in
    let behind : BusPart = asked (reserved_cause (ran.value).outcome) ran.part in
    let lists : released chip.bus.kept ran.part.accesses ≡ releases chip (instructed chip) =
    released-behind chip ran.part behind locked.settled refl in
    let orderly : AreOrderly 0 ran.part.accesses =
    run-orderly who step (begun chip.bus) 0 (accesses_come_in_order chip.registers) tt tt in
    ByWords
    (step-lasting chip None (slice_index chip.registers PC) step behind (releases chip (instructed chip)) locked
    (private-inside chip private) refl lists)
    (subst (AreOrderly 0) lists (released-orderly chip.bus.kept 0 ran.part.accesses orderly))

-- an entry ends in the read of its vector
entry-EndsInRead :
    (vector : ℕ) (registers : List ℕ) (part : BusPart) → IsVector vector →
    EndsInRead (released part.kept (run Entry (entry vector registers) (begun part)).part.accesses)
unfolding entry
entry-EndsInRead vector registers part is =
    let ran : BusPart = (run Entry (entry vector registers) (begun part)).part in
    subst (λ list. EndsInRead (released part.kept list)) (sym list)
    (released-last part.kept pushed.accesses last (vector-open part.kept vector is) refl (omega arith))
  where
    first : Accessed
    first = access Entry Write (before (slice_index registers SP)) Word (slice_index registers PC % 0x10000) (begun part)

    second : Accessed
    second = access Entry Write (below_two registers) Word (status_on_stack registers) first.part

    pushed : BusPart
    pushed = second.part

    last : Access
    last = record {
      kind = Read;
      at = aligned Word vector;
      size = Word;
      value = (access Entry Read vector Word 0 pushed).answer;
      done = true;
    }

    list : (access Entry Read vector Word 0 pushed).part.accesses ≡ pushed.accesses ++ last ∷ []
    list = access-list Entry Read vector Word 0 pushed

entered-IsCut :
    (vector : ℕ) (chip : State) → PublicFacts chip → is_private chip ≡ true → IsVector vector →
    IsCut chip (entered vector chip)
unfolding entered
entered-IsCut vector chip is private high =
    let step : Script (List ℕ) = entry vector chip.registers in
    let ran : Ran (List ℕ) = run Entry step (begun chip.bus) in
    let locked : IsLocked chip.bus = private-locked chip is private in
    let behind : BusPart = part_entered vector ran.part in
    let lists : released chip.bus.kept ran.part.accesses ≡ releases chip (entered vector chip) =
    released-behind chip ran.part behind locked.settled refl in
    ByEntry
    (step-lasting chip (Some vector) 0 step behind (releases chip (entered vector chip)) locked tt
    (entered-lasts chip vector ran.part) lists)
    (subst EndsInRead lists (entry-EndsInRead vector chip.registers chip.bus high))

processor_turn-IsCut : (chip : State) → PublicFacts chip → is_private chip ≡ true → IsCut chip (processor_turn chip)
unfolding processor_turn
processor_turn-IsCut chip is private =
    let busy : Turn = without_step (record chip { busy = chip.busy - 1 }) in
    let halting : Turn = without_step (record chip { halted = true; pending = false }) in
    let free : Turn = free_turn (accepted_by chip) chip in
    let still : Turn = if chip.halted || chip.dead then without_step chip else free in
    let awake : Turn = if is_halting chip then halting else still in
    let goes_on : awake ≡ still = unchosen (is_halting chip) halting still (private-halting chip private) in
    either_holds (IsCut chip) (nat_lt 0 chip.busy) busy awake (idle-IsCut chip (chip.busy - 1))
    (subst (IsCut chip) (sym goes_on)
    (either_holds (IsCut chip) (chip.halted || chip.dead) (without_step chip) free (idle-IsCut chip chip.busy)
    (by_vector (accepted_by chip) (accepted-vector _ _ _))))
  where
    by_vector : (vector : Option ℕ) → IfSome vector IsVector → IsCut chip (free_turn vector chip)
    by_vector (Some vector) high = entered-IsCut vector chip is private high
    by_vector None high =
        either_holds (IsCut chip) (is_off chip) (without_step chip) (instructed chip) (idle-IsCut chip chip.busy)
        (instructed-IsCut chip is private)

-- ---- two turns

-- the releases made again by the one or by the other leave the same, where they have no write
reads-anyone :
    (one other : Agent) (list : List Access) (chip : State) → AreReads list →
    by_replay one list chip ≡ by_replay other list chip
reads-anyone one other list chip reads =
    replay-reads chip one chip.bus list reads ∙ sym (replay-reads chip other chip.bus list reads)

cut-same :
    (a b : State) (x y : Turn) → always_public a ≡ always_public b → releases a x ≡ releases b y → IsCut a x →
    IsCut b y → lasting x.chip ≡ lasting y.chip
cut-same a b x y same lists (ByWords p o) (ByWords q n) =
    p ∙ ap (λ list. by_replay (Cpu NO_MEMORY) list (always_public a)) lists
    ∙ ap (by_replay (Cpu NO_MEMORY) (releases b y)) same
    ∙ sym q
cut-same a b x y same lists (ByEntry p o) (ByEntry q n) =
    p ∙ ap (λ list. by_replay Entry list (always_public a)) lists
    ∙ ap (by_replay Entry (releases b y)) same
    ∙ sym q
cut-same a b x y same lists (ByWords p o) (ByEntry q n) =
    let reads : AreReads (releases b y) = both-reads (releases b y) (subst (AreOrderly 0) lists o) n in
    p ∙ ap (λ list. by_replay (Cpu NO_MEMORY) list (always_public a)) lists
    ∙ ap (by_replay (Cpu NO_MEMORY) (releases b y)) same
    ∙ reads-anyone (Cpu NO_MEMORY) Entry (releases b y) (always_public b) reads
    ∙ sym q
cut-same a b x y same lists (ByEntry p o) (ByWords q n) =
    let reads : AreReads (releases b y) = both-reads (releases b y) n (subst EndsInRead lists o) in
    p ∙ ap (λ list. by_replay Entry list (always_public a)) lists
    ∙ ap (by_replay Entry (releases b y)) same
    ∙ reads-anyone Entry (Cpu NO_MEMORY) (releases b y) (always_public b) reads
    ∙ sym q

-- ---- two ticks

-- the turn in its tick, by the items
record IsCutTurn (writes : ℕ) (chip : State) : Type 0 where
  pub cut : IsCut (rested chip) (owned (owner_of chip) chip)
  pub told : (told_by (tick_items (Cut writes) chip)).accesses ≡ releases (rested chip) (owned (owner_of chip) chip)

turn-IsCutTurn : (writes : ℕ) (chip : State) → PublicFacts chip → IsPrivateTurn chip → IsCutTurn writes chip
turn-IsCutTurn writes chip is turn = record {
  cut = subst (IsCut now) (sym same) (processor_turn-IsCut now (rested-PublicFacts chip is) private);
  told =
      told-cut_tick writes (stages_from (Cut writes) chip) turn.private fetches
      ∙ ap (λ start. released_of start turns.step turns.chip) (sym (rested-start chip));
}
  where
    now : State
    now = rested chip

    turns : Turn
    turns = owned (owner_of chip) chip

    private : is_private now ≡ true
    private = rested-private chip ∙ turn.private

    same : turns ≡ processor_turn now
    same = ap (λ owner. owned owner chip) turn.owner ∙ processor-owned chip

    fetches : StepFetches turns.step turns.chip
    fetches =
        subst (λ (t : Turn). StepFetches t.step t.chip) (sym same)
        (processor_turn-IsLeft now (rested-PublicFacts chip is) private).fetches

pub cut_turns_agree : CutTurnsAgree
cut_turns_agree one other a b ready turn same items =
    let facts : PublicFacts a = ready-PublicFacts a ready in
    let x : IsCutTurn one a = turn-IsCutTurn one a facts turn in
    let y : IsCutTurn other b =
    turn-IsCutTurn other b (seen-PublicFacts a b same facts) (seen-IsPrivateTurn a b same turn) in
    cut-same (rested a) (rested b) (owned (owner_of a) a) (owned (owner_of b) b)
    (ap (λ (s : Seen). rested s.chip) same)
    (sym x.told ∙ ap (λ items. (told_by items).accesses) items ∙ y.told)
    x.cut y.cut
