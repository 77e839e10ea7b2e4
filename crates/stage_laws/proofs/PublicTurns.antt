-- The processor's turn in public phase.
use Rattle.std.proofs.Common.{◌≡◌, ◌-◌, ℕ, List, Bool, true, false, not, ◌&&◌, slice_index, arith, refl, ap, sym, ◌∙◌, subst, if◌then◌else◌}
use Rattle.std.specs.Prelude.{Option, Some, None, nat_lt, ◌||◌, ◌+◌}
use Rattle.std.proofs.lemmas.Bool.Decides.{nat_tests}
use Rattle.chip_words.specs.declared.accesses.Agent.TheVariants as by
use Rattle.chip_words.specs.BusPart.{BusPart}
use Rattle.chip_words.specs.Encap.{seal}
use Rattle.chip_words.specs.Public.{IsSettled}
use Rattle.chip_words.specs.Registers.{PC}
use Rattle.chip_words.specs.Script.{Ran, run}
use Rattle.chip_words.specs.Seals.{is_in}
use Rattle.chip_words.specs.Steps.{begun, step_ended, waits_in}
use Rattle.bus_fabric.specs.Fabric.{part_entered}
use Rattle.cpux_execute.specs.declared.outcomes.Outcome.{Outcome}
use Rattle.cpux_execute.specs.Execution.{Stepped}
use Rattle.cpux_extended.specs.Instruction.{instruction}
use Rattle.access_laws.specs.Steps.{RanAlike}
use Rattle.access_laws.proofs.Seen.{AreAlike-seen, seen, seen-AreAlike}
use Rattle.access_laws.proofs.Stepping.{step-RanAlike}
use Rattle.chip_core.specs.Entry.{entry}
use Rattle.chip_core.specs.Phase.{is_private, is_up}
use Rattle.chip_core.specs.State.{State}
use Rattle.chip_core.specs.Turns.{Turn, accepted_by, asked, busy_after, entered, entry_cycles, free_turn, instructed, is_halting, is_off, processor_turn, reserved_cause, owned, step_owned, with_dma, without_step}
use Rattle.chip_core.specs.declared.owners.Owner.TheVariants.{Processor}
use Rattle.chip_core.specs.Lines.{turn_lines}
use Rattle.dma_unit.specs.Transfers.{passed}
use Rattle.stage_laws.specs.PublicTurns.{PublicTurnsSeePublic}
use Rattle.stage_laws.proofs.Faces.{LookAlike-face, LookAlike-outer, face, face-LookAlike, outer-settled, private-face, step_ended-alike, with_bus}

-- two turns leave chips whose faces are equal
abbrev pub TurnFaces : Turn → Turn → Type 0
TurnFaces x y = face x.chip ≡ face y.chip

-- ---- a step

waits-alike : {A : Type 0} (x y : Ran A) → RanAlike x y → waits_in x.part ≡ waits_in y.part
unfolding waits_in
waits-alike x y alike =
    let waits : BusPart → _ → ℕ = λ part accesses. waits_in (record part { accesses = accesses }) in
    ap (waits x.part) alike.accesses
    ∙ ap (λ part. waits part y.part.accesses) (AreAlike-seen x.part y.part alike.part)

pub instructed-alike :
    (chip : State) (part : BusPart) → IsSettled chip.bus → IsSettled part →
    is_in (seal chip.bus.units.encap) (slice_index chip.registers PC) ≡ false → seen chip.bus ≡ seen part →
    TurnFaces (instructed chip) (instructed (with_bus part chip))
unfolding instructed
instructed-alike chip part settled settled_other outside same =
    let who = by.Cpu (slice_index chip.registers PC) in
    let x : Ran Stepped = run who (instruction chip.registers) (begun chip.bus) in
    let y : Ran Stepped = run who (instruction chip.registers) (begun part) in
    let alike : RanAlike x y =
    step-RanAlike who (instruction chip.registers) chip.bus part settled settled_other
    (seen-AreAlike chip.bus part same) outside in
    let left : Outcome → BusPart → BusPart = λ outcome part. seen (step_ended (asked (reserved_cause outcome) part)) in
    let made : Stepped → BusPart → ℕ → State = λ stepped bus waits. record chip {
      bus = bus;
      registers = stepped.registers;
      busy = busy_after stepped.outcome waits;
    } in
    let cause = reserved_cause y.value.outcome in
    let requests : seen (asked cause x.part) ≡ seen (asked cause y.part) =
    ap (asked cause) (AreAlike-seen x.part y.part alike.part) in
    ap (λ (value : Stepped). made value (left value.outcome x.part) (waits_in x.part)) alike.value
    ∙ ap (λ bus. made y.value bus (waits_in x.part)) (step_ended-alike _ _ requests)
    ∙ ap (made y.value (left y.value.outcome y.part)) (waits-alike x y alike)

pub entered-alike :
    (vector : ℕ) (chip : State) (part : BusPart) → IsSettled chip.bus → IsSettled part →
    seen chip.bus ≡ seen part → TurnFaces (entered vector chip) (entered vector (with_bus part chip))
unfolding entered
entered-alike vector chip part settled settled_other same =
    let x : Ran (List ℕ) = run by.Entry (entry vector chip.registers) (begun chip.bus) in
    let y : Ran (List ℕ) = run by.Entry (entry vector chip.registers) (begun part) in
    let alike : RanAlike x y =
    step-RanAlike by.Entry (entry vector chip.registers) chip.bus part settled settled_other
    (seen-AreAlike chip.bus part same) tt in
    let left : BusPart → BusPart = λ part. seen (step_ended (part_entered vector part)) in
    let made : List ℕ → BusPart → ℕ → State = λ registers bus waits. record chip {
      bus = bus;
      registers = registers;
      busy = entry_cycles - 1 + waits;
    } in
    let entries : seen (part_entered vector x.part) ≡ seen (part_entered vector y.part) =
    ap (part_entered vector) (AreAlike-seen x.part y.part alike.part) in
    ap (λ value. made value (left x.part) (waits_in x.part)) alike.value
    ∙ ap (λ bus. made y.value bus (waits_in x.part)) (step_ended-alike _ _ entries)
    ∙ ap (made y.value (left y.part)) (waits-alike x y alike)

-- ---- the turn

free_turn-alike :
    (vector : Option ℕ) (chip : State) (part : BusPart) → IsSettled chip.bus → IsSettled part →
    is_in (seal chip.bus.units.encap) (slice_index chip.registers PC) ≡ false → seen chip.bus ≡ seen part →
    TurnFaces (free_turn vector chip) (free_turn vector (with_bus part chip))
free_turn-alike (Some vector) chip part settled settled_other outside same =
    entered-alike vector chip part settled settled_other same
free_turn-alike None chip part settled settled_other outside same =
    elim (is_off chip) as
    (λ test. TurnFaces (if test then without_step chip else instructed chip)
    (if test then without_step (with_bus part chip) else instructed (with_bus part chip))) [
      | true ↦ ap (λ bus. with_bus bus chip) same
      | false ↦ instructed-alike chip part settled settled_other outside same
    ]

-- the turn by the tests that it goes by
abbrev turned : Bool → Bool → Bool → Turn → State → Turn
turned busy halting still free chip =
    if busy then without_step (record chip { busy = chip.busy - 1 })
    else if halting then without_step (record chip { halted = true; pending = false })
    else if still then without_step chip
    else free

abbrev is_still : State → Bool
is_still chip = chip.halted || chip.dead

turned-by :
    (chip : State) →
    processor_turn chip
    ≡ turned (nat_lt 0 chip.busy) (is_halting chip) (is_still chip) (free_turn (accepted_by chip) chip) chip
unfolding processor_turn
turned-by chip = refl

turned-alike :
    (busy halting still : Bool) (x y : Turn) (chip : State) (part : BusPart) → seen chip.bus ≡ seen part →
    (still ≡ false → TurnFaces x y) →
    TurnFaces (turned busy halting still x chip) (turned busy halting still y (with_bus part chip))
turned-alike true halting still x y chip part same free =
    ap (λ bus. record chip { bus = bus; busy = chip.busy - 1 }) same
turned-alike false true still x y chip part same free =
    ap (λ bus. record chip { bus = bus; halted = true; pending = false }) same
turned-alike false false true x y chip part same free = ap (λ bus. with_bus bus chip) same
turned-alike false false false x y chip part same free = free refl

halting-alike :
    (chip : State) (part : BusPart) → seen chip.bus ≡ seen part → is_halting chip ≡ is_halting (with_bus part chip)
halting-alike chip part same =
    ap (λ private. chip.pending && not private)
    (private-face chip ∙ ap (λ bus. is_private (with_bus bus chip)) same ∙ sym (private-face (with_bus part chip)))

public-outside :
    (chip : State) → is_up chip ≡ true → is_private chip ≡ false → is_still chip ≡ false →
    is_in (seal chip.bus.units.encap) (slice_index chip.registers PC) ≡ false
unfolding is_private
public-outside chip up public still = grind (arith, nat_tests)

pub processor_turn-alike :
    (chip : State) (part : BusPart) → IsSettled chip.bus → IsSettled part → is_up chip ≡ true →
    is_private chip ≡ false → seen chip.bus ≡ seen part →
    TurnFaces (processor_turn chip) (processor_turn (with_bus part chip))
processor_turn-alike chip part settled settled_other up public same =
    let other : State = with_bus part chip in
    let accepts : accepted_by chip ≡ accepted_by other = ap (λ bus. accepted_by (with_bus bus chip)) same in
    let turns : Turn = free_turn (accepted_by other) other in
    let free : is_still chip ≡ false → TurnFaces (free_turn (accepted_by chip) chip) turns =
    λ still.
    free_turn-alike (accepted_by chip) chip part settled settled_other (public-outside chip up public still) same
    ∙ ap (λ vector. face (free_turn vector other).chip) accepts in
    let turn : Bool → Turn =
    λ halting. turned (nat_lt 0 chip.busy) halting (is_still chip) turns other in
    ap (λ (turn : Turn). face turn.chip) (turned-by chip)
    ∙ turned-alike (nat_lt 0 chip.busy) (is_halting chip) (is_still chip) _ turns chip part same free
    ∙ ap (λ halting. face (turn halting).chip) (halting-alike chip part same)
    ∙ sym (ap (λ (turn : Turn). face turn.chip) (turned-by other))

-- ---- the law

-- with equal faces the rest is a matter of the bus part
pub faces-bus : (a b : State) → face a ≡ face b → with_bus b.bus a ≡ b
faces-bus a b same = ap (with_bus b.bus) same

pub private-dma : (chip : State) → is_private (with_dma passed chip) ≡ is_private chip
unfolding is_private
private-dma chip = refl

turn-faces :
    (a b : State) → IsSettled a.bus → IsSettled b.bus → is_up a ≡ true → is_private a ≡ false → face a ≡ face b →
    TurnFaces (owned Processor a) (owned Processor b)
unfolding owned
turn-faces a b settled_a settled_b up public same =
    let x : State = with_dma passed a in
    let y : State = with_dma passed b in
    let faces : face x ≡ face y = ap (with_dma passed) same in
    subst (λ chip. TurnFaces (processor_turn x) (processor_turn chip)) (faces-bus x y faces)
    (processor_turn-alike x y.bus settled_a settled_b up (private-dma a ∙ public)
    (ap (λ (chip : State). chip.bus) faces))

no_boot : (chip : State) → step_owned Processor chip ≡ None
unfolding step_owned
no_boot chip = refl

pub public_turns_see_public : PublicTurnsSeePublic
public_turns_see_public a b ready up public alike =
    let same = LookAlike-face a b public alike in
    let settled : IsSettled a.bus = ready.settled up in
    let settled_b : IsSettled b.bus = outer-settled a b (LookAlike-outer a b alike) settled in
    let faces = turn-faces a b settled settled_b up public same in
    record {
      chips = face-LookAlike _ _ faces;
      public = λ public.
          record {
            registers = ap (λ (chip : State). chip.registers) faces;
            busy = ap (λ (chip : State). chip.busy) faces;
          };
      lines =
          ap (λ step. turn_lines a.halted step (owned Processor a).chip) (no_boot a)
          ∙ ap (turn_lines a.halted None) faces
          ∙ ap (λ (chip : State). turn_lines chip.halted None (owned Processor b).chip) same
          ∙ sym (ap (λ step. turn_lines b.halted step (owned Processor b).chip) (no_boot b));
    }
