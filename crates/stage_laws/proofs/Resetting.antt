-- The reset behind the turn of the bus owner.
use Rattle.std.proofs.Common.{◌≡◌, ◌<◌, ◌==◌, ◌&&◌, ◌++◌, not, ℕ, List, [], ◌∷◌, Bool, true, false, length, slice_index, arith, refl, ap, sym, ◌∙◌, subst, if◌then◌else◌}
use Rattle.std.specs.Prelude.{Option, Some, None, is_none, bit_and, map}
use Rattle.std.specs.List.{range_with_len}
use Rattle.std.proofs.lemmas.Bool.Decides.{nat_tests}
use Rattle.std.proofs.lemmas.Grind.{common_steps, elements, get_or_default_zero}
use Rattle.std.proofs.lemmas.List.{length-replicate, length-set, same_lists}
use Rattle.std.proofs.lemmas.List.FromFn.{get_or-map-range_with_len, length-map-range_with_len}
use Rattle.chip_words.specs.declared.seals.Seal.{Seal}
use Rattle.chip_words.specs.declared.sizes.Size.TheVariants.{Word}
use Rattle.chip_words.specs.BusPart.{BusPart}
use Rattle.chip_words.specs.Causes.{is_of_bor, no_causes}
use Rattle.chip_words.specs.Memory.{loaded}
use Rattle.chip_words.specs.Public.{hidden, public_part}
use Rattle.chip_words.specs.Registers.{AreRegisters, PC, SR, no_registers, with_register}
use Rattle.chip_words.specs.Seals.{is_in}
use Rattle.chip_words.specs.Steps.{begun}
use Rattle.access_laws.proofs.Masks.{hidden-get}
use Rattle.boot_code.specs.declared.boots.BootStep.{BootStep}
use Rattle.boot_code.specs.declared.boots.Keep.{Keep}
use Rattle.boot_code.specs.Boot.{boot_step, run_of}
use Rattle.boot_code.specs.Place.{DoneWith, DoneWithout, MarkEmpty, MarkErase, Place, Ptr, SaveMark, SavePtr, Sig, Start, Wipe, Word0, Word1, Word2, Word3, is_done}
use Rattle.bus_fabric.specs.Fabric.{RESET_VECTOR, part_at_reset}
use Rattle.dma_unit.specs.Transfers.{due}
use Rattle.interrupt_reset.proofs.LeastCause.{least_cause-none}
use Rattle.power_schedule.specs.declared.powers.Power.TheVariants.{On}
use Rattle.right_laws.specs.Ends.{requests}
use Rattle.step_laws.proofs.Shapes.{either_holds}
use Rattle.trace_print.specs.declared.items.TraceItem.{TraceItem}
use Rattle.trace_print.specs.declared.items.TraceItem.TheVariants.{Dead}
use Rattle.chip_core.specs.declared.owners.Owner.{Owner}
use Rattle.chip_core.specs.declared.owners.Owner.TheVariants as owner
use Rattle.chip_core.proofs.StepEnds.{transfer_is_no_step}
use Rattle.chip_core.specs.Boot.{boot_run, no_vector, reset_vector}
use Rattle.chip_core.specs.Items.{all_registers, power_bits, start_of}
use Rattle.chip_core.specs.Lines.{is_restart, reset_lines}
use Rattle.chip_core.specs.Phase.{is_private}
use Rattle.chip_core.specs.Pins.{pins_of}
use Rattle.chip_core.specs.State.{State}
use Rattle.chip_core.specs.Tick.{after_bor, after_cause, after_puc, at_rest, reset, stages_from, taken_cause}
use Rattle.chip_core.specs.Turns.{owned, owner_by, owner_of, step_owned, transfer_turn}
use Rattle.release_log.proofs.Ending.{and-false, true-false}
use Rattle.release_log.proofs.Running.{GoesOn, owned-GoesOn}
use Rattle.stage_laws.specs.Resets.{EndAlike, PrivateTicksEndAlike, PublicPartsAreLeft, PublicTicksEndAlike}
use Rattle.stage_laws.specs.Seen.{IsReady, Left, Seen, always_public, left, seen, without_requests}
use Rattle.stage_laws.specs.Stages.{tick_items, turned}
use Rattle.stage_laws.proofs.PrivateTurning.{private-up, processor_turn-IsLeft, ready-PublicFacts, rested, rested-PublicFacts, rested-private, seen-owner}
use Rattle.stage_laws.proofs.Telling.{StepFetches, Told, Way, told-tick, told_by, way_of}

-- ---- the reset vector is never sealed

first-open : (seal : Seal) → is_in seal 0xFFFE ≡ false
unfolding is_in
first-open seal = grind (arith, nat_tests)

second-open : (seal : Seal) → is_in seal 0xFFFF ≡ false
unfolding is_in
second-open seal = grind (arith, nat_tests)

vector-hidden : (seal : Seal) (memory : List ℕ) → loaded memory RESET_VECTOR Word ≡ loaded (hidden seal memory) RESET_VECTOR Word
unfolding loaded
vector-hidden seal memory =
    let first = hidden-get seal memory 0xFFFE (first-open seal) in
    let second = hidden-get seal memory 0xFFFF (second-open seal) in
    cc

-- ---- what is public behind a reset in either phase

record Rest : Type 0 where
  pub chip : State
  pub power : ℕ

abbrev rest_of : State → Rest
rest_of chip = record { chip = always_public chip; power = power_bits chip }

-- behind a BOR
abbrev bor_by : ℕ → State → State
bor_by cause chip = record (at_rest chip) { bus = part_at_reset true cause chip.bus; registers = []; busy = 0 }

-- behind a PUC
abbrev puc_by : ℕ → State → State
puc_by cause chip = record chip {
  bus = part_at_reset false cause chip.bus;
  dead = loaded chip.bus.memory RESET_VECTOR Word == no_vector;
  second_tick = false;
}

-- from what a turn left equal
abbrev rest_by : Option ℕ → Left → Rest
rest_by (Some cause) left = record {
  chip = (if is_of_bor cause then bor_by cause left.chip else puc_by cause left.chip);
  power = 0;
}
rest_by None left = record { chip = left.chip; power = left.power }

status-reset : (registers : List ℕ) (vector : ℕ) → slice_index (with_register (with_register registers SR 0) PC vector) SR ≡ 0
status-reset registers vector = grind (arith, elements, common_steps)

cause-rest :
    (cause : ℕ) (chip : State) → rest_of (after_cause (Some cause) chip) ≡ rest_by (Some cause) (left chip)
cause-rest cause chip = by_kind (is_of_bor cause)
  where
    puc : ℕ → ℕ → Rest
    puc power vector = record {
      chip = record (always_public (after_puc cause chip)) { dead = vector == no_vector };
      power = power;
    }

    by_kind :
        (v : Bool) →
        rest_of (if v then after_bor cause chip else after_puc cause chip)
        ≡ record { chip = (if v then bor_by cause (left chip).chip else puc_by cause (left chip).chip); power = 0 }
    by_kind true = refl
    by_kind false =
        ap (λ status. puc (bit_and status 0xF0) (reset_vector chip)) (status-reset chip.registers (reset_vector chip))
        ∙ ap (puc 0) (vector-hidden chip.bus.kept chip.bus.memory)

none-rest : (chip : State) → requests chip.bus ≡ no_causes → rest_of chip ≡ rest_by None (left chip)
none-rest chip none =
    let part : BusPart = public_part chip.bus in
    ap (λ requested. record {
      chip = record (always_public chip) {
        bus = record part { units = record (part.units) { sys = record (part.units.sys) { requested = requested } } };
      };
      power = power_bits chip;
    }) none

reset-rest :
    (chip : State) → length (requests chip.bus) ≡ 65 → rest_of (reset chip) ≡ rest_by (taken_cause chip) (left chip)
unfolding reset
reset-rest chip count = by_cause (taken_cause chip) refl
  where
    by_cause :
        (cause : Option ℕ) → taken_cause chip ≡ cause → rest_of (after_cause cause chip) ≡ rest_by cause (left chip)
    by_cause (Some cause) taken = cause-rest cause chip
    by_cause None taken = none-rest chip (least_cause-none (requests chip.bus) count taken)

rests-same :
    (a b : State) → length (requests a.bus) ≡ 65 → length (requests b.bus) ≡ 65 → left a ≡ left b →
    rest_of (reset a) ≡ rest_of (reset b)
rests-same a b count_a count_b same =
    reset-rest a count_a ∙ ap (λ (l : Left). rest_by l.least l) same ∙ sym (reset-rest b count_b)

-- ---- the registers behind a reset

-- a list of 16 is all of its registers
all-registers : (registers : List ℕ) → length registers ≡ 16 → all_registers registers ≡ registers
unfolding all_registers
all-registers registers count =
    same_lists (map (slice_index registers) (range_with_len 0 16)) registers (length-map-range_with_len (slice_index registers) 0 16 ∙ sym count)
    (λ k d within.
    let few : k < 16 = omega (arith, within, length-map-range_with_len (slice_index registers) 0 16) in
    get_or-map-range_with_len (slice_index registers) 0 16 k k d few (omega arith)
    ∙ sym (get_or_default_zero registers k d (omega (arith, count))))

reset-count : (chip : State) → length chip.registers ≡ 16 → length (reset chip).registers ≡ 16
unfolding reset
reset-count chip count = by_cause (taken_cause chip)
  where
    by_kind : (cause : ℕ) (v : Bool) → length (if v then after_bor cause chip else after_puc cause chip).registers ≡ 16
    by_kind cause true = refl
    by_kind cause false = length-set _ PC _ ∙ length-set chip.registers SR _ ∙ count

    by_cause : (cause : Option ℕ) → length (after_cause cause chip).registers ≡ 16
    by_cause (Some cause) = by_kind cause (is_of_bor cause)
    by_cause None = count

reset-powered : (chip : State) → (reset chip).powered ≡ chip.powered
unfolding reset
reset-powered chip = by_cause (taken_cause chip)
  where
    by_kind :
        (cause : ℕ) (v : Bool) → (if v then after_bor cause chip else after_puc cause chip).powered ≡ chip.powered
    by_kind cause true = refl
    by_kind cause false = refl

    by_cause : (cause : Option ℕ) → (after_cause cause chip).powered ≡ chip.powered
    by_cause (Some cause) = by_kind cause (is_of_bor cause)
    by_cause None = refl

-- ---- the way out tells the phase, the registers and busy

abbrev seen_by : Option Way → Rest → Seen
seen_by (Some way) rest = record {
  private = false;
  chip = rest.chip;
  power = rest.power;
  registers = way.registers;
  busy = way.busy;
}
seen_by None rest = record { private = true; chip = rest.chip; power = rest.power; registers = []; busy = 0 }

seen-way :
    (before after : State) → is_private before ≡ true → after.powered ≡ true → length after.registers ≡ 16 →
    seen after ≡ seen_by (way_of (start_of before) after) (rest_of after)
seen-way before after private powered count =
    by_phase (is_private after)
    ∙ ap (λ registers. seen_by (if not (is_private after) then Some (way registers) else None) (rest_of after))
    (sym (all-registers after.registers count))
    ∙ ap (λ v. seen_by (if v && not (is_private after) then Some told else None) (rest_of after)) (sym powered)
    ∙ ap (λ v. seen_by (if v && after.powered && not (is_private after) then Some told else None) (rest_of after))
    (sym private)
  where
    way : List ℕ → Way
    way registers = record { registers = registers; busy = after.busy }

    told : Way
    told = way (all_registers after.registers)

    by_phase :
        (v : Bool) →
        record {
          private = v;
          chip = always_public after;
          power = power_bits after;
          registers = (if v then [] else after.registers);
          busy = (if v then 0 else after.busy);
        }
        ≡ seen_by (if not v then Some (way after.registers) else None) (rest_of after)
    by_phase true = refl
    by_phase false = refl

-- ---- a turn in private phase

private-booted : (chip : State) → is_private chip ≡ true → chip.boot ≡ None
private-booted chip private = by_boot chip.boot (private-up chip private)
  where
    by_boot : (boot : Option Place) → (chip.powered && is_none boot) ≡ true → boot ≡ None
    by_boot None up = refl
    by_boot (Some place) up = absurd (true-false (sym up ∙ and-false chip.powered))

private-powered : (chip : State) → is_private chip ≡ true → chip.powered ≡ true
private-powered chip private = by_power chip.powered (private-up chip private)
  where
    by_power : (powered : Bool) → (powered && is_none chip.boot) ≡ true → powered ≡ true
    by_power true up = refl
    by_power false up = cc

-- what holds of the turn of an owner
record IsOwned (chip : State) (owner : Owner) : Type 0 where
  pub goes : GoesOn chip (owned owner chip).chip
  pub boot : step_owned owner chip ≡ None
  pub fetches : StepFetches (owned owner chip).step (owned owner chip).chip

private-IsOwned : (chip : State) → IsReady chip → is_private chip ≡ true → IsOwned chip (owner_of chip)
unfolding owner_of owned step_owned
private-IsOwned chip is private =
    let channel : Option ℕ = due (chip.bus.units).dma in
    subst (λ boot. IsOwned chip (owner_by boot chip.second_tick channel)) (sym (private-booted chip private))
    (record {
      goes = owned-GoesOn chip.second_tick channel chip;
      boot = no_boot chip.second_tick channel;
      fetches = fetching chip.second_tick channel;
    })
  where
    no_boot : (second : Bool) (channel : Option ℕ) → step_owned (owner_by None second channel) chip ≡ None
    no_boot true channel = refl
    no_boot false (Some channel) = refl
    no_boot false None = refl

    fetching :
        (second : Bool) (channel : Option ℕ) →
        StepFetches (owned (owner_by None second channel) chip).step (owned (owner_by None second channel) chip).chip
    fetching true channel = tt
    fetching false (Some channel) =
        subst (λ step. StepFetches step (transfer_turn channel chip).chip) (sym (transfer_is_no_step channel chip)) tt
    fetching false None =
        (processor_turn-IsLeft (rested chip) (rested-PublicFacts chip (ready-PublicFacts chip is)) (rested-private chip ∙ private)).fetches

-- ---- how two ticks end

no_causes-count : length no_causes ≡ 65
unfolding no_causes
no_causes-count = length-replicate 65 false

-- what the reset shows goes by what is public
pub pins-public : (chip : State) → pins_of chip ≡ pins_of (always_public chip)
unfolding pins_of
pins-public chip = refl

ends :
    (a b : State) → seen (reset (turned a)) ≡ seen (reset (turned b)) → left (turned a) ≡ left (turned b) →
    ((cause : Option ℕ) →
    is_restart (step_owned (owner_of a) a) cause ≡ is_restart (step_owned (owner_of b) b) cause) →
    EndAlike (stages_from On a) (stages_from On b)
ends a b same lefts restarts =
    let x : State = reset (turned a) in
    let y : State = reset (turned b) in
    let shown : Bool → Option ℕ → Bool → List TraceItem = λ restart cause dead.
    reset_lines cause ++ (if restart && dead then Dead ∷ [] else []) in
    let chips : always_public x ≡ always_public y = ap (λ (s : Seen). s.chip) same in
    let boot : Option BootStep = step_owned (owner_of a) a in
    let other : Option BootStep = step_owned (owner_of b) b in
    record {
      public = same;
      lines =
          ap (λ v. shown v (taken_cause (turned a)) x.dead) (restarts (taken_cause (turned a)))
          ∙ ap (λ (l : Left). shown (is_restart other l.least) l.least x.dead) lefts
          ∙ ap (λ (c : State). shown (is_restart other (taken_cause (turned b))) (taken_cause (turned b)) c.dead) chips;
      pins = pins-public x ∙ ap pins_of chips ∙ sym (pins-public y);
    }

-- what a tick in private phase ends in, by its items
record EndsBy (chip : State) : Type 0 where
  pub count : length (requests (turned chip).bus) ≡ 65
  pub way : seen (reset (turned chip)) ≡ seen_by (told_by (tick_items On chip)).exit (rest_of (reset (turned chip)))

private-EndsBy : (chip : State) → IsReady chip → is_private chip ≡ true → EndsBy chip
private-EndsBy chip is private =
    let owns : IsOwned chip (owner_of chip) = private-IsOwned chip is private in
    let now : State = turned chip in
    let registers : AreRegisters now.registers = owns.goes.registers is.registers in
    let powered : now.powered ≡ true = owns.goes.powered ∙ private-powered chip private in
    let after : State = reset now in
    record {
      count = owns.goes.bus.requested.count ∙ is.count ∙ no_causes-count;
      way =
          seen-way chip after private (reset-powered now ∙ powered) (reset-count now registers.count)
          ∙ ap (λ (t : Told). seen_by t.exit (rest_of after))
          (sym (told-tick (stages_from On chip) private owns.fetches));
    }

pub private_ticks_end_alike : PrivateTicksEndAlike
private_ticks_end_alike a b ready_a ready_b private_a private_b lefts items =
    let x : EndsBy a = private-EndsBy a ready_a private_a in
    let y : EndsBy b = private-EndsBy b ready_b private_b in
    let rests : rest_of (reset (turned a)) ≡ rest_of (reset (turned b)) =
    rests-same (turned a) (turned b) x.count y.count lefts in
    let same : seen (reset (turned a)) ≡ seen (reset (turned b)) =
    x.way
    ∙ ap (λ items. seen_by (told_by items).exit (rest_of (reset (turned a)))) items
    ∙ ap (seen_by (told_by (tick_items On b)).exit) rests
    ∙ sym y.way in
    ends a b same lefts (λ cause.
    ap (λ boot. is_restart boot cause) ((private-IsOwned a ready_a private_a).boot)
    ∙ sym (ap (λ boot. is_restart boot cause) ((private-IsOwned b ready_b private_b).boot)))

pub public_parts_are_left : PublicPartsAreLeft
public_parts_are_left a b same =
    let left_of : Seen → Left = λ seen. record {
      least = taken_cause seen.chip;
      chip = record (seen.chip) { bus = without_requests seen.chip.bus };
      power = seen.power;
    } in
    ap left_of same

-- ---- a turn in public phase

-- the public part from what is public in either phase, and the registers and busy
abbrev seen_from : Rest → List ℕ → ℕ → Seen
seen_from rest registers busy = record {
  private = is_private (record (rest.chip) { registers = registers });
  chip = rest.chip;
  power = rest.power;
  registers = (if is_private (record (rest.chip) { registers = registers }) then [] else registers);
  busy = (if is_private (record (rest.chip) { registers = registers }) then 0 else busy);
}

seen-whole : (chip : State) → seen chip ≡ seen_from (rest_of chip) chip.registers chip.busy
unfolding is_private
seen-whole chip = refl

-- a cause leaves what the cause says of the registers, and nothing to be busy with
abbrev registers_by : ℕ → List ℕ → ℕ → List ℕ
registers_by cause registers vector =
    if is_of_bor cause then no_registers else with_register (with_register registers SR 0) PC vector

cause-registers :
    (cause : ℕ) (chip : State) →
    (after_cause (Some cause) chip).registers ≡ registers_by cause chip.registers (reset_vector chip)
cause-registers cause chip =
    elim (is_of_bor cause) as
    (λ v. (if v then after_bor cause chip else after_puc cause chip).registers
    ≡ (if v then no_registers
    else with_register (with_register chip.registers SR 0) PC (reset_vector chip))) [
      | true ↦ refl
      | false ↦ refl
    ]

cause-idle : (cause : ℕ) (chip : State) → (after_cause (Some cause) chip).busy ≡ 0
cause-idle cause chip =
    either_holds (λ (after : State). after.busy ≡ 0) (is_of_bor cause) (after_bor cause chip) (after_puc cause chip)
    refl refl

public-rests :
    (cause : ℕ) (x y : State) → seen x ≡ seen y →
    rest_of (after_cause (Some cause) x) ≡ rest_of (after_cause (Some cause) y)
public-rests cause x y same =
    cause-rest cause x ∙ ap (rest_by (Some cause)) (public_parts_are_left x y same) ∙ sym (cause-rest cause y)

-- without a cause all stays as it is
public-causes :
    (cause : Option ℕ) (x y : State) → seen x ≡ seen y → x.registers ≡ y.registers →
    seen (after_cause cause x) ≡ seen (after_cause cause y)
public-causes None x y same registers = same
public-causes (Some cause) x y same registers =
    let vectors : reset_vector x ≡ reset_vector y =
    vector-hidden x.bus.kept x.bus.memory
    ∙ ap (λ (s : Seen). loaded s.chip.bus.memory RESET_VECTOR Word) same
    ∙ sym (vector-hidden y.bus.kept y.bus.memory) in
    let one : State = after_cause (Some cause) x in
    let other : State = after_cause (Some cause) y in
    seen-whole one
    ∙ ap (λ rest. seen_from rest one.registers one.busy) (public-rests cause x y same)
    ∙ ap (λ list. seen_from (rest_of other) list one.busy)
    (cause-registers cause x
    ∙ ap (λ list. registers_by cause list (reset_vector x)) registers
    ∙ ap (registers_by cause y.registers) vectors
    ∙ sym (cause-registers cause y))
    ∙ ap (seen_from (rest_of other) other.registers) (cause-idle cause x ∙ sym (cause-idle cause y))
    ∙ sym (seen-whole other)

public-resets : (x y : State) → seen x ≡ seen y → x.registers ≡ y.registers → seen (reset x) ≡ seen (reset y)
unfolding reset
public-resets x y same registers =
    public-causes (taken_cause x) x y same registers
    ∙ ap (λ (s : Seen). seen (after_cause (taken_cause s.chip) y)) same

-- ---- whether the boot ends goes by its place alone

run-restart :
    (place : Place) (keep : Keep) (part : BusPart) →
    is_restart (Some (run_of place keep part).value.step) None ≡ is_done place
unfolding boot_step
run-restart Start keep part = refl
run-restart Sig keep part = refl
run-restart Ptr keep part = refl
run-restart (Word0 p) keep part = refl
run-restart (Word1 p w0) keep part = refl
run-restart (Word2 p w0 w1) keep part = refl
run-restart (Word3 p w0 w1 w2) keep part = refl
run-restart (SavePtr p words) keep part = refl
run-restart (SaveMark p words) keep part = refl
run-restart MarkErase keep part = refl
run-restart (Wipe at) keep part = refl
run-restart MarkEmpty keep part = refl
run-restart (DoneWith p words) keep part = refl
run-restart DoneWithout keep part = refl

boot-restart :
    (place : Place) (chip : State) → is_restart (step_owned (owner.Boot place) chip) None ≡ is_done place
unfolding step_owned boot_run
boot-restart place chip = run-restart place chip.keep (begun (rested chip).bus)

owners-restart :
    (owner : Owner) (cause : Option ℕ) (a b : State) →
    is_restart (step_owned owner a) cause ≡ is_restart (step_owned owner b) cause
unfolding step_owned
owners-restart owner (Some cause) a b = refl
owners-restart (owner.Boot place) None a b = boot-restart place a ∙ sym (boot-restart place b)
owners-restart owner None a b = refl

pub public_ticks_end_alike : PublicTicksEndAlike
public_ticks_end_alike a b same turns =
    ends a b (public-resets (turned a) (turned b) turns.public turns.registers)
    (public_parts_are_left (turned a) (turned b) turns.public)
    (λ cause.
    owners-restart (owner_of a) cause a b
    ∙ ap (λ owner. is_restart (step_owned owner b) cause) (seen-owner a b same))
