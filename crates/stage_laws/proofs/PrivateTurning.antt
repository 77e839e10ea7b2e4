-- The processor's turn in private phase leaves what its items tell.
use Rattle.std.proofs.Common.{length, ◌≡◌, ◌++◌, ◌-◌, ◌==◌, ◌&&◌, ◌||◌, not, ℕ, List, Bool, true, false, slice_index, arith, refl, ap, sym, ◌∙◌, subst, if◌then◌else◌}
use Rattle.std.specs.Prelude.{Option, Some, None, nat_lt}
use Rattle.std.proofs.lemmas.Bool.Decides.{nat_tests}
use Rattle.chip_words.specs.declared.accesses.Agent.TheVariants.{Cpu, Entry}
use Rattle.chip_words.specs.BusPart.{BusPart}
use Rattle.chip_words.specs.Causes.{least_cause, lesser_cause, no_causes}
use Rattle.chip_words.specs.Encap.{seal}
use Rattle.chip_words.specs.Public.{IsLocked, IsSettled, public_part}
use Rattle.chip_words.specs.Registers.{PC}
use Rattle.chip_words.specs.Script.{Ran, Script, run}
use Rattle.chip_words.specs.Seals.{is_in}
use Rattle.chip_words.specs.Steps.{begun, ended_with, step_ended}
use Rattle.access_laws.specs.Replay.{released, replay}
use Rattle.access_laws.proofs.Courses.{unchosen}
use Rattle.access_laws.proofs.Inside.{inside-locked}
use Rattle.access_laws.proofs.Replaying.{step-replayed}
use Rattle.bus_fabric.specs.Fabric.{part_entered}
use Rattle.cpux_execute.specs.declared.outcomes.Outcome.{Outcome}
use Rattle.cpux_execute.specs.Execution.{Stepped}
use Rattle.cpux_extended.specs.Instruction.{instruction}
use Rattle.dma_unit.specs.Transfers.{passed}
use Rattle.power_schedule.specs.declared.powers.Power.TheVariants.{On}
use Rattle.right_laws.specs.Ends.{requests}
use Rattle.step_laws.proofs.Shapes.{either_holds}
use Rattle.chip_core.specs.declared.owners.Owner.TheVariants.{Processor}
use Rattle.chip_core.specs.Entry.{entry}
use Rattle.chip_core.specs.Items.{power_bits, start_of}
use Rattle.chip_core.specs.Lines.{boot_lines, halt_lines}
use Rattle.chip_core.specs.Phase.{is_private, is_up}
use Rattle.chip_core.specs.State.{State}
use Rattle.chip_core.specs.Tick.{Stages, stages_from, taken_cause}
use Rattle.chip_core.specs.Turns.{Turn, accepted_by, asked, entered, free_turn, instructed, is_halting, is_off, owned, owner_of, processor_turn, reserved_cause, step_owned, with_dma, without_step}
use Rattle.stage_laws.specs.PrivateTurns.{PrivateTurnShowsNothing, PrivateTurnsAgree}
use Rattle.stage_laws.specs.Seen.{IsReady, Left, Seen, always_public, left, seen}
use Rattle.stage_laws.specs.Stages.{IsPrivateTurn, tick_items, turned}
use Rattle.stage_laws.proofs.Fetching.{entry-fetches, instruction-fetches}
use Rattle.stage_laws.proofs.Joining.{step-Joins}
use Rattle.stage_laws.proofs.Leaving.{ended-left, ended-none, least-entered, least-instructed, left_part, mask, mask-memory, step_ended-accesses}
use Rattle.stage_laws.proofs.Telling.{AreFetches, StepFetches, Told, only, power_told, run-AreFetches, told-tick, told_by, told_of_step, way_of, with_exit}
use Rattle.stage_laws.proofs.Unions.{lesser-None}

-- ---- what is left

abbrev pub power_after : Option ℕ → ℕ → ℕ
power_after (Some bits) before = bits
power_after None before = before

-- from what was seen, and what is told
abbrev pub left_by : Told → Seen → Left
left_by told seen = record {
  least = lesser_cause (taken_cause seen.chip) told.cause;
  chip = record (seen.chip) { bus = left_part told seen.chip.bus };
  power = power_after told.power seen.power;
}

same_left : (x y : Left) → x.least ≡ y.least → x.chip ≡ y.chip → x.power ≡ y.power → x ≡ y
same_left x y least chip power =
    let made : Option ℕ → State → ℕ → Left = λ l c p. record { least = l; chip = c; power = p } in
    ap (λ l. made l x.chip x.power) least ∙ ap (λ c. made y.least c x.power) chip ∙ ap (made y.least y.chip) power

power-left : (before after : ℕ) → after ≡ power_after (power_told before after) before
power-left before after = by_test (before == after) refl
  where
    by_test : (v : Bool) → (before == after) ≡ v → after ≡ power_after (if v then None else Some after) before
    by_test true e = grind (arith, nat_tests)
    by_test false e = refl

-- what a turn leaves of a chip
pub record IsLeft (chip : State) (turn : Turn) : Type 0 where
  pub left : left turn.chip ≡ left_by (told_of_step (start_of chip) turn.step turn.chip) (seen chip)
  pub fetches : StepFetches turn.step turn.chip

-- ---- a private chip

pub private-up : (chip : State) → is_private chip ≡ true → is_up chip ≡ true
unfolding is_private
private-up chip private = grind (arith, nat_tests)

pub private-inside :
    (chip : State) → is_private chip ≡ true → is_in (seal (chip.bus.units).encap) (slice_index chip.registers PC) ≡ true
unfolding is_private
private-inside chip private = grind (arith, nat_tests)

-- what a private turn needs of a chip. It is public, so it holds of each chip that looks the same
pub record PublicFacts (chip : State) : Type 0 where
  pub count : length (requests chip.bus) ≡ length no_causes
  pub settled : is_up chip ≡ true → IsSettled chip.bus

pub ready-PublicFacts : (chip : State) → IsReady chip → PublicFacts chip
ready-PublicFacts chip is = record { count = is.count; settled = is.settled }

pub seen-PublicFacts : (a b : State) → seen a ≡ seen b → PublicFacts a → PublicFacts b
seen-PublicFacts a b same is =
    let public : PublicFacts (always_public a) = record { count = is.count; settled = λ up. is.settled up } in
    let other : PublicFacts (always_public b) = subst PublicFacts (ap (λ (s : Seen). s.chip) same) public in
    record { count = other.count; settled = λ up. other.settled up }

pub private-locked : (chip : State) → PublicFacts chip → is_private chip ≡ true → IsLocked chip.bus
private-locked chip is private = record {
  settled = is.settled (private-up chip private);
  locked = inside-locked (chip.bus.units).encap (slice_index chip.registers PC) (private-inside chip private);
}

-- ---- turns

-- a turn without a step
idle-IsLeft : (chip : State) (busy : ℕ) → IsLeft chip (without_step (record chip { busy = busy }))
idle-IsLeft chip busy =
    let part : BusPart = public_part chip.bus in
    let idle : State = record chip { busy = busy } in
    let bare : mask chip.bus ≡ mask (ended_with 0 (mask part)) =
    mask-memory chip.bus ∙ mask-memory part ∙ ap mask (sym (ended-none (mask part))) in
    record {
      left = same_left (left idle) (left_by (only None) (seen chip)) (sym (lesser-None (taken_cause chip)))
          (ap (λ b. record (always_public chip) { bus = b }) bare) refl;
      fetches = tt;
    }

-- the releases of a step, by the list that stands behind it
pub released-behind :
    (chip : State) (ran behind : BusPart) → IsSettled chip.bus → behind.accesses ≡ ran.accesses →
    released chip.bus.kept ran.accesses ≡ released (start_of chip).seal (step_ended behind).accesses
released-behind chip ran behind settled list =
    ap (λ seal. released seal ran.accesses) settled
    ∙ ap (released (start_of chip).seal) (sym list ∙ sym (step_ended-accesses behind))

instructed-IsLeft : (chip : State) → PublicFacts chip → is_private chip ≡ true → IsLeft chip (instructed chip)
unfolding instructed
instructed-IsLeft chip is private =
    let ia : ℕ = slice_index chip.registers PC in
    let step : Script Stepped = instruction chip.registers in
    let ran : Ran Stepped = run (Cpu ia) step (begun chip.bus) in
    let outcome : Outcome = (ran.value).outcome in
    let locked : IsLocked chip.bus = private-locked chip is private in
    let behind : BusPart = asked (reserved_cause outcome) ran.part in
    let turn : Turn = instructed chip in
    let told : Told = told_of_step (start_of chip) turn.step turn.chip in
    let replayed : public_part ran.part ≡ replay (Cpu ia) (public_part chip.bus) told.accesses =
    step-replayed (Cpu ia) step (begun chip.bus) (record { settled = locked.settled; locked = locked.locked })
    (private-inside chip private) refl
    ∙ ap (replay (Cpu ia) (public_part chip.bus)) (released-behind chip ran.part behind locked.settled refl) in
    let bus : mask (step_ended behind) ≡ left_part told (public_part chip.bus) =
    ended-left None ia chip.bus ran.part behind told.accesses (refl) refl replayed in
    let least : least_cause (requests (step_ended behind)) ≡ lesser_cause (taken_cause chip) told.cause =
    least-instructed (requests chip.bus) outcome ran.part is.count (step-Joins (Cpu ia) step chip.bus is.count) in
    record {
      left = same_left (left turn.chip) (left_by told (seen chip)) least
          (ap (λ b. record (always_public chip) { bus = b }) bus)
          (power-left (power_bits chip) (power_bits turn.chip));
      fetches = subst AreFetches (sym (step_ended-accesses behind))
          (run-AreFetches (Cpu ia) step (begun chip.bus) (instruction-fetches chip.registers) tt);
    }

entered-IsLeft : (vector : ℕ) (chip : State) → PublicFacts chip → is_private chip ≡ true → IsLeft chip (entered vector chip)
unfolding entered
entered-IsLeft vector chip is private =
    let step : Script (List ℕ) = entry vector chip.registers in
    let ran : Ran (List ℕ) = run Entry step (begun chip.bus) in
    let locked : IsLocked chip.bus = private-locked chip is private in
    let behind : BusPart = part_entered vector ran.part in
    let turn : Turn = entered vector chip in
    let told : Told = told_of_step (start_of chip) turn.step turn.chip in
    let replayed : public_part ran.part ≡ replay Entry (public_part chip.bus) told.accesses =
    step-replayed Entry step (begun chip.bus) (record { settled = locked.settled; locked = locked.locked }) tt refl
    ∙ ap (replay Entry (public_part chip.bus)) (released-behind chip ran.part behind locked.settled refl) in
    let bus : mask (step_ended behind) ≡ left_part told (public_part chip.bus) =
    ended-left (Some vector) 0 chip.bus ran.part behind told.accesses refl refl replayed in
    let least : least_cause (requests (step_ended behind)) ≡ lesser_cause (taken_cause chip) told.cause =
    least-entered (requests chip.bus) vector ran.part (step-Joins Entry step chip.bus is.count) in
    record {
      left = same_left (left turn.chip) (left_by told (seen chip)) least
          (ap (λ b. record (always_public chip) { bus = b }) bus)
          (power-left (power_bits chip) (power_bits turn.chip));
      fetches = subst AreFetches (sym (step_ended-accesses behind))
          (run-AreFetches Entry step (begun chip.bus) (entry-fetches vector chip.registers) tt);
    }

-- no halt comes in private phase
pub private-halting : (chip : State) → is_private chip ≡ true → is_halting chip ≡ false
private-halting chip private =
    ap (λ private. chip.pending && not private) private ∙ false-last chip.pending
  where
    false-last : (v : Bool) → (v && false) ≡ false
    false-last true = refl
    false-last false = refl

pub processor_turn-IsLeft :
    (chip : State) → PublicFacts chip → is_private chip ≡ true → IsLeft chip (processor_turn chip)
unfolding processor_turn
processor_turn-IsLeft chip is private =
    let busy : Turn = without_step (record chip { busy = chip.busy - 1 }) in
    let halting : Turn = without_step (record chip { halted = true; pending = false }) in
    let free : Turn = free_turn (accepted_by chip) chip in
    let still : Turn = if chip.halted || chip.dead then without_step chip else free in
    let awake : Turn = if is_halting chip then halting else still in
    let goes_on : awake ≡ still = unchosen (is_halting chip) halting still (private-halting chip private) in
    either_holds (IsLeft chip) (nat_lt 0 chip.busy) busy awake (idle-IsLeft chip (chip.busy - 1))
    (subst (IsLeft chip) (sym goes_on)
    (either_holds (IsLeft chip) (chip.halted || chip.dead) (without_step chip) free (idle-IsLeft chip chip.busy)
    (by_vector (accepted_by chip))))
  where
    by_vector : (vector : Option ℕ) → IsLeft chip (free_turn vector chip)
    by_vector (Some vector) = entered-IsLeft vector chip is private
    by_vector None =
        either_holds (IsLeft chip) (is_off chip) (without_step chip) (instructed chip) (idle-IsLeft chip chip.busy)
        (instructed-IsLeft chip is private)

-- ---- the tick

-- the rests of DMA's channels are lowered
abbrev pub rested : State → State
rested chip = with_dma passed chip

pub rested-PublicFacts : (chip : State) → PublicFacts chip → PublicFacts (rested chip)
rested-PublicFacts chip is = record { count = is.count; settled = λ up. is.settled up }

pub rested-private : (chip : State) → is_private (rested chip) ≡ is_private chip
unfolding is_private
rested-private chip = refl

abbrev pub seen_rested : Seen → Seen
seen_rested seen = record seen { chip = rested seen.chip }

pub rested-seen : (chip : State) → seen (rested chip) ≡ seen_rested (seen chip)
unfolding is_private
rested-seen chip = refl

pub rested-start : (chip : State) → start_of (rested chip) ≡ start_of chip
unfolding is_private
rested-start chip = refl

-- the same chip by what is public of it
pub seen-private : (a b : State) → seen a ≡ seen b → is_private a ≡ is_private b
seen-private a b same = ap (λ (s : Seen). s.private) same

pub owner-public : (chip : State) → owner_of (always_public chip) ≡ owner_of chip
unfolding owner_of
owner-public chip = refl

pub seen-owner : (a b : State) → seen a ≡ seen b → owner_of a ≡ owner_of b
seen-owner a b same = sym (owner-public a) ∙ ap (λ (s : Seen). owner_of s.chip) same ∙ owner-public b

pub seen-IsPrivateTurn : (a b : State) → seen a ≡ seen b → IsPrivateTurn a → IsPrivateTurn b
seen-IsPrivateTurn a b same turn = record {
  private = sym (seen-private a b same) ∙ turn.private;
  owner = sym (seen-owner a b same) ∙ turn.owner;
}

-- the processor's turn in a tick
pub processor-owned : (chip : State) → owned Processor chip ≡ processor_turn (rested chip)
unfolding owned
processor-owned chip = refl

-- what such a turn leaves, by all that the tick gives away
record Leaves (chip : State) : Type 0 where
  pub left : left (turned chip) ≡ left_by (told_by (tick_items On chip)) (seen_rested (seen chip))

turn-Leaves : (chip : State) → PublicFacts chip → IsPrivateTurn chip → Leaves chip
turn-Leaves chip is turn = record {
  left =
      is_left.left
      ∙ ap (λ start. left_by (told_of_step start turns.step turns.chip) (seen (rested chip))) (rested-start chip)
      ∙ ap (left_by (told_of_step (start_of chip) turns.step turns.chip)) (rested-seen chip)
      ∙ ap (λ t. left_by t (seen_rested (seen chip))) (sym told);
}
  where
    turns : Turn
    turns = owned (owner_of chip) chip

    same : turns ≡ processor_turn (rested chip)
    same = ap (λ owner. owned owner chip) turn.owner ∙ processor-owned chip

    is_left : IsLeft (rested chip) turns
    is_left =
        subst (IsLeft (rested chip)) (sym same)
        (processor_turn-IsLeft (rested chip) (rested-PublicFacts chip is) (rested-private chip ∙ turn.private))

    stages : Stages
    stages = stages_from On chip

    told :
        told_by (tick_items On chip)
        ≡ with_exit (way_of (start_of chip) stages.after) (told_of_step (start_of chip) turns.step turns.chip)
    told = told-tick stages turn.private is_left.fetches

pub private_turns_agree : PrivateTurnsAgree
private_turns_agree a b ready turn same items =
    let facts : PublicFacts a = ready-PublicFacts a ready in
    let x = turn-Leaves a facts turn in
    let y = turn-Leaves b (seen-PublicFacts a b same facts) (seen-IsPrivateTurn a b same turn) in
    x.left
    ∙ ap (λ items. left_by (told_by items) (seen_rested (seen a))) items
    ∙ ap (λ s. left_by (told_by (tick_items On b)) (seen_rested s)) same
    ∙ sym y.left

-- ---- lines

same-halts : (was now : Bool) (at : ℕ) → now ≡ was → (if now && not was then Some at else None) ≡ None
same-halts true true at e = refl
same-halts false false at e = refl
same-halts true false at e = refl
same-halts false true at e = cc

-- the processor stays as it is, halted or not
abbrev StaysHalted : State → Turn → Type 0
StaysHalted chip turn = turn.chip.halted ≡ chip.halted

free_turn-StaysHalted : (vector : Option ℕ) (chip : State) → StaysHalted chip (free_turn vector chip)
unfolding entered instructed
free_turn-StaysHalted (Some vector) chip = refl
free_turn-StaysHalted None chip =
    either_holds (StaysHalted chip) (is_off chip) (without_step chip) (instructed chip) refl refl

processor_turn-StaysHalted :
    (chip : State) → is_private chip ≡ true → StaysHalted chip (processor_turn chip)
unfolding processor_turn
processor_turn-StaysHalted chip private =
    let busy : Turn = without_step (record chip { busy = chip.busy - 1 }) in
    let halting : Turn = without_step (record chip { halted = true; pending = false }) in
    let free : Turn = free_turn (accepted_by chip) chip in
    let still : Turn = if chip.halted || chip.dead then without_step chip else free in
    let awake : Turn = if is_halting chip then halting else still in
    let goes_on : awake ≡ still = unchosen (is_halting chip) halting still (private-halting chip private) in
    either_holds (StaysHalted chip) (nat_lt 0 chip.busy) busy awake refl
    (subst (StaysHalted chip) (sym goes_on)
    (either_holds (StaysHalted chip) (chip.halted || chip.dead) (without_step chip) free refl
    (free_turn-StaysHalted (accepted_by chip) chip)))

pub private_turn_shows_nothing : PrivateTurnShowsNothing
unfolding step_owned
private_turn_shows_nothing chip turn =
    let now : State = rested chip in
    let stands : (turned chip).halted ≡ chip.halted =
    ap (λ owner. (owned owner chip).chip.halted) turn.owner
    ∙ ap (λ (t : Turn). t.chip.halted) (processor-owned chip)
    ∙ processor_turn-StaysHalted now (rested-private chip ∙ turn.private) in
    ap (λ at. halt_lines at ++ boot_lines (step_owned (owner_of chip) chip) (turned chip))
    (same-halts chip.halted (turned chip).halted (slice_index (turned chip).registers PC) stands)
    ∙ ap (λ owner. boot_lines (step_owned owner chip) (turned chip)) turn.owner
