-- A tick of a chip that nothing disturbs is the processor's. Where it makes no step, the tick has no line and no item, and
-- changes nothing but how long the processor is busy.
use Rattle.std.proofs.Common.{◌≡◌, ◌∙◌, ℕ, ◌-◌, ◌+◌, Bool, true, false, ◌==◌, ◌&&◌, ◌||◌, not, nat_lt, List, [], ◌∷◌, ◌++◌, refl, sym, ap, inl, inr, arith}
use Rattle.std.specs.Prelude.{if◌then◌else◌, Option, Some, None, is_none, slice_index}
use Rattle.std.proofs.lemmas.Bool.{and_parts, cases_Bool}
use Rattle.std.proofs.lemmas.Bool.Decides.{nat_tests}
use Rattle.chip_words.specs.Channel.{Channel}
use Rattle.chip_words.specs.Registers.{PC}
use Rattle.dma_unit.specs.Transfers.{are_quiet, due, due_from, is_quiet, passed}
use Rattle.dma_unit.proofs.Quiet.{nothing_passes}
use Rattle.power_schedule.specs.declared.powers.Power.TheVariants.{On}
use Rattle.trace_print.specs.declared.items.TraceItem.{TraceItem}
use Rattle.trace_print.specs.declared.releases.Item.{Item}
use Rattle.chip_core.specs.declared.items.Start.{Start}
use Rattle.chip_core.specs.declared.owners.Owner.TheVariants.{Processor}
use Rattle.chip_core.specs.declared.steps.Step.{Step}
use Rattle.chip_core.specs.Idle.{IsFree, given_from, is_undisturbed, makes_no_step, shown_from}
use Rattle.chip_core.specs.Items.{exit_items, stages_items, start_of, step_items}
use Rattle.chip_core.specs.Lines.{lines_with_power, stage_lines}
use Rattle.chip_core.specs.Phase.{is_private}
use Rattle.chip_core.specs.Pins.{pin_lines, pins_of}
use Rattle.chip_core.specs.State.{State}
use Rattle.chip_core.specs.Tick.{Stages, reset, stages_by, stages_from, taken_cause}
use Rattle.chip_core.specs.Turns.{Turn, owned, owner_of, accepted_by, free_turn, is_off, processor_turn, step_owned, with_dma, without_step}
use Rattle.chip_core.proofs.NoItems.{left_and_not}
use Rattle.chip_core.proofs.SamePins.{unchanged}

-- What it says, one by one.

none_there : {A : Type 0} (option : Option A) → is_none option ≡ true → option ≡ None
none_there None h = refl
none_there (Some x) h = grind (arith, h)

pub not_set : (test : Bool) → not test ≡ true → test ≡ false
not_set false h = refl
not_set true h = grind (arith, h)

pub record IsCalm (chip : State) : Type 0 where
  pub booted : chip.boot ≡ None
  first_tick : chip.second_tick ≡ false
  quiet : are_quiet (((chip.bus).units).dma).channels ≡ true
  cause : taken_cause chip ≡ None

pub calm : (chip : State) → is_undisturbed chip ≡ true → IsCalm chip
unfolding is_quiet
calm chip h =
    let (rest, cause) = and_parts _ _ h in
    let (rest, quiet) = and_parts _ _ rest in
    let (booted, second) = and_parts _ _ rest in
    record {
      booted = none_there chip.boot booted;
      first_tick = not_set chip.second_tick second;
      quiet = quiet;
      cause = none_there (taken_cause chip) cause;
    }

-- DMA.

not_due : (waiting : ℕ) (others : Bool) → (waiting == 0) ≡ true → (nat_lt 0 waiting && others) ≡ false
not_due waiting others none = grind (arith, nat_tests)

none_due : (n : ℕ) (channels : List Channel) → are_quiet channels ≡ true → due_from n channels ≡ None
none_due n [] quiet = refl
none_due n (channel ∷ more) quiet =
    let (here, rest) = and_parts _ _ quiet in
    let (waits, rests) = and_parts _ _ here in
    rw (not_due channel.waiting _ waits) (none_due (n + 1) more rest)

-- The turn.

abbrev pub with_busy : ℕ → State → State
with_busy left chip = record chip { busy = left }

owner_is : (chip : State) → IsCalm chip → owner_of chip ≡ Processor
unfolding owner_of due
owner_is chip is = rw (is.booted, is.first_tick, none_due 0 _ is.quiet) refl

rests_stay : (chip : State) → IsCalm chip → with_dma passed chip ≡ chip
unfolding is_quiet
rests_stay chip is = ap (λ dma. with_dma (λ _. dma) chip) (nothing_passes ((chip.bus).units).dma is.quiet)

-- a processor that is busy
abbrev pub IsBusy : State → Type 0
IsBusy chip = nat_lt 0 chip.busy ≡ true

pub counts_down : (chip : State) → IsBusy chip → processor_turn chip ≡ without_step (with_busy (chip.busy - 1) chip)
unfolding processor_turn
counts_down chip busy = rw busy refl

-- one that isn't, and makes no step
pub record IsStepless (chip : State) : Type 0 where
  idle : nat_lt 0 chip.busy ≡ false
  pending : chip.pending ≡ false
  why : ((chip.halted || chip.dead) || (is_off chip && is_none (accepted_by chip))) ≡ true

pub stepless : (chip : State) → nat_lt 0 chip.busy ≡ false → makes_no_step chip ≡ true → IsStepless chip
stepless chip idle h =
    let (pending, why) = and_parts _ _ h in
    record { idle = idle; pending = not_set chip.pending pending; why = why }

pub stays : (chip : State) → IsStepless chip → processor_turn chip ≡ without_step chip
unfolding processor_turn
stays chip is =
    elim (cases_Bool (chip.halted || chip.dead)) [
      | inl stopped ↦ rw (is.idle, is.pending, stopped) refl
      | inr running ↦
          let (off, none) = and_parts (is_off chip) (is_none (accepted_by chip)) (rw running at is.why) in
          rw (is.idle, is.pending, running, none_there (accepted_by chip) none, off) refl
    ]

-- The stages, where the turn leaves so much to wait.

no_reset : (left : ℕ) (chip : State) → IsCalm chip → reset (with_busy left chip) ≡ with_busy left chip
unfolding reset
no_reset left chip is = rw (is.cause) refl

abbrev pub with_turn : State → Turn → Stages
with_turn chip turn = record { ready = chip; owner = Processor; turn = turn; boot = None; after = reset turn.chip }

abbrev pub stages_of_wait : ℕ → State → Stages
stages_of_wait left chip = record {
  ready = chip;
  owner = Processor;
  turn = without_step (with_busy left chip);
  boot = None;
  after = with_busy left chip;
}

owned_is : (chip : State) → IsCalm chip → owned Processor chip ≡ processor_turn chip
unfolding owned
owned_is chip is = ap processor_turn (rests_stay chip is)

pub turn_stages : (chip : State) → IsCalm chip → stages_from On chip ≡ with_turn chip (processor_turn chip)
unfolding step_owned
turn_stages chip is = ap (λ owner. stages_by On chip owner) (owner_is chip is) ∙ ap (with_turn chip) (owned_is chip is)

pub stages_are : (left : ℕ) (chip : State) → IsCalm chip → processor_turn chip ≡ without_step (with_busy left chip) → stages_from On chip ≡ stages_of_wait left chip
stages_are left chip is turn =
    turn_stages chip is
    ∙ ap (with_turn chip) turn
    ∙ ap (λ after. record (stages_of_wait left chip) { after = after }) (no_reset left chip is)

-- What they show, and what they give away.

not_since : (halted : Bool) (at : ℕ) → (if halted && not halted then Some at else None) ≡ None
not_since true at = refl
not_since false at = refl

pub shows_nothing : (left : ℕ) (chip : State) → IsCalm chip → stage_lines On (stages_of_wait left chip) ≡ []
shows_nothing left chip is = rw (is.cause, not_since chip.halted (slice_index chip.registers PC)) refl

pub gives_nothing : (left : ℕ) (chip : State) → stages_items On (stages_of_wait left chip) ≡ []
unfolding is_private
gives_nothing left chip = left_and_not (is_private chip) chip.powered _

no_pin_line : (left : ℕ) (chip : State) → pin_lines (pins_of chip) (pins_of (with_busy left chip)) ≡ []
unfolding pins_of
no_pin_line left chip = unchanged (pins_of chip)

-- so all that such a tick does is that it leaves so much to wait
record IsIdle (left : ℕ) (chip : State) : Type 0 where
  after : with_busy left chip ≡ (stages_from On chip).after
  lines : [] ≡ shown_from chip
  items : [] ≡ given_from chip

idle : (left : ℕ) (chip : State) → IsCalm chip → processor_turn chip ≡ without_step (with_busy left chip) → IsIdle left chip
idle left chip is turn =
    let stages = stages_are left chip is turn in
    let shown = ap (λ (all : Stages). stage_lines On all ++ pin_lines (pins_of chip) (pins_of all.after)) stages in
    record {
      after = sym (ap (λ stages. stages.after) stages);
      lines = sym (shown ∙ rw (shows_nothing left chip is) (no_pin_line left chip));
      items = sym (ap (stages_items On) stages ∙ gives_nothing left chip);
    }

busy_idle : (chip : State) → is_undisturbed chip ≡ true → nat_lt 0 chip.busy ≡ true → IsIdle (chip.busy - 1) chip
busy_idle chip undisturbed busy = idle (chip.busy - 1) chip (calm chip undisturbed) (counts_down chip busy)

stepless_idle : (chip : State) → is_undisturbed chip ≡ true → nat_lt 0 chip.busy ≡ false → makes_no_step chip ≡ true → IsIdle chip.busy chip
stepless_idle chip undisturbed rested stands = idle chip.busy chip (calm chip undisturbed) (stays chip (stepless chip rested stands))

pub busy_after : (chip : State) → is_undisturbed chip ≡ true → nat_lt 0 chip.busy ≡ true → with_busy (chip.busy - 1) chip ≡ (stages_from On chip).after
busy_after chip undisturbed busy = (busy_idle chip undisturbed busy).after

pub busy_lines : (lines : List TraceItem) (chip : State) → is_undisturbed chip ≡ true → nat_lt 0 chip.busy ≡ true → lines ≡ [] → lines ≡ shown_from chip
busy_lines lines chip undisturbed busy none = none ∙ (busy_idle chip undisturbed busy).lines

pub busy_items : (items : List Item) (chip : State) → is_undisturbed chip ≡ true → nat_lt 0 chip.busy ≡ true → items ≡ [] → items ≡ given_from chip
busy_items items chip undisturbed busy none = none ∙ (busy_idle chip undisturbed busy).items

pub stepless_after : (chip : State) → is_undisturbed chip ≡ true → nat_lt 0 chip.busy ≡ false → makes_no_step chip ≡ true → chip ≡ (stages_from On chip).after
stepless_after chip undisturbed rested stands = (stepless_idle chip undisturbed rested stands).after

pub stepless_lines : (lines : List TraceItem) (chip : State) → is_undisturbed chip ≡ true → nat_lt 0 chip.busy ≡ false → makes_no_step chip ≡ true → lines ≡ [] → lines ≡ shown_from chip
stepless_lines lines chip undisturbed rested stands none = none ∙ (stepless_idle chip undisturbed rested stands).lines

pub stepless_items : (items : List Item) (chip : State) → is_undisturbed chip ≡ true → nat_lt 0 chip.busy ≡ false → makes_no_step chip ≡ true → items ≡ [] → items ≡ given_from chip
stepless_items items chip undisturbed rested stands none = none ∙ (stepless_idle chip undisturbed rested stands).items

-- What a turn in public phase leaves, shows, and gives away.

not_first : (a b : Bool) → (a || b) ≡ false → a ≡ false
not_first false b none = refl
not_first true b none = none

free_is : (chip : State) → IsFree chip → processor_turn chip ≡ free_turn (accepted_by chip) chip
unfolding processor_turn
free_is chip is = rw (is.rested, is.going_on, is.running) refl

free_stages : (chip : State) → is_undisturbed chip ≡ true → IsFree chip → stages_from On chip ≡ with_turn chip (free_turn (accepted_by chip) chip)
free_stages chip undisturbed free = turn_stages chip (calm chip undisturbed) ∙ ap (with_turn chip) (free_is chip free)

pub free_after : (chip : State) → is_undisturbed chip ≡ true → IsFree chip → reset (free_turn (accepted_by chip) chip).chip ≡ (stages_from On chip).after
free_after chip undisturbed free = sym (ap (λ (all : Stages). all.after) (free_stages chip undisturbed free))

pub free_lines :
    (chip : State) → is_undisturbed chip ≡ true → IsFree chip →
    lines_with_power false None (free_turn (accepted_by chip) chip).chip (reset (free_turn (accepted_by chip) chip).chip)
    ≡ stage_lines On (stages_from On chip)
free_lines chip undisturbed free =
    let unhalted = not_first chip.halted chip.dead free.running in
    ap (λ halted. lines_with_power halted None (free_turn (accepted_by chip) chip).chip (reset (free_turn (accepted_by chip) chip).chip)) (sym unhalted)
    ∙ sym (ap (stage_lines On) (free_stages chip undisturbed free))

-- a step in public phase has no item
public_step : (start : Start) (step : Option Step) (after : State) → start.private ≡ false → step_items On start step after ≡ []
public_step start (Some step) after public = rw public refl
public_step start None after public = refl

public_exit : (start : Start) (after : State) → start.private ≡ false → exit_items start after ≡ []
public_exit start after public = rw public refl

public_given : (chip : State) → is_undisturbed chip ≡ true → is_private chip ≡ false → given_from chip ≡ []
public_given chip undisturbed public =
    ap (stages_items On) (turn_stages chip (calm chip undisturbed))
    ∙ rw (
      public_step (start_of chip) (processor_turn chip).step (processor_turn chip).chip public,
      public_exit (start_of chip) (reset (processor_turn chip).chip) public,
    ) refl

pub public_items : (items : List Item) (chip : State) → is_undisturbed chip ≡ true → is_private chip ≡ false → items ≡ [] → items ≡ given_from chip
public_items items chip undisturbed public none = none ∙ sym (public_given chip undisturbed public)
