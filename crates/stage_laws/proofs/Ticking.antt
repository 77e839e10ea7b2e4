-- One tick, composed of its stages, by its power and by the owner of the bus.
use Rattle.std.proofs.Common.{◌≡◌, ◌+◌, ◌++◌, ◌&&◌, ℕ, List, [], ◌∷◌, Bool, true, false, refl, ap, sym, ◌∙◌, subst}
use Rattle.std.specs.Prelude.{All, Option, Some, None, IfSome, is_none, map}
use Rattle.std.proofs.lemmas.List.{append-nil}
use Rattle.std.proofs.lemmas.List.Elements.{All-cons, All-head, All-nil, All-tail}
use Rattle.chip_words.specs.declared.seals.Seal.{Seal}
use Rattle.chip_words.specs.Causes.{is_of_bor}
use Rattle.chip_words.specs.Seals.{is_in}
use Rattle.access_laws.specs.Boots.{AgreeWhereOpened}
use Rattle.boot_code.specs.declared.boots.Act.{Act}
use Rattle.boot_code.specs.declared.boots.Act.TheVariants as act
use Rattle.boot_code.specs.declared.boots.BootStep.{BootStep}
use Rattle.boot_code.specs.declared.boots.BootStep.TheVariants.{Going, Done}
use Rattle.boot_code.specs.Place.{IsPlace, Place}
use Rattle.bus_fabric.specs.Fabric.{tick_ended}
use Rattle.dma_unit.specs.Transfers.{due, passed}
use Rattle.ip_encap.specs.Opened.{opened}
use Rattle.power_schedule.specs.declared.powers.Power.{Power}
use Rattle.power_schedule.specs.declared.powers.Power.TheVariants.{On, Cut, Off}
use Rattle.step_laws.proofs.Shapes.{either_holds}
use Rattle.stimulus.specs.declared.events.Event.{Event}
use Rattle.stimulus.specs.Events.{on_tick}
use Rattle.stimulus.specs.Stimulus.{Stimulus}
use Rattle.trace_print.specs.declared.items.TraceItem.{TraceItem}
use Rattle.trace_print.specs.declared.releases.Item.{Item}
use Rattle.chip_core.specs.declared.owners.Owner.{Owner}
use Rattle.chip_core.specs.declared.owners.Owner.TheVariants.{Boot, Processor, SecondTick, Transfer}
use Rattle.chip_core.specs.Boot.{after_boot_step, boot_run, ended_unless_cut}
use Rattle.chip_core.specs.Items.{exit_items, items_of, opened_item, opened_items, stages_items, start_of, struct_items}
use Rattle.chip_core.specs.Lines.{lines_of, power_lines, restart_lines, stage_lines, stimulus_lines, turn_lines}
use Rattle.chip_core.specs.Phase.{is_private, is_up}
use Rattle.chip_core.specs.Pins.{pin_lines, pins_of}
use Rattle.chip_core.specs.State.{State}
use Rattle.chip_core.specs.Tick.{after_bor, after_cause, after_events, after_puc, begun_by, behind_tick, budget_of, clocked, moments, power_of, powered, powered_on, reset, stages, stages_by, stages_from, stimulated, supplied, taken_cause, ticked, timed}
use Rattle.chip_core.specs.Turns.{boot_turn, owned, owner_by, owner_of, step_owned, with_dma}
use Rattle.release_log.specs.Facts.{IsSound}
use Rattle.release_log.specs.SameItems.{OpensAlike}
use Rattle.release_log.proofs.Booting.{boot_run-KeepsFacts, boot_run-OnlyMemory}
use Rattle.release_log.proofs.Ending.{true-false}
use Rattle.release_log.proofs.Kept.{IsOn, Runs, Boots, events-IsBooting, powered_on-IsOn}
use Rattle.release_log.proofs.Running.{events-IsRunning}
use Rattle.stage_laws.specs.Alike.{LookAlike}
use Rattle.stage_laws.specs.Beginnings.{BeginAlike}
use Rattle.stage_laws.specs.BootSteps.{TellAlike, booted, items_of_step}
use Rattle.stage_laws.specs.Cuts.{CutAlike, lasting}
use Rattle.stage_laws.specs.OneTick.{AgreeBehind, ItemsAgree, OneTickAgrees}
use Rattle.stage_laws.specs.PublicTurns.{ComputeAlike, TurnsAlike}
use Rattle.stage_laws.specs.Ready.{ready_of}
use Rattle.stage_laws.specs.Resets.{EndAlike}
use Rattle.stage_laws.specs.Seen.{IsReady, Seen, seen}
use Rattle.stage_laws.specs.Stages.{IsPrivateTurn, tick_items, turned}
use Rattle.stage_laws.proofs.Beginnings.{beginnings_see_public}
use Rattle.stage_laws.proofs.BootSteps.{boot_steps_see_public, booting-public}
use Rattle.stage_laws.proofs.CutTurns.{cut_turns_agree}
use Rattle.stage_laws.proofs.Cutting.{cuts_end_alike, public_parts_last}
use Rattle.stage_laws.proofs.Openings.{intervals_tell_all}
use Rattle.stage_laws.proofs.PrivateTurning.{private_turn_shows_nothing, private_turns_agree, seen-IsPrivateTurn, seen-owner, seen-private}
use Rattle.stage_laws.proofs.PublicTurns.{public_turns_see_public}
use Rattle.stage_laws.proofs.Readying.{ticks_have_budgets, ticks_make_ready}
use Rattle.stage_laws.proofs.Resetting.{pins-public, private_ticks_end_alike, public_parts_are_left, public_ticks_end_alike}
use Rattle.stage_laws.proofs.Transfers.{transfers_see_public}

-- ---- the items of the stages agree, and the stages end alike

record StagesAgree (one other : Power) (a b : State) : Type 0 where
  pub items : tick_items one a ≡ tick_items other b
  pub bytes :
      All (OpensAlike (stages_from one a).after.bus.memory (stages_from other b).after.bus.memory) (tick_items one a)

record StagesEnd (one other : Power) (a b : State) : Type 0 where
  pub public : seen (stages_from one a).after ≡ seen (stages_from other b).after
  pub lines : stage_lines one (stages_from one a) ≡ stage_lines other (stages_from other b)
  pub pins : pins_of (stages_from one a).after ≡ pins_of (stages_from other b).after

-- ---- what the items of a boot's step tell

-- what holds of what was made of each element holds of each by what is made of it
All-from-map :
    {X Y : Type 0} (P : Y → Type 0) (made : X → Y) (xs : List X) → All P (map made xs) → All (λ x. P (made x)) xs
All-from-map P made [] all = All-nil (λ x. P (made x))
All-from-map P made (x ∷ xs) all =
    All-cons (λ x. P (made x)) x xs (All-head P (made x) (map made xs) all)
    (All-from-map P made xs (All-tail P (made x) (map made xs) all))

-- no address is opened where the same stay secret
none-opened :
    (before after : Seal) (one other : List ℕ) → after ≡ before → AgreeWhereOpened before after one other
none-opened before after one other same at inside outside =
    absurd (true-false (sym inside ∙ ap (λ kept. is_in kept at) (sym same) ∙ outside))

acted-kept : (step : Act) (chip : State) → (after_boot_step (Going step) chip).bus.kept ≡ chip.bus.kept
acted-kept (act.Mark mark) chip = refl
acted-kept (act.Ptr ptr) chip = refl
acted-kept other chip = refl

opened-uncut :
    (step : BootStep) (kept : Seal) (chip : State) (other : List ℕ) → chip.bus.kept ≡ kept →
    All (OpensAlike (after_boot_step step chip).bus.memory other)
    (struct_items (Some step) ++ opened_items On (Some step) kept (after_boot_step step chip).bus.kept) →
    AgreeWhereOpened kept (after_boot_step step chip).bus.kept (after_boot_step step chip).bus.memory other
opened-uncut (Done borders) kept chip other keeps all =
    let after : State = after_boot_step (Done borders) chip in
    intervals_tell_all kept after.bus.kept after.bus.memory other
    (All-from-map (OpensAlike after.bus.memory other) opened_item (opened kept after.bus.kept) all)
opened-uncut (Going step) kept chip other keeps all =
    none-opened kept (after_boot_step (Going step) chip).bus.kept _ other (acted-kept step chip ∙ keeps)

opened-cut :
    (writes : ℕ) (step : BootStep) (kept : Seal) (chip : State) (other : List ℕ) → chip.bus.kept ≡ kept →
    chip.bus.budget ≡ Some writes →
    AgreeWhereOpened kept (after_boot_step step chip).bus.kept (after_boot_step step chip).bus.memory other
opened-cut writes (Done borders) kept chip other keeps cuts =
    none-opened kept (after_boot_step (Done borders) chip).bus.kept _ other
    (ap (λ budget. (ended_unless_cut budget borders chip).bus.kept) cuts ∙ keeps)
opened-cut writes (Going step) kept chip other keeps cuts =
    none-opened kept (after_boot_step (Going step) chip).bus.kept _ other (acted-kept step chip ∙ keeps)

-- ---- a boot's tick gives the items of its step alone

exit-public : (chip after : State) → is_private chip ≡ false → exit_items (start_of chip) after ≡ []
exit-public chip after public =
    ap
    (λ private. exit_items (record (start_of chip) { private = private }) after)
    public

step-items :
    (power : Power) (place : Place) (chip : State) → is_private chip ≡ false →
    stages_items power (stages_by power chip (Boot place)) ≡ items_of_step power place chip
unfolding owned
step-items power place chip public =
    let items : List Item = items_of_step power place chip in
    ap (λ exit. items ++ exit) (exit-public chip (stages_by power chip (Boot place)).after public) ∙ append-nil items

reset-memory : (chip : State) → (reset chip).bus.memory ≡ chip.bus.memory
unfolding reset
reset-memory chip = by_cause (taken_cause chip)
  where
    by_cause : (cause : Option ℕ) → (after_cause cause chip).bus.memory ≡ chip.bus.memory
    by_cause (Some cause) =
        either_holds (λ (after : State). after.bus.memory ≡ chip.bus.memory) (is_of_bor cause) (after_bor cause chip)
        (after_puc cause chip) refl refl
    by_cause None = refl

-- the chip as the boot's turn finds it, and behind the accesses of its step
abbrev rested_boot : State → State
rested_boot chip = with_dma passed chip

abbrev stepped : Place → State → State
stepped place chip = record (rested_boot chip) {
  bus = (boot_run place (rested_boot chip)).part;
  boot = Some (boot_run place (rested_boot chip)).value.place;
}

booted-uncut :
    (place : Place) (chip : State) (other : List ℕ) → IsPlace place →
    All (OpensAlike (booted place chip).bus.memory other) (items_of_step On place chip) →
    AgreeWhereOpened chip.bus.kept (booted place chip).bus.kept (booted place chip).bus.memory other
unfolding owned step_owned boot_turn
booted-uncut place chip other is all =
    opened-uncut (boot_run place (rested_boot chip)).value.step chip.bus.kept (stepped place chip) other
    (boot_run-OnlyMemory place (rested_boot chip) is).kept all

booted-cut :
    (writes : ℕ) (place : Place) (chip : State) (other : List ℕ) → IsPlace place → chip.bus.budget ≡ Some writes →
    AgreeWhereOpened chip.bus.kept (booted place chip).bus.kept (booted place chip).bus.memory other
unfolding owned boot_turn
booted-cut writes place chip other is cuts =
    opened-cut writes (boot_run place (rested_boot chip)).value.step chip.bus.kept (stepped place chip) other
    (boot_run-OnlyMemory place (rested_boot chip) is).kept
    ((boot_run-KeepsFacts place (rested_boot chip)).budget ∙ cuts)

-- the stages of two chips when the boot owns the bus
record BootsAgree (power : Power) (one other : Owner) (a b : State) : Type 0 where
  pub items : stages_items power (stages_by power a one) ≡ stages_items power (stages_by power b other)
  pub bytes :
      All (OpensAlike (stages_by power a one).after.bus.memory (stages_by power b other).after.bus.memory)
      (stages_items power (stages_by power a one))

steps-same :
    (power : Power) (place : Place) (a b : State) → is_private a ≡ false → is_private b ≡ false →
    BootsAgree power (Boot place) (Boot place) a b →
    items_of_step power place a ≡ items_of_step power place b
steps-same power place a b public_a public_b agree =
    sym (step-items power place a public_a) ∙ agree.items ∙ step-items power place b public_b

tell-uncut :
    (place : Place) (a b : State) → IsPlace place → is_private a ≡ false → is_private b ≡ false →
    BootsAgree On (Boot place) (Boot place) a b → TellAlike On place a b
tell-uncut place a b is public_a public_b agree =
    let x : State = booted place a in
    let y : State = booted place b in
    let items : List Item = stages_items On (stages_by On a (Boot place)) in
    let first : All (OpensAlike x.bus.memory (reset y).bus.memory) items =
    subst (λ memory. All (OpensAlike memory (reset y).bus.memory) items) (reset-memory x) agree.bytes in
    let both : All (OpensAlike x.bus.memory y.bus.memory) items =
    subst (λ memory. All (OpensAlike x.bus.memory memory) items) (reset-memory y) first in
    record {
      items = steps-same On place a b public_a public_b agree;
      bytes =
          booted-uncut place a y.bus.memory is
          (subst (λ items. All (OpensAlike x.bus.memory y.bus.memory) items) (step-items On place a public_a) both);
    }

tell-cut :
    (writes : ℕ) (place : Place) (a b : State) → IsPlace place → is_private a ≡ false → is_private b ≡ false →
    a.bus.budget ≡ Some writes → BootsAgree (Cut writes) (Boot place) (Boot place) a b →
    TellAlike (Cut writes) place a b
tell-cut writes place a b is public_a public_b cuts agree = record {
  items = steps-same (Cut writes) place a b public_a public_b agree;
  bytes = booted-cut writes place a (booted place b).bus.memory is cuts;
}

-- ---- the turn of the owner of the bus

record TurnsBoth (one other : Owner) (a b : State) : Type 0 where
  pub chips : LookAlike (owned one a).chip (owned other b).chip
  pub public : is_private a ≡ false → ComputeAlike (owned one a).chip (owned other b).chip
  pub lines :
      turn_lines a.halted (step_owned one a) (owned one a).chip
      ≡ turn_lines b.halted (step_owned other b) (owned other b).chip

-- a turn of the processor in private phase, or one that leaves the chips alike
data Turning (a b : State) : Type 0 where
  IsPrivate : IsPrivateTurn a → Turning a b
  IsPublic : TurnsBoth (owner_of a) (owner_of b) a b → Turning a b

both-turn :
    (owner : Owner) (a b : State) → owner_of a ≡ owner → owner_of b ≡ owner → TurnsAlike owner a b →
    Turning a b
both-turn owner a b owns_a owns_b alike =
    let same : TurnsBoth owner owner a b =
    record { chips = alike.chips; public = alike.public; lines = alike.lines } in
    IsPublic
    (subst (λ other. TurnsBoth (owner_of a) other a b) (sym owns_b)
    (subst (λ one. TurnsBoth one owner a b) (sym owns_a) same))

-- two chips when the owner of the bus acts, with power
record AreReady (a b : State) : Type 0 where
  pub first : IsReady a
  pub second : IsReady b
  pub powered : a.powered ≡ true
  pub alike : LookAlike a b

turning :
    (power : Power) (a b : State) → AreReady a b →
    ((place : Place) → a.boot ≡ Some place → owner_of a ≡ Boot place → TellAlike power place a b) → Turning a b
unfolding owner_of
turning power a b are tells = by_boot a.boot a.second_tick (due (a.bus.units).dma) refl refl
  where
    owners : owner_of a ≡ owner_of b
    owners = seen-owner a b are.alike.public

    up : a.boot ≡ None → is_up a ≡ true
    up none = ap (λ powered. powered && is_none a.boot) are.powered ∙ ap is_none none

    by_phase : (private : Bool) → is_private a ≡ private → a.boot ≡ None → owner_of a ≡ Processor → Turning a b
    by_phase true private none owns = IsPrivate (record { private = private; owner = owns })
    by_phase false public none owns =
        both-turn Processor a b owns (sym owners ∙ owns)
        (public_turns_see_public a b are.first (up none) public are.alike)

    by_boot :
        (boot : Option Place) (second : Bool) (channel : Option ℕ) → a.boot ≡ boot →
        owner_of a ≡ owner_by boot second channel → Turning a b
    by_boot (Some place) second channel boot owns =
        both-turn (Boot place) a b owns (sym owners ∙ owns)
        (boot_steps_see_public power place a b are.first boot are.alike (tells place boot owns))
    by_boot None true channel boot owns =
        both-turn SecondTick a b owns (sym owners ∙ owns)
        (transfers_see_public SecondTick a b tt are.first (up boot) are.alike)
    by_boot None false (Some channel) boot owns =
        both-turn (Transfer channel) a b owns (sym owners ∙ owns)
        (transfers_see_public (Transfer channel) a b tt are.first (up boot) are.alike)
    by_boot None false None boot owns = by_phase (is_private a) refl boot owns

-- the boot's step tells what its items do
boots-agree :
    (power : Power) (place : Place) (a b : State) → owner_of a ≡ Boot place → owner_of b ≡ Boot place →
    BootsAgree power (owner_of a) (owner_of b) a b → BootsAgree power (Boot place) (Boot place) a b
boots-agree power place a b owns_a owns_b agree =
    subst (λ other. BootsAgree power (Boot place) other a b) owns_b
    (subst (λ one. BootsAgree power one (owner_of b) a b) owns_a agree)

-- ---- a tick whose power is on

-- a tick in which the turn and the reset show the same, and which ends alike
uncut-end :
    (a b : State) →
    turn_lines a.halted (step_owned (owner_of a) a) (turned a)
    ≡ turn_lines b.halted (step_owned (owner_of b) b) (turned b) →
    EndAlike (stages_from On a) (stages_from On b) → StagesEnd On On a b
uncut-end a b lines ends =
    let rest : List TraceItem = restart_lines (step_owned (owner_of a) a) (taken_cause (turned a)) (reset (turned a)) in
    record {
      public = ends.public;
      lines =
          ap (λ first. first ++ rest) lines
          ∙ ap (λ rest. turn_lines b.halted (step_owned (owner_of b) b) (turned b) ++ rest) ends.lines;
      pins = ends.pins;
    }

uncut-StagesEnd :
    (a b : State) → AreReady a b → StagesAgree On On a b → StagesEnd On On a b
uncut-StagesEnd a b are agree = by_turn (turning On a b are tells)
  where
    same : seen a ≡ seen b
    same = are.alike.public

    tells : (place : Place) → a.boot ≡ Some place → owner_of a ≡ Boot place → TellAlike On place a b
    tells place boot owns =
        let public : is_private a ≡ false = booting-public place a boot in
        tell-uncut place a b (subst (λ boot. IfSome boot IsPlace) boot are.first.place) public
        (sym (seen-private a b same) ∙ public)
        (boots-agree On place a b owns (sym (seen-owner a b same) ∙ owns)
        (record { items = agree.items; bytes = agree.bytes }))

    by_phase :
        (private : Bool) → is_private a ≡ private → TurnsBoth (owner_of a) (owner_of b) a b →
        EndAlike (stages_from On a) (stages_from On b)
    by_phase true private turns =
        private_ticks_end_alike a b are.first are.second private (sym (seen-private a b same) ∙ private)
        (public_parts_are_left (turned a) (turned b) turns.chips.public) agree.items
    by_phase false public turns =
        public_ticks_end_alike a b same
        (record { public = turns.chips.public; registers = (turns.public public).registers })

    by_turn : Turning a b → StagesEnd On On a b
    by_turn (IsPrivate turn) =
        let other : IsPrivateTurn b = seen-IsPrivateTurn a b same turn in
        uncut-end a b
        (private_turn_shows_nothing a turn ∙ sym (private_turn_shows_nothing b other))
        (private_ticks_end_alike a b are.first are.second turn.private other.private
        (private_turns_agree a b are.first turn same agree.items) agree.items)
    by_turn (IsPublic turns) = uncut-end a b turns.lines (by_phase (is_private a) refl turns)

-- ---- a tick that is cut

cut-StagesEnd :
    (writes : ℕ) (a b : State) → AreReady a b → a.bus.budget ≡ Some writes →
    StagesAgree (Cut writes) (Cut writes) a b → StagesEnd (Cut writes) (Cut writes) a b
cut-StagesEnd writes a b are cuts agree =
    let ends : CutAlike writes writes (stages_from (Cut writes) a) (stages_from (Cut writes) b) =
    cuts_end_alike writes writes a b (by_turn (turning (Cut writes) a b are tells)) in
    record { public = ends.public; lines = ends.lines; pins = ends.pins }
  where
    same : seen a ≡ seen b
    same = are.alike.public

    tells : (place : Place) → a.boot ≡ Some place → owner_of a ≡ Boot place → TellAlike (Cut writes) place a b
    tells place boot owns =
        let public : is_private a ≡ false = booting-public place a boot in
        tell-cut writes place a b (subst (λ boot. IfSome boot IsPlace) boot are.first.place) public
        (sym (seen-private a b same) ∙ public) cuts
        (boots-agree (Cut writes) place a b owns (sym (seen-owner a b same) ∙ owns)
        (record { items = agree.items; bytes = agree.bytes }))

    by_turn : Turning a b → lasting (turned a) ≡ lasting (turned b)
    by_turn (IsPrivate turn) = cut_turns_agree writes writes a b are.first turn same agree.items
    by_turn (IsPublic turns) = public_parts_last (turned a) (turned b) turns.chips.public

-- ---- a tick without power

seen-pins : (a b : State) → seen a ≡ seen b → pins_of a ≡ pins_of b
seen-pins a b same = pins-public a ∙ ap (λ (s : Seen). pins_of s.chip) same ∙ sym (pins-public b)

off-StagesEnd : (a b : State) → seen a ≡ seen b → StagesEnd Off Off a b
unfolding owned
off-StagesEnd a b same = record { public = same; lines = refl; pins = seen-pins a b same }

-- ---- whatever the power

-- power is on when the owner of the bus acts, but for a tick without it
abbrev HasPower : Power → State → Type 0
HasPower Off chip = Unit {0}
HasPower power chip = chip.powered ≡ true

clocked-powered : (boot : Option Place) (chip : State) → (clocked boot chip).powered ≡ chip.powered
clocked-powered (Some place) chip = refl
clocked-powered None chip = refl

on-powered :
    (events : List Event) (chip : State) → IsOn chip →
    (clocked (after_events events chip).boot (after_events events chip)).powered ≡ true
on-powered events chip (Runs is) =
    let now : State = after_events events chip in
    clocked-powered now.boot now ∙ (events-IsRunning events chip is).powered
on-powered events chip (Boots place is) =
    let now : State = after_events events chip in
    clocked-powered now.boot now ∙ (events-IsBooting place events chip is).powered

by-HasPower :
    (power : Power) (bench : Stimulus) (chip : State) → IsSound chip →
    HasPower power (stages power (stimulated bench (powered power chip))).ready
unfolding stages timed powered stimulated
by-HasPower On bench chip is =
    on-powered (on_tick (powered_on (begun_by On chip)).tick bench.events) (powered_on (begun_by On chip))
    (powered_on-IsOn None chip is)
by-HasPower (Cut writes) bench chip is =
    on-powered (on_tick (powered_on (begun_by (Cut writes) chip)).tick bench.events)
    (powered_on (begun_by (Cut writes) chip)) (powered_on-IsOn (Some writes) chip is)
by-HasPower Off bench chip is = tt

ready-HasPower :
    (bench : Stimulus) (chip : State) → IsSound chip → HasPower (power_of bench chip) (ready_of bench chip)
unfolding moments
ready-HasPower bench chip is = by-HasPower (power_of bench chip) bench chip is

by-power :
    (power : Power) (a b : State) → IsReady a → IsReady b → HasPower power a → LookAlike a b →
    a.bus.budget ≡ budget_of power → StagesAgree power power a b → StagesEnd power power a b
by-power On a b ready_a ready_b has alike budget agree =
    uncut-StagesEnd a b (record { first = ready_a; second = ready_b; powered = has; alike = alike }) agree
by-power (Cut writes) a b ready_a ready_b has alike budget agree =
    cut-StagesEnd writes a b (record { first = ready_a; second = ready_b; powered = has; alike = alike }) budget agree
by-power Off a b ready_a ready_b has alike budget agree = off-StagesEnd a b alike.public

-- ---- the law

-- the number of the tick goes up, and what stands within a tick alone is dropped
abbrev seen_behind : ℕ → Seen → Seen
seen_behind tick seen = record seen {
  chip = record (seen.chip) { bus = tick_ended seen.chip.bus; tick = tick + 1 };
}

behind-seen : (tick : ℕ) (chip : State) → seen (behind_tick tick chip) ≡ seen_behind tick (seen chip)
unfolding is_private
behind-seen tick chip = refl

stages-agree :
    (bench : Stimulus) (a b : State) → ItemsAgree bench a b →
    StagesAgree (power_of bench a) (power_of bench b) (ready_of bench a) (ready_of bench b)
unfolding items_of ticked moments stages
stages-agree bench a b agree = record { items = agree.items; bytes = agree.bytes }

stages-AgreeBehind :
    (bench : Stimulus) (a b : State) → seen a ≡ seen b → BeginAlike bench a b →
    StagesEnd (power_of bench a) (power_of bench b) (ready_of bench a) (ready_of bench b) →
    AgreeBehind bench a b
unfolding lines_of ticked moments stages
stages-AgreeBehind bench a b same begins ends =
    let x : State = (stages_from (power_of bench a) (ready_of bench a)).after in
    let y : State = (stages_from (power_of bench b) (ready_of bench b)).after in
    let shown : List TraceItem → List TraceItem → List TraceItem → List TraceItem → List TraceItem =
    λ power stimulus stage pins. power ++ stimulus ++ stage ++ pins in
    let power : List TraceItem = power_lines (power_of bench a) a in
    let stimulus : List TraceItem = stimulus_lines bench (supplied bench a) in
    let stage : List TraceItem = stage_lines (power_of bench a) (stages_from (power_of bench a) (ready_of bench a)) in
    let pins : List TraceItem = pin_lines (pins_of a) (pins_of x) in
    record {
      public =
          behind-seen a.tick x
          ∙ ap (seen_behind a.tick) ends.public
          ∙ ap (λ (s : Seen). seen_behind s.chip.tick (seen y)) same
          ∙ sym (behind-seen b.tick y);
      lines =
          ap (λ power. shown power stimulus stage pins) begins.power_lines
          ∙ ap (λ stimulus. shown (power_lines (power_of bench b) b) stimulus stage pins) begins.stimulus_lines
          ∙ ap (λ stage. shown (power_lines (power_of bench b) b) (stimulus_lines bench (supplied bench b)) stage pins)
          ends.lines
          ∙ ap
          (shown (power_lines (power_of bench b) b) (stimulus_lines bench (supplied bench b))
          (stage_lines (power_of bench b) (stages_from (power_of bench b) (ready_of bench b))))
          (ap (λ before. pin_lines before (pins_of x)) (seen-pins a b same)
          ∙ ap (pin_lines (pins_of b)) ends.pins);
    }

pub one_tick_agrees : OneTickAgrees
one_tick_agrees bench a b sound_a sound_b same agree =
    let power : Power = power_of bench a in
    let x : State = ready_of bench a in
    let y : State = ready_of bench b in
    let begins : BeginAlike bench a b = beginnings_see_public bench a b sound_a sound_b same in
    stages-AgreeBehind bench a b same begins
    (subst (λ other. StagesAgree power other x y → StagesEnd power other x y) begins.power
    (by-power power x y (ticks_make_ready bench a sound_a) (ticks_make_ready bench b sound_b)
    (ready-HasPower bench a sound_a) begins.chips (ticks_have_budgets bench a))
    (stages-agree bench a b agree))
