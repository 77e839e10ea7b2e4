-- What the items of a tick tell, read back from them.
use Rattle.std.proofs.Common.{◌≡◌, ◌==◌, ◌++◌, ◌&&◌, not, ℕ, List, [], ◌∷◌, Bool, true, false, arith, refl, ap, sym, ◌∙◌, subst, if◌then◌else◌}
use Rattle.std.specs.Prelude.{Option, Some, None, filter, map}
use Rattle.std.proofs.lemmas.Bool.Decides.{nat_tests}
use Rattle.std.proofs.lemmas.List.{append-nil}
use Rattle.chip_words.specs.declared.sizes.Size.{Size}
use Rattle.chip_words.specs.declared.sizes.Size.TheVariants.{Word}
use Rattle.chip_words.specs.declared.accesses.Access.{Access}
use Rattle.chip_words.specs.declared.accesses.Agent.{Agent}
use Rattle.chip_words.specs.declared.accesses.Agent.TheVariants.{Cpu, Entry, Dma, Debug, Boot}
use Rattle.chip_words.specs.declared.accesses.Kind.{Kind}
use Rattle.chip_words.specs.declared.accesses.Kind.TheVariants as kind
use Rattle.chip_words.specs.declared.seals.Seal.{Seal}
use Rattle.chip_words.specs.Access.{access, as_listed}
use Rattle.chip_words.specs.BusPart.{BusPart}
use Rattle.chip_words.specs.Map.{aligned}
use Rattle.chip_words.specs.Script.{Ask, Return, Script, run}
use Rattle.chip_words.specs.Seals.{is_in}
use Rattle.access_laws.specs.Locality.{is_absent}
use Rattle.access_laws.specs.Replay.{is_released, released, told}
use Rattle.access_laws.proofs.Courses.{chosen}
use Rattle.access_laws.proofs.Staying.{access-list}
use Rattle.boot_code.specs.declared.boots.Act.TheVariants as act
use Rattle.boot_code.specs.declared.boots.BootStep.{BootStep}
use Rattle.boot_code.specs.declared.boots.BootStep.TheVariants.{Going, Done}
use Rattle.ip_encap.specs.declared.intervals.Interval.{Interval}
use Rattle.ip_encap.specs.Opened.{opened}
use Rattle.power_schedule.specs.declared.powers.Power.{Power}
use Rattle.power_schedule.specs.declared.powers.Power.TheVariants as power
use Rattle.trace_print.specs.declared.releases.Item.{Item}
use Rattle.trace_print.specs.declared.releases.Item.TheVariants as item
use Rattle.chip_core.specs.declared.items.Start.{Start}
use Rattle.chip_core.specs.declared.steps.Step.{Step}
use Rattle.chip_core.specs.Items.{access_item, access_items, all_registers, boot_items, entry_items, exit_items, flag_items, has_left, is_shown, item_of_kind, opened_item, opened_items, power_bits, power_items, private_step_items, reset_items, stages_items, start_of, step_items, struct_items, whole_step_items}
use Rattle.chip_core.specs.Phase.{is_private}
use Rattle.chip_core.specs.State.{State}
use Rattle.chip_core.specs.Tick.{Stages}

-- ---- what a list of items tells

pub record Way : Type 0 where
  pub registers : List ℕ
  pub busy : ℕ

pub record Told : Type 0 where
  pub vector : Option ℕ
  pub accesses : List Access
  pub flags : ℕ
  pub cause : Option ℕ
  pub power : Option ℕ
  pub exit : Option Way

abbrev pub listed : Kind → ℕ → Size → ℕ → Bool → Access
listed kind at size value done = record { kind = kind; at = at; size = size; value = value; done = done }

-- an access that an item tells whole
abbrev pub made : Kind → ℕ → Size → ℕ → Access
made kind at size value = listed kind at size value true

abbrev pub with_access : Access → Told → Told
with_access access told = record told { accesses = access ∷ told.accesses }

-- an item before others
abbrev pub tells : Item → Told → Told
tells (item.Entry vector) told = record told { vector = Some vector }
tells (item.Fetch at) told = with_access (made kind.Fetch at Word 0) told
tells (item.Read at size) told = with_access (made kind.Read at size 0) told
tells (item.Write at size value) told = with_access (made kind.Write at size value) told
tells (item.Flags bits) told = record told { flags = bits }
tells (item.Reset cause) told = record told { cause = Some cause }
tells (item.Power bits) told = record told { power = Some bits }
tells (item.Struct index word) told = told
tells (item.Opened low high) told = told
tells (item.Exit registers busy) told = record told { exit = Some (record { registers = registers; busy = busy }) }

abbrev pub told_before : List Item → Told → Told
told_before [] told = told
told_before (item ∷ items) told = tells item (told_before items told)

-- the way out alone
abbrev pub only : Option Way → Told
only exit = record { vector = None; accesses = []; flags = 0; cause = None; power = None; exit = exit }

abbrev pub told_by : List Item → Told
told_by items = told_before items (only None)

pub told-append : (xs ys : List Item) (told : Told) → told_before (xs ++ ys) told ≡ told_before xs (told_before ys told)
told-append [] ys told = refl
told-append (x ∷ xs) ys told = ap (tells x) (told-append xs ys told)

-- ---- accesses

-- each word of an instruction is taken as a word
abbrev pub IsFetch : Kind → Size → Type 0
IsFetch kind.Fetch size = size ≡ Word
IsFetch kind size = Unit {0}

abbrev pub AreFetches : List Access → Type 0
AreFetches [] = Unit {0}
AreFetches (access ∷ accesses) = IsFetch access.kind access.size × AreFetches accesses

AreFetches-append : (xs ys : List Access) → AreFetches xs → AreFetches ys → AreFetches (xs ++ ys)
AreFetches-append [] ys p q = q
AreFetches-append (x ∷ xs) ys p q = (p.0, AreFetches-append xs ys p.1 q)

as_listed-AreFetches :
    (who : Agent) (kind : Kind) (at : ℕ) (size : Size) (value : ℕ) (done : Bool) → IsFetch kind size →
    AreFetches (as_listed who kind at size value done)
as_listed-AreFetches Debug kind at size value done is = tt
as_listed-AreFetches (Cpu ia) kind at size value done is = (is, tt)
as_listed-AreFetches Entry kind at size value done is = (is, tt)
as_listed-AreFetches Dma kind at size value done is = (is, tt)
as_listed-AreFetches Boot kind at size value done is = (is, tt)

abbrev pub FetchesWords : {A : Type 0} → Script A → Type 0
FetchesWords (Return value) = Unit {0}
FetchesWords (Ask kind at size value rest) = IsFetch kind size × ((answer : ℕ) → FetchesWords (rest answer))

pub run-AreFetches :
    {A : Type 0} (who : Agent) (step : Script A) (part : BusPart) → FetchesWords step → AreFetches part.accesses →
    AreFetches (run who step part).part.accesses
run-AreFetches who (Return value) part words are = are
run-AreFetches who (Ask kind at size value rest) part words are =
    let next = access who kind at size value part in
    run-AreFetches who (rest next.answer) next.part (words.1 next.answer)
    (subst AreFetches (sym (access-list who kind at size value part))
    (AreFetches-append part.accesses _ are
    (as_listed-AreFetches who kind (aligned size at) size next.answer (not (is_absent kind part)) words.0)))

-- what an access that was made tells
tells-access :
    (done : Bool) (kind : Kind) (at : ℕ) (size : Size) (value : ℕ) (t : Told) → IsFetch kind size →
    tells (item_of_kind kind (listed kind at size value done)) t ≡ with_access (told (made kind at size value)) t
tells-access done kind.Fetch at size value t is = ap (λ size. with_access (made kind.Fetch at size 0) t) (sym is)
tells-access done kind.Read at size value t is = refl
tells-access done kind.Write at size value t is = refl

-- as many accesses before others
abbrev pub with_accesses : List Access → Told → Told
with_accesses accesses told = record told { accesses = accesses ++ told.accesses }

told-accesses :
    (seal : Seal) (accesses : List Access) (t : Told) → AreFetches accesses →
    told_before (access_items seal accesses) t ≡ with_accesses (released seal accesses) t
told-accesses seal [] t are = refl
told-accesses seal (entry ∷ accesses) t are =
    by_tests (told-accesses seal accesses t are.1) entry.done (is_in seal entry.at) refl
  where
    more : List Access
    more = filter (is_shown seal) accesses

    kept : List Access
    kept = filter (is_released seal) accesses

    first : Access
    first = made entry.kind entry.at entry.size entry.value

    by_tests :
        told_before (access_items seal accesses) t ≡ with_accesses (released seal accesses) t →
        (done inside : Bool) → entry.done ≡ done →
        told_before (map access_item (if done && not inside then entry ∷ more else more)) t
        ≡ with_accesses (map told (if not inside && done then entry ∷ kept else kept)) t
    by_tests rest true true e = rest
    by_tests rest true false e =
        ap (tells (access_item entry)) rest
        ∙ tells-access entry.done entry.kind entry.at entry.size entry.value (with_accesses (released seal accesses) t) are.0
        ∙ ap (λ done. with_access (record (told entry) { done = done }) (with_accesses (released seal accesses) t))
        (sym e)
    by_tests rest false true e = rest
    by_tests rest false false e = rest

-- ---- a private step

abbrev pub power_told : ℕ → ℕ → Option ℕ
power_told before after = if before == after then None else Some after

-- what a turn's step tells, and a turn without one
abbrev pub told_of_step : Start → Option Step → State → Told
told_of_step start (Some step) after = record {
  vector = step.vector;
  accesses = released start.seal after.bus.accesses;
  flags = step.noted;
  cause = step.cause;
  power = power_told start.power (power_bits after);
  exit = None;
}
told_of_step start None after = only None

abbrev pub with_exit : Option Way → Told → Told
with_exit exit told = record told { exit = exit }

told-power :
    (before after : ℕ) (exit : Option Way) →
    told_before (power_items before after) (only exit) ≡ record (only exit) { power = power_told before after }
told-power before after exit =
    elim (before == after) as
    (λ v. told_before (if v then [] else item.Power after ∷ []) (only exit)
    ≡ record (only exit) { power = (if v then None else Some after) }) [
      | true ↦ refl
      | false ↦ refl
    ]

told-reset :
    (cause power : Option ℕ) (exit : Option Way) →
    told_before (reset_items cause) (record (only exit) { power = power })
    ≡ record (only exit) { cause = cause; power = power }
told-reset (Some cause) power exit = refl
told-reset None power exit = refl

told-flags :
    (noted : ℕ) (t : Told) → t.flags ≡ 0 → told_before (flag_items noted) t ≡ record t { flags = noted }
told-flags noted t none = by_test (noted == 0) refl
  where
    by_test :
        (v : Bool) → (noted == 0) ≡ v →
        told_before (if v then [] else item.Flags noted ∷ []) t ≡ record t { flags = noted }
    by_test true e = ap (λ flags. record t { flags = flags }) (none ∙ sym (zero-noted e))
      where
        zero-noted : (noted == 0) ≡ true → noted ≡ 0
        zero-noted e = grind (arith, nat_tests)
    by_test false e = refl

told-entry : (vector : Option ℕ) (t : Told) → t.vector ≡ None → told_before (entry_items vector) t ≡ record t { vector = vector }
told-entry (Some vector) t none = refl
told-entry None t none = ap (λ vector. record t { vector = vector }) none

pub told-whole :
    (start : Start) (step : Step) (after : State) (exit : Option Way) → AreFetches after.bus.accesses →
    told_before (whole_step_items start step after) (only exit) ≡ with_exit exit (told_of_step start (Some step) after)
told-whole start step after exit are =
    let entry : List Item = entry_items step.vector in
    let accesses : List Item = access_items start.seal after.bus.accesses in
    let flags : List Item = flag_items step.noted in
    let reset : List Item = reset_items step.cause in
    let changed : List Item = power_items start.power (power_bits after) in
    let powered : Told = record (only exit) { power = power_told start.power (power_bits after) } in
    let caused : Told = record powered { cause = step.cause } in
    let flagged : Told = record caused { flags = step.noted } in
    let list : List Access = released start.seal after.bus.accesses in
    let listed : Told = record flagged { accesses = list } in
    told-append (entry ++ accesses ++ flags ++ reset) changed (only exit)
    ∙ ap (told_before (entry ++ accesses ++ flags ++ reset)) (told-power start.power (power_bits after) exit)
    ∙ told-append (entry ++ accesses ++ flags) reset powered
    ∙ ap (told_before (entry ++ accesses ++ flags)) (told-reset step.cause powered.power exit)
    ∙ told-append (entry ++ accesses) flags caused
    ∙ ap (told_before (entry ++ accesses)) (told-flags step.noted caused refl)
    ∙ told-append entry accesses flagged
    ∙ ap (told_before entry) (told-accesses start.seal after.bus.accesses flagged are)
    ∙ ap (λ list. told_before entry (record flagged { accesses = list })) (append-nil list)
    ∙ told-entry step.vector listed refl

-- ---- a tick

-- the way out, if there is one
abbrev pub way_of : Start → State → Option Way
way_of start after =
    if has_left start after
    then Some (record { registers = all_registers after.registers; busy = after.busy }) else None

told-exit : (start : Start) (after : State) → told_before (exit_items start after) (only None) ≡ only (way_of start after)
told-exit start after =
    elim (has_left start after) as
    (λ v. told_before (if v then item.Exit (all_registers after.registers) after.busy ∷ [] else []) (only None)
    ≡ only (if v then Some (record { registers = all_registers after.registers; busy = after.busy }) else None)) [
      | true ↦ refl
      | false ↦ refl
    ]

told-struct : (boot : Option BootStep) (t : Told) → told_before (struct_items boot) t ≡ t
told-struct (Some (Going (act.Struct index word))) t = refl
told-struct boot t = refl

told-intervals : (intervals : List Interval) (t : Told) → told_before (map opened_item intervals) t ≡ t
told-intervals [] t = refl
told-intervals (interval ∷ intervals) t = told-intervals intervals t

told-opened :
    (power : Power) (boot : Option BootStep) (before after : Seal) (t : Told) →
    told_before (opened_items power boot before after) t ≡ t
told-opened power.On (Some (Done borders)) before after t = told-intervals (opened before after) t
told-opened power boot before after t = refl

told-boot :
    (power : Power) (start : Start) (boot : Option BootStep) (after : State) (t : Told) →
    told_before (boot_items power start boot after) t ≡ t
told-boot power start boot after t =
    let opened : List Item = opened_items power boot start.kept after.bus.kept in
    told-append (struct_items boot) opened t
    ∙ told-struct boot (told_before opened t)
    ∙ told-opened power boot start.kept after.bus.kept t

-- what follows the step's items
told-behind :
    (power : Power) (stages : Stages) →
    told_by (stages_items power stages)
    ≡ told_before (step_items power (start_of stages.ready) stages.turn.step stages.turn.chip)
    (only (way_of (start_of stages.ready) stages.after))
told-behind power stages =
    let start : Start = start_of stages.ready in
    let step : List Item = step_items power start stages.turn.step stages.turn.chip in
    let boot : List Item = boot_items power start stages.boot stages.turn.chip in
    let exit : List Item = exit_items start stages.after in
    told-append (step ++ boot) exit (only None)
    ∙ ap (told_before (step ++ boot)) (told-exit start stages.after)
    ∙ told-append step boot (only (way_of start stages.after))
    ∙ ap (told_before step) (told-boot power start stages.boot stages.turn.chip (only (way_of start stages.after)))

-- the words of a step were taken as words
abbrev pub StepFetches : Option Step → State → Type 0
StepFetches (Some step) after = AreFetches after.bus.accesses
StepFetches None after = Unit {0}

told-step :
    (start : Start) (step : Option Step) (after : State) (exit : Option Way) → start.private ≡ true →
    StepFetches step after →
    told_before (step_items power.On start step after) (only exit) ≡ with_exit exit (told_of_step start step after)
told-step start (Some step) after exit private are =
    ap (λ items. told_before items (only exit)) (chosen start.private (whole_step_items start step after) [] private)
    ∙ told-whole start step after exit are
told-step start None after exit private are = refl

-- the items of a tick that isn't cut and that finds private phase
pub told-tick :
    (stages : Stages) → is_private stages.ready ≡ true → StepFetches stages.turn.step stages.turn.chip →
    told_by (stages_items power.On stages)
    ≡ with_exit (way_of (start_of stages.ready) stages.after)
    (told_of_step (start_of stages.ready) stages.turn.step stages.turn.chip)
told-tick stages private are =
    told-behind power.On stages
    ∙ told-step (start_of stages.ready) stages.turn.step stages.turn.chip _ private are

-- in a tick that is cut there are accesses alone
abbrev pub released_of : Start → Option Step → State → List Access
released_of start (Some step) after = released start.seal after.bus.accesses
released_of start None after = []

told-cut_step :
    (writes : ℕ) (start : Start) (step : Option Step) (after : State) (exit : Option Way) → start.private ≡ true →
    StepFetches step after →
    told_before (step_items (power.Cut writes) start step after) (only exit)
    ≡ record (only exit) { accesses = released_of start step after }
told-cut_step writes start (Some step) after exit private are =
    let list : List Access = released start.seal after.bus.accesses in
    ap (λ items. told_before items (only exit))
    (chosen start.private (private_step_items (power.Cut writes) start step after) [] private)
    ∙ told-accesses start.seal after.bus.accesses (only exit) are
    ∙ ap (λ list. record (only exit) { accesses = list }) (append-nil list)
told-cut_step writes start None after exit private are = refl

pub told-cut_tick :
    (writes : ℕ) (stages : Stages) → is_private stages.ready ≡ true →
    StepFetches stages.turn.step stages.turn.chip →
    (told_by (stages_items (power.Cut writes) stages)).accesses
    ≡ released_of (start_of stages.ready) stages.turn.step stages.turn.chip
told-cut_tick writes stages private are =
    ap (λ (t : Told). t.accesses)
    (told-behind (power.Cut writes) stages
    ∙ told-cut_step writes (start_of stages.ready) stages.turn.step stages.turn.chip _ private are)
