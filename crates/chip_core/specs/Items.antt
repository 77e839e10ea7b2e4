-- What a tick gives away of what is sealed and of what stays secret: its items, in their order.
use Rattle.std.specs.Prelude.{ℕ, ◌==◌, ◌&&◌, not, Bool, if◌then◌else◌, List, [], ◌∷◌, ◌++◌, Option, Some, None, bit_and, filter, map, slice_index}
use Rattle.std.specs.List.{range_with_len}
use Rattle.chip_words.specs.declared.accesses.Access.{Access}
use Rattle.chip_words.specs.declared.accesses.Kind.{Kind}
use Rattle.chip_words.specs.declared.accesses.Kind.TheVariants as kind
use Rattle.chip_words.specs.declared.seals.Seal.{Seal}
use Rattle.chip_words.specs.Encap.{seal}
use Rattle.chip_words.specs.Registers.{SR}
use Rattle.chip_words.specs.Seals.{is_in}
use Rattle.ip_encap.specs.declared.intervals.Interval.{Interval}
use Rattle.ip_encap.specs.Opened.{LiesInMainFram, opened}
use Rattle.boot_code.specs.declared.boots.Act.TheVariants as act
use Rattle.boot_code.specs.declared.boots.BootStep.{BootStep}
use Rattle.boot_code.specs.declared.boots.BootStep.TheVariants.{Going, Done}
use Rattle.power_schedule.specs.declared.powers.Power.{Power}
use Rattle.power_schedule.specs.declared.powers.Power.TheVariants as power
use Rattle.stimulus.specs.Stimulus.{Stimulus}
use Rattle.trace_print.specs.declared.releases.Item.{Item}
use Rattle.trace_print.specs.declared.releases.Item.TheVariants as item
use Rattle.trace_print.specs.Releases.{IsReleasable}
use Rattle.chip_core.specs.declared.items.Start.{Start}
use Rattle.chip_core.specs.declared.steps.Step.{Step}
use Rattle.chip_core.specs.Phase.{is_private}
use Rattle.chip_core.specs.State.{State}
use Rattle.chip_core.specs.Tick.{Stages, moments}

-- When the bus owner acts.

-- the bits of SR that switch clocks and the processor: CPUOFF, OSCOFF, SCG0 and SCG1
abbrev pub power_bits : State → ℕ
power_bits chip = bit_and (slice_index chip.registers SR) 0xF0

-- what items are told by: whether the phase is private, the seal, the addresses that stay secret, and those bits
abbrev pub start_of : State → Start
start_of chip = record {
  private = is_private chip;
  seal = seal chip.bus.units.encap;
  kept = chip.bus.kept;
  power = power_bits chip;
}

-- A private step: an instruction or an entry that the processor makes in private phase.

-- an access of it, by its kind
abbrev pub item_of_kind : Kind → Access → Item
item_of_kind kind.Fetch access = item.Fetch access.at
item_of_kind kind.Read access = item.Read access.at access.size
item_of_kind kind.Write access = item.Write access.at access.size access.value

abbrev pub access_item : Access → Item
access_item access = item_of_kind access.kind access

-- it is shown where it was made and its address isn't sealed
abbrev pub is_shown : Seal → Access → Bool
is_shown seal access = access.done && not (is_in seal access.at)

abbrev pub access_items : Seal → List Access → List Item
access_items seal accesses = map access_item (filter (is_shown seal) accesses)

-- the vector of the interrupt that was entered
abbrev pub entry_items : Option ℕ → List Item
entry_items (Some vector) = item.Entry vector ∷ []
entry_items None = []

-- the places of its violations, all together
abbrev pub flag_items : ℕ → List Item
flag_items noted = if noted == 0 then [] else item.Flags noted ∷ []

-- the least cause that it requested
abbrev pub reset_items : Option ℕ → List Item
reset_items (Some cause) = item.Reset cause ∷ []
reset_items None = []

-- that it changed the bits of SR that switch clocks and the processor: the new ones
abbrev pub power_items : ℕ → ℕ → List Item
power_items before after = if before == after then [] else item.Power after ∷ []

-- all of a private step, from what stood when the bus owner acted, and the chip behind its turn. In a tick whose power is
-- cut there are accesses alone
abbrev pub whole_step_items : Start → Step → State → List Item
whole_step_items start step after =
    entry_items step.vector
    ++ access_items start.seal after.bus.accesses
    ++ flag_items step.noted
    ++ reset_items step.cause
    ++ power_items start.power (power_bits after)

abbrev pub private_step_items : Power → Start → Step → State → List Item
private_step_items (power.Cut writes) start step after = access_items start.seal after.bus.accesses
private_step_items power start step after = whole_step_items start step after

abbrev pub step_items : Power → Start → Option Step → State → List Item
step_items power start (Some step) after = if start.private then private_step_items power start step after else []
step_items power start None after = []

-- A boot.

-- a word of the structure that it read
abbrev pub struct_items : Option BootStep → List Item
struct_items (Some (Going (act.Struct index word))) = item.Struct index word ∷ []
struct_items boot = []

abbrev pub opened_item : Interval → Item
opened_item interval = item.Opened interval.low interval.high

-- the addresses that stayed secret and do no longer, since it ended
abbrev pub opened_items : Power → Option BootStep → Seal → Seal → List Item
opened_items power.On (Some (Done borders)) before after = map opened_item (opened before after)
opened_items power boot before after = []

abbrev pub boot_items : Power → Start → Option BootStep → State → List Item
boot_items power start boot after =
    struct_items boot ++ opened_items power boot start.kept after.bus.kept

-- The way out: the phase was private when the bus owner acted, and at the end of the tick, with power on, it isn't.
abbrev pub has_left : Start → State → Bool
has_left start after = start.private && after.powered && not (is_private after)

-- R0 to R15
unfoldable pub all_registers : List ℕ → List ℕ
all_registers registers = map (slice_index registers) (range_with_len 0 16)

abbrev pub exit_items : Start → State → List Item
exit_items start after =
    if has_left start after then item.Exit (all_registers after.registers) after.busy ∷ [] else []

-- an item has no more than its lines have room for, and an interval that was opened lies in main FRAM
abbrev pub IsItem : Item → Type 0
IsItem (item.Opened low high) = LiesInMainFram (record { low = low; high = high })
IsItem given = IsReleasable given

-- the items of the stages behind the stimulus
abbrev pub stages_items : Power → Stages → List Item
stages_items power stages =
    step_items power (start_of stages.ready) stages.turn.step stages.turn.chip
    ++ boot_items power (start_of stages.ready) stages.boot stages.turn.chip
    ++ exit_items (start_of stages.ready) stages.after

-- the items of the chip's next tick
unfoldable pub items_of : Stimulus → State → List Item
items_of bench chip = stages_items (moments bench chip).power (moments bench chip).stages
