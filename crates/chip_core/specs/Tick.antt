-- What one tick does to the chip: power, the stimulus, the timers, the owner of the bus, the reset, and the cut.
use Rattle.std.specs.Prelude.{ℕ, ◌+◌, ◌%◌, ◌==◌, ◌&&◌, not, Bool, true, false, if◌then◌else◌, List, [], ◌∷◌, Option, Some, None, slice_index}
use Rattle.chip_words.specs.Bits.{has_bit}
use Rattle.chip_words.specs.Registers.{OSCOFF, SCG1, SR, no_registers, with_register}
use Rattle.chip_words.specs.Causes.{POWER_ON, is_of_bor, least_cause}
use Rattle.chip_words.specs.Units.{units_clocked, units_driven}
use Rattle.bus_fabric.specs.Fabric.{part_at_reset, part_without_power, tick_begun, tick_ended}
use Rattle.stimulus.specs.declared.events.Event.{Event}
use Rattle.stimulus.specs.declared.events.EventAct.{EventAct}
use Rattle.stimulus.specs.declared.events.EventAct.TheVariants.{Pin, Debug}
use Rattle.power_schedule.specs.declared.powers.Power.{Power}
use Rattle.power_schedule.specs.declared.powers.Power.TheVariants.{On, Cut, Off}
use Rattle.power_schedule.specs.Powers.{power_at}
use Rattle.stimulus.specs.Events.{on_tick}
use Rattle.stimulus.specs.Stimulus.{Stimulus}
use Rattle.boot_code.specs.Place.{Place, Start}
use Rattle.chip_core.specs.Boot.{at_reset_vector}
use Rattle.chip_core.specs.Debugger.{after_command}
use Rattle.chip_core.specs.State.{State}
use Rattle.chip_core.specs.declared.owners.Owner.{Owner}
use Rattle.chip_core.specs.declared.owners.Owner.TheVariants.{Nobody}
use Rattle.boot_code.specs.declared.boots.BootStep.{BootStep}
use Rattle.chip_core.specs.Turns.{Turn, owned, owner_of, step_owned}

-- all registers are 0, a boot is next, and what the processor, DMA and the debugger were about to do is dropped
abbrev pub at_rest : State → State
at_rest chip = record chip {
  registers = no_registers;
  busy = 0;
  boot = Some Start;
  dead = false;
  halted = false;
  pending = false;
  second_tick = false;
}

-- a BOR: the peripherals have their values of reset, and a boot starts
abbrev pub after_bor : ℕ → State → State
after_bor cause chip = record (at_rest chip) { bus = part_at_reset true cause chip.bus }

-- in a tick whose power is cut only so many writes are present
abbrev pub budget_of : Power → Option ℕ
budget_of (Cut writes) = Some writes
budget_of power = None

-- no write of the tick is counted yet
abbrev pub begun_by : Power → State → State
begun_by power chip = record chip { bus = tick_begun (budget_of power) chip.bus }

-- where power comes on, the chip is as after a BOR
abbrev pub powered_on : State → State
powered_on chip = if chip.powered then chip else record (after_bor POWER_ON chip) { powered = true }

-- the first stage; power that is cut in this tick was on until then
unfoldable pub powered : Power → State → State
powered Off chip = begun_by Off chip
powered power chip = powered_on (begun_by power chip)

-- an event on a pin sets its external level, and a command of the debugger does what it says
abbrev pub after_event : EventAct → State → State
after_event (Pin port bit level) chip = record chip {
  bus = record (chip.bus) { units = units_driven port bit level (chip.bus.units) };
}
after_event (Debug command) chip = after_command command chip

-- events one after another
abbrev pub after_events : List Event → State → State
after_events [] chip = chip
after_events (event ∷ events) chip = after_events events (after_event event.act chip)

-- the events of the tick, in the order of the bench
unfoldable pub stimulated : Stimulus → State → State
stimulated bench chip = after_events (on_tick chip.tick bench.events) chip

-- SMCLK has an edge in each tick, unless SCG1 is set
abbrev pub smclk_edge : State → Bool
smclk_edge chip = not (has_bit (slice_index chip.registers SR) SCG1)

-- ACLK has an edge in each tick whose number is a multiple of this, unless OSCOFF is set
abbrev pub ticks_per_aclk : ℕ
ticks_per_aclk = 32

abbrev pub aclk_edge : State → Bool
aclk_edge chip = chip.tick % ticks_per_aclk == 0 && not (has_bit (slice_index chip.registers SR) OSCOFF)

abbrev pub clocked : Option Place → State → State
clocked (Some place) chip = chip
clocked None chip = record chip {
  bus = record (chip.bus) { units = units_clocked (smclk_edge chip) (aclk_edge chip) ((chip.bus).units) };
}

-- the timers take the clock edges of the tick, once the boot is done
unfoldable pub timed : Power → State → State
timed Off chip = chip
timed power chip = clocked chip.boot chip

-- who owns the bus in the tick
abbrev pub owner_in : Power → State → Owner
owner_in Off chip = Nobody
owner_in power chip = owner_of chip

-- a PUC: SR and busy are 0, the peripherals have their values of reset but for those that a BOR alone
-- resets, and PC is the reset vector
abbrev pub after_puc : ℕ → State → State
after_puc cause chip = at_reset_vector (record chip {
  bus = part_at_reset false cause chip.bus;
  registers = with_register chip.registers SR 0;
  busy = 0;
  second_tick = false;
})

abbrev pub after_cause : Option ℕ → State → State
after_cause (Some cause) chip = if is_of_bor cause then after_bor cause chip else after_puc cause chip
after_cause None chip = chip

-- the cause that the tick takes: the least one that is requested
abbrev pub taken_cause : State → Option ℕ
taken_cause chip = least_cause (((chip.bus.units).sys).requested)

-- the reset of a tick in which one was requested
unfoldable pub reset : State → State
reset chip = after_cause (taken_cause chip) chip

-- power is cut: the peripherals have their values of a BOR, SRAM is the fill, and a boot will start. FRAM, mark and
-- pointer, what stays secret and the external levels stand
unfoldable pub cut : State → State
cut chip = record (at_rest chip) { bus = part_without_power chip.bus; powered = false }

-- the last stages: no reset is done in a tick whose power is cut
abbrev pub finished : Power → State → State
finished On chip = reset chip
finished (Cut writes) chip = cut chip
finished Off chip = chip

-- the power of the chip's next tick
abbrev pub power_of : Stimulus → State → Power
power_of bench chip = power_at bench.cuts chip.tick

-- the chip at each border of the stages behind the stimulus
pub record Stages : Type 0 where
  -- when the owner of the bus acts
  pub ready : State
  -- who owns the bus
  pub owner : Owner
  -- what the owner made of its turn, and the step of the boot in it, if it was the boot's
  pub turn : Turn
  pub boot : Option BootStep
  -- behind the reset or the cut
  pub after : State

abbrev pub stages_by : Power → State → Owner → Stages
stages_by power ready owner = record {
  ready = ready;
  owner = owner;
  turn = owned owner ready;
  boot = step_owned owner ready;
  after = finished power (owned owner ready).chip;
}

abbrev pub stages_from : Power → State → Stages
stages_from power ready = stages_by power ready (owner_in power ready)

-- the stages behind the stimulus, from the chip that it left
unfoldable pub stages : Power → State → Stages
stages power chip = stages_from power (timed power chip)

-- a tick, by its stages
pub record Moments : Type 0 where
  pub power : Power
  -- the chip as the tick finds it, and with the power of the tick
  pub before : State
  pub supplied : State
  pub stages : Stages

abbrev pub moments_from : Power → State → State → State → Moments
moments_from power before supplied stimulated =
    record { power = power; before = before; supplied = supplied; stages = stages power stimulated }

-- the chip with the power of its tick
abbrev pub supplied : Stimulus → State → State
supplied bench chip = powered (power_of bench chip) chip

-- the moments of the next tick
unfoldable pub moments : Stimulus → State → Moments
moments bench chip =
    moments_from (power_of bench chip) chip (supplied bench chip) (stimulated bench (supplied bench chip))

-- the chip behind a tick of a number
abbrev pub behind_tick : ℕ → State → State
behind_tick tick after = record after { bus = tick_ended after.bus; tick = tick + 1 }

-- the chip after its next tick
unfoldable pub ticked : Stimulus → State → State
ticked bench chip = behind_tick chip.tick ((moments bench chip).stages).after
