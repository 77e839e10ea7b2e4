-- The writes of a tick, by whatever agent, and what a tick whose power is cut leaves of them: FRAM, mark and pointer
-- hold the first of its writes, each whole, and no other, and SRAM is the fill.
use Rattle.std.specs.Prelude.{◌≡◌, ◌<◌, ◌||◌, nat_lt, ℕ, Bool, true, if◌then◌else◌, List, [], ◌∷◌, ◌++◌, Option, Some, None, fold, map, slice_index, take}
use Rattle.chip_words.specs.declared.accesses.Agent.TheVariants as agent
use Rattle.chip_words.specs.Map.{is_fram, is_sram}
use Rattle.chip_words.specs.Registers.{PC}
use Rattle.chip_words.specs.Script.{Script}
use Rattle.chip_words.specs.Steps.{begun}
use Rattle.power_schedule.specs.declared.powers.Power.{Power}
use Rattle.power_schedule.specs.declared.powers.Power.TheVariants.{Cut}
use Rattle.stimulus.specs.declared.events.Event.{Event}
use Rattle.stimulus.specs.declared.events.EventAct.{EventAct}
use Rattle.stimulus.specs.declared.events.EventAct.TheVariants.{Pin, Debug}
use Rattle.stimulus.specs.Events.{on_tick}
use Rattle.stimulus.specs.Stimulus.{Stimulus}
use Rattle.debug_port.specs.declared.answers.Answer.{Answer}
use Rattle.debug_port.specs.declared.answers.Answer.TheVariants.{Accepted}
use Rattle.debug_port.specs.declared.commands.Command.{Command}
use Rattle.debug_port.specs.declared.commands.Command.TheVariants.{Erase}
use Rattle.debug_port.specs.Commands.{Commanded, commanded}
use Rattle.dma_unit.specs.declared.transfers.Move.{Move}
use Rattle.dma_unit.specs.Moves.{transfer}
use Rattle.dma_unit.specs.Transfers.{move_at, transferred}
use Rattle.boot_code.specs.declared.boots.Act.{Act}
use Rattle.boot_code.specs.declared.boots.Act.TheVariants.{Mark, Ptr}
use Rattle.boot_code.specs.declared.boots.BootStep.{BootStep}
use Rattle.boot_code.specs.declared.boots.BootStep.TheVariants.{Going, Done}
use Rattle.boot_code.specs.declared.boots.Keep.{Keep}
use Rattle.boot_code.specs.Boot.{ERASING, boot_step}
use Rattle.boot_code.specs.Place.{Place}
use Rattle.cpux_extended.specs.Instruction.{instruction}
use Rattle.chip_core.specs.declared.owners.Owner.{Owner}
use Rattle.chip_core.specs.declared.owners.Owner.TheVariants.{Nobody, Boot, SecondTick, Transfer, Processor}
use Rattle.chip_core.specs.Boot.{boot_run}
use Rattle.chip_core.specs.Debugger.{answer_to, debug_of, view_of}
use Rattle.chip_core.specs.Entry.{entry}
use Rattle.chip_core.specs.State.{State}
use Rattle.chip_core.specs.Tick.{after_event, owner_in, power_of, powered, stages, stimulated, ticked, timed}
use Rattle.chip_core.specs.Turns.{accepted_by, is_halting, is_off, rested_by, with_dma}
use Rattle.release_log.specs.Writes.{END_OF_COUNT, StepWrite, with_write, writes_of}

-- The writes.

-- A write of a tick, present or absent, allowed or refused: one of the bus, or one of the two words besides FRAM that
-- outlast a loss of power.
pub data TickWrite : Type 0 where
  OfBus : StepWrite → TickWrite
  OfMark : ℕ → TickWrite
  OfPointer : ℕ → TickWrite

abbrev pub of_bus : List StepWrite → List TickWrite
of_bus writes = map OfBus writes

-- Those of the debugger.

-- an erase that is accepted writes the mark
abbrev pub erase_writes : Command → Answer → List TickWrite
erase_writes Erase Accepted = OfMark ERASING ∷ []
erase_writes command answer = []

-- the accesses of a command
abbrev pub command_script : Command → State → Script Commanded
command_script command chip = commanded command (view_of chip) (debug_of chip) chip.registers

-- a command makes its accesses, and then an erase its mark
abbrev pub command_writes : Command → State → List TickWrite
command_writes command chip =
    of_bus (writes_of agent.Debug (command_script command chip) chip.bus)
    ++ erase_writes command (answer_to command chip)

-- a level on a pin writes nothing
abbrev pub event_writes : EventAct → State → List TickWrite
event_writes (Pin port bit level) chip = []
event_writes (Debug command) chip = command_writes command chip

-- events one after another
abbrev pub events_writes : List Event → State → List TickWrite
events_writes [] chip = []
events_writes (event ∷ events) chip =
    event_writes event.act chip ++ events_writes events (after_event event.act chip)

-- Those of the boot.

-- a step that asks for a mark or a pointer has it written
abbrev pub act_writes : Act → List TickWrite
act_writes (Mark mark) = OfMark mark ∷ []
act_writes (Ptr ptr) = OfPointer ptr ∷ []
act_writes act = []

abbrev pub asked_writes : BootStep → List TickWrite
asked_writes (Going act) = act_writes act
asked_writes (Done borders) = []

-- a step makes its access, and then what it asks for is written
abbrev pub boot_writes : Place → State → List TickWrite
boot_writes place chip =
    of_bus (writes_of agent.Boot (boot_step place chip.keep) (begun chip.bus))
    ++ asked_writes (boot_run place chip).value.step

-- Those of DMA.

abbrev pub move_writes : Option Move → State → List StepWrite
move_writes (Some move) chip = writes_of agent.Dma (transfer move) (begun chip.bus)
move_writes None chip = []

-- the channel's counts come before the accesses, which go by the addresses from before
abbrev pub transfer_writes : ℕ → State → List StepWrite
transfer_writes channel chip =
    move_writes (move_at channel chip.bus.units.dma.channels) (with_dma (transferred channel) chip)

-- Those of the processor.

-- it has no step in its turn: it is busy, comes to a halt, stands halted, or is dead
abbrev pub has_no_step : State → Bool
has_no_step chip = nat_lt 0 chip.busy || is_halting chip || chip.halted || chip.dead

-- the instruction at PC
abbrev pub instruction_writes : State → List StepWrite
instruction_writes chip =
    let who = agent.Cpu (slice_index chip.registers PC) in
    writes_of who (instruction chip.registers) (begun chip.bus)

-- the entry of the interrupt that is accepted, or the instruction, unless the processor is off
abbrev pub step_writes : Option ℕ → State → List StepWrite
step_writes (Some vector) chip =
    writes_of agent.Entry (entry vector chip.registers) (begun chip.bus)
step_writes None chip = if is_off chip then [] else instruction_writes chip

abbrev pub processor_writes : State → List StepWrite
processor_writes chip = if has_no_step chip then [] else step_writes (accepted_by chip) chip

-- Those of the tick.

-- the owner of the bus in its turn
abbrev pub turn_writes : Owner → State → List TickWrite
turn_writes Nobody chip = []
turn_writes (Boot place) chip = boot_writes place chip
turn_writes SecondTick chip = []
turn_writes (Transfer channel) chip = of_bus (transfer_writes channel chip)
turn_writes Processor chip = of_bus (processor_writes chip)

abbrev pub owner_writes : Owner → State → List TickWrite
owner_writes owner chip = turn_writes owner (rested_by owner chip)

-- the events of the tick
abbrev pub stimulus_writes : Stimulus → State → List TickWrite
stimulus_writes bench chip = events_writes (on_tick chip.tick bench.events) chip

-- the stages behind the stimulus, from the chip that it left
abbrev pub stages_writes : Power → State → List TickWrite
stages_writes power chip = owner_writes (owner_in power (timed power chip)) (timed power chip)

-- all writes of a tick in their order, from the chip with the power of the tick
abbrev pub supplied_writes : Power → Stimulus → State → List TickWrite
supplied_writes power bench chip =
    stimulus_writes bench chip ++ stages_writes power (stimulated bench chip)

-- and from the chip as the tick finds it
abbrev pub tick_writes : Power → Stimulus → State → List TickWrite
tick_writes power bench chip = supplied_writes power bench (powered power chip)

-- What they leave.

-- what writes are to: memory, and the two words
pub record Stored : Type 0 where
  pub memory : List ℕ
  pub keep : Keep

abbrev pub stored_in : State → Stored
stored_in chip = record { memory = chip.bus.memory; keep = chip.keep }

-- behind one write: it is whole, as far as it is allowed
abbrev pub behind_write : Stored → TickWrite → Stored
behind_write stored (OfBus write) = record stored { memory = with_write stored.memory write }
behind_write stored (OfMark mark) = record stored { keep = record (stored.keep) { mark = mark } }
behind_write stored (OfPointer ptr) = record stored { keep = record (stored.keep) { ptr = ptr } }

-- behind several, of which the first comes first
abbrev pub behind_writes : Stored → List TickWrite → Stored
behind_writes stored writes = fold behind_write stored writes

-- two memories have the same bytes in FRAM
abbrev pub AreSameInFram : List ℕ → List ℕ → Type 0
AreSameInFram one other =
    (at : ℕ) → is_fram at ≡ true → slice_index one at ≡ slice_index other at

-- each byte of SRAM is this one
abbrev pub IsFilledWith : ℕ → List ℕ → Type 0
IsFilledWith fill memory = (at : ℕ) → is_sram at ≡ true → slice_index memory at ≡ fill

-- a chip holds in FRAM and in the two words what is stored, and the fill in SRAM
pub record HoldsWithoutPower (stored : Stored) (fill : ℕ) (chip : State) : Type 0 where
  pub fram : AreSameInFram chip.bus.memory stored.memory
  pub keep : chip.keep ≡ stored.keep
  pub sram : IsFilledWith fill chip.bus.memory

-- what a chip stores behind the first so many writes of a tick that is cut behind them
abbrev pub stored_behind : Stimulus → ℕ → State → Stored
stored_behind bench count chip =
    behind_writes (stored_in chip) (take count (tick_writes (Cut count) bench chip))

-- the first so many writes of the tick, and no other, were done, and then power went
abbrev pub IsCutShort : Stimulus → ℕ → State → State → Type 0
IsCutShort bench count before after =
    HoldsWithoutPower (stored_behind bench count before) before.bus.fill after

-- the chip behind the last stage of a tick, by the power of the tick
abbrev pub after_stages : Power → Stimulus → State → State
after_stages power bench chip = (stages power (stimulated bench (powered power chip))).after

-- A tick whose power is cut behind so many writes leaves exactly these. The stages say it of any cut, and the tick of
-- those that the supply makes. The law is of counts below the end of the count of writes, where it stands still.
pub record CutHoldsFirst : Type 0 where
  pub stages :
      (bench : Stimulus) (chip : State) (count : ℕ) → count < END_OF_COUNT →
      IsCutShort bench count chip (after_stages (Cut count) bench chip)
  pub tick :
      (bench : Stimulus) (chip : State) (count : ℕ) → count < END_OF_COUNT →
      power_of bench chip ≡ Cut count → IsCutShort bench count chip (ticked bench chip)
