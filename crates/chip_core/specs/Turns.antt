-- Who owns the bus in a tick, and what the owner makes of its turn: a step of the boot until it is done, a transfer of
-- DMA, an interrupt or an instruction.
use Rattle.std.specs.Prelude.{ℕ, ◌+◌, ◌-◌, ◌&&◌, ◌||◌, not, nat_lt, Bool, true, false, if◌then◌else◌, List, Option, Some, None, slice_index}
use Rattle.chip_words.specs.declared.accesses.Agent.TheVariants as by
use Rattle.chip_words.specs.Bits.{has_bit}
use Rattle.chip_words.specs.Registers.{CPUOFF, GIE, PC, SR}
use Rattle.chip_words.specs.Causes.{RESERVED_WORD, least_cause, lesser_cause}
use Rattle.chip_words.specs.Interrupts.{accepted, units_lines}
use Rattle.chip_words.specs.Dma.{Dma}
use Rattle.chip_words.specs.BusPart.{BusPart}
use Rattle.chip_words.specs.Access.{sys_asked}
use Rattle.chip_words.specs.Script.{Ran, run}
use Rattle.chip_words.specs.Steps.{begun, step_ended, waits_in}
use Rattle.bus_fabric.specs.Fabric.{part_entered}
use Rattle.boot_code.specs.declared.boots.BootStep.{BootStep}
use Rattle.boot_code.specs.Place.{Place}
use Rattle.chip_core.specs.declared.owners.Owner.{Owner}
use Rattle.chip_core.specs.declared.owners.Owner.TheVariants.{Nobody, Boot, SecondTick, Transfer, Processor}
use Rattle.cpux_execute.specs.declared.outcomes.Outcome.{Outcome}
use Rattle.cpux_execute.specs.declared.outcomes.Outcome.TheVariants.{Cycles, Reserved}
use Rattle.cpux_execute.specs.Execution.{Stepped}
use Rattle.cpux_extended.specs.Instruction.{instruction}
use Rattle.dma_unit.specs.declared.transfers.Move.{Move}
use Rattle.dma_unit.specs.Moves.{transfer}
use Rattle.dma_unit.specs.Transfers.{due, move_at, passed, transferred}
use Rattle.chip_core.specs.declared.steps.Step.{Step}
use Rattle.chip_core.specs.Boot.{boot_run, booted_from}
use Rattle.chip_core.specs.Entry.{entry}
use Rattle.chip_core.specs.Phase.{is_private}
use Rattle.chip_core.specs.State.{State}

-- what the owner made of its turn
pub record Turn : Type 0 where
  pub chip : State
  -- the processor's step in it, if it made one: an instruction, or the entry into an interrupt. The list of its accesses
  -- still stands in the bus part
  pub step : Option Step

-- a turn without a step of the processor
abbrev pub without_step : State → Turn
without_step chip = record { chip = chip; step = None }

-- a step of the boot
unfoldable pub boot_turn : Place → State → State
boot_turn place chip = booted_from (boot_run place chip) chip

-- a reserved word asks for a reset, besides those that the accesses of its step request
abbrev pub reserved_cause : Outcome → Option ℕ
reserved_cause (Cycles cycles) = None
reserved_cause Reserved = Some RESERVED_WORD

-- the processor is busy with an instruction for its cycles and its waits for FRAM, of which the first is the tick that
-- made it
abbrev pub busy_after : Outcome → ℕ → ℕ
busy_after (Cycles cycles) waits = cycles - 1 + waits
busy_after Reserved waits = 0

-- a reset is asked for behind the accesses, if there is a cause
abbrev pub asked : Option ℕ → BusPart → BusPart
asked cause part = record part { units = sys_asked cause part.units }

-- the chip behind the accesses of an instruction, by how it ended
abbrev pub instruction_ended : Outcome → State → State
instruction_ended outcome chip = record chip {
  bus = step_ended (asked (reserved_cause outcome) chip.bus);
  busy = busy_after outcome (waits_in chip.bus);
}

-- its step, with the causes of its accesses and of its end, and that of a reserved word
abbrev pub instruction_step : Outcome → BusPart → Step
instruction_step outcome part = record {
  vector = None;
  noted = part.noted;
  cause = lesser_cause (least_cause (step_ended (asked (reserved_cause outcome) part)).causes) (reserved_cause outcome);
}

abbrev pub instructed_from : Ran Stepped → State → Turn
instructed_from ran chip = record {
  chip = instruction_ended (ran.value).outcome (record chip { bus = ran.part; registers = (ran.value).registers });
  step = Some (instruction_step (ran.value).outcome ran.part);
}

-- the instruction at PC
unfoldable pub instructed : State → Turn
instructed chip =
    instructed_from (run (by.Cpu (slice_index chip.registers PC)) (instruction chip.registers) (begun chip.bus)) chip

-- the processor does nothing
abbrev pub is_off : State → Bool
is_off chip = has_bit (slice_index chip.registers SR) CPUOFF

abbrev pub takes_interrupts : State → Bool
takes_interrupts chip = has_bit (slice_index chip.registers SR) GIE

-- the vector of the interrupt that is accepted
abbrev pub accepted_by : State → Option ℕ
accepted_by chip = accepted (units_lines (chip.bus.units)) (takes_interrupts chip) chip.bus.nmi

-- an entry takes so many cycles
abbrev pub entry_cycles : ℕ
entry_cycles = 6

-- its step
abbrev pub entry_step : ℕ → BusPart → Step
entry_step vector part = record {
  vector = Some vector;
  noted = part.noted;
  cause = least_cause (step_ended (part_entered vector part)).causes;
}

-- behind its accesses an entry clears what asked for it, before the end of the step may ask again
abbrev pub entered_from : ℕ → Ran (List ℕ) → State → Turn
entered_from vector ran chip = record {
  chip = record chip {
    bus = step_ended (part_entered vector ran.part);
    registers = ran.value;
    busy = entry_cycles - 1 + waits_in ran.part;
  };
  step = Some (entry_step vector ran.part);
}

unfoldable pub entered : ℕ → State → Turn
entered vector chip = entered_from vector (run by.Entry (entry vector chip.registers) (begun chip.bus)) chip

-- an interrupt that is accepted comes before the instruction, and wakes a processor that is off
abbrev pub free_turn : Option ℕ → State → Turn
free_turn (Some vector) chip = entered vector chip
free_turn None chip = if is_off chip then without_step chip else instructed chip

-- a halt that was asked for comes, unless the phase is private
abbrev pub is_halting : State → Bool
is_halting chip = chip.pending && not (is_private chip)

-- the processor's turn: a halt uses it up
unfoldable pub processor_turn : State → Turn
processor_turn chip =
    if nat_lt 0 chip.busy then without_step (record chip { busy = chip.busy - 1 })
    else if is_halting chip then without_step (record chip { halted = true; pending = false })
    else if chip.halted || chip.dead then without_step chip
    else free_turn (accepted_by chip) chip

-- the registers of DMA changed
abbrev pub with_dma : (Dma → Dma) → State → State
with_dma change chip = record chip {
  bus = record (chip.bus) { units = record (chip.bus.units) { dma = change (chip.bus.units).dma } };
}

abbrev pub moved_from : Ran ℕ → State → Turn
moved_from ran chip = without_step (record chip { bus = step_ended ran.part; second_tick = true })

-- the first tick of a transfer has both of its accesses
abbrev pub moved : Option Move → State → Turn
moved (Some move) chip = moved_from (run by.Dma (transfer move) (begun chip.bus)) chip
moved None chip = without_step chip

-- the channel's counts come before the accesses, which go by the addresses from before
unfoldable pub transfer_turn : ℕ → State → Turn
transfer_turn channel chip =
    moved (move_at channel ((chip.bus.units).dma).channels) (with_dma (transferred channel) chip)

-- while the boot isn't done it owns the bus; then a transfer does, in both of its ticks, and else the processor
abbrev pub owner_by : Option Place → Bool → Option ℕ → Owner
owner_by (Some place) second channel = Boot place
owner_by None true channel = SecondTick
owner_by None false (Some channel) = Transfer channel
owner_by None false None = Processor

unfoldable pub owner_of : State → Owner
owner_of chip = owner_by chip.boot chip.second_tick (due (chip.bus.units).dma)

-- in a tick that DMA doesn't own the rests of its channels are lowered
abbrev pub rested_by : Owner → State → State
rested_by Nobody chip = chip
rested_by SecondTick chip = chip
rested_by (Transfer channel) chip = chip
rested_by owner chip = with_dma passed chip

abbrev pub turn_of : Owner → State → Turn
turn_of Nobody chip = without_step chip
turn_of (Boot place) chip = without_step (boot_turn place chip)
turn_of SecondTick chip = without_step (record chip { second_tick = false })
turn_of (Transfer channel) chip = transfer_turn channel chip
turn_of Processor chip = processor_turn chip

-- the turn of the owner of the bus
unfoldable pub owned : Owner → State → Turn
owned owner chip = turn_of owner (rested_by owner chip)

-- what a boot's step leads to, where it owns the bus
abbrev pub boot_step_in : Owner → State → Option BootStep
boot_step_in (Boot place) chip = Some ((boot_run place chip).value).step
boot_step_in owner chip = None

unfoldable pub step_owned : Owner → State → Option BootStep
step_owned owner chip = boot_step_in owner (rested_by owner chip)
