-- Ticks in which power stays on and no event comes, and among them those in which the processor waits.
use Rattle.std.specs.Prelude.{◌≡◌, ◌+◌, ◌-◌, ◌&&◌, ◌||◌, ◌++◌, ℕ, not, Bool, true, false, List, is_none, nat_lt}
use Rattle.dma_unit.specs.Transfers.{is_quiet as is_dma_quiet}
use Rattle.power_schedule.specs.declared.powers.Power.TheVariants.{On}
use Rattle.timer_unit.specs.Edges.{some_counts}
use Rattle.trace_print.specs.declared.items.TraceItem.{TraceItem}
use Rattle.trace_print.specs.declared.releases.Item.{Item}
use Rattle.chip_core.specs.Items.{stages_items}
use Rattle.chip_core.specs.Lines.{stage_lines}
use Rattle.chip_core.specs.Pins.{pin_lines, pins_of}
use Rattle.chip_core.specs.State.{State}
use Rattle.chip_core.specs.Tick.{begun_by, behind_tick, stages_from, taken_cause, timed}
use Rattle.chip_core.specs.Turns.{accepted_by, is_off}

-- neither a boot, nor DMA, nor a reset is due
abbrev pub is_undisturbed : State → Bool
is_undisturbed chip =
    is_none chip.boot
    && not chip.second_tick
    && is_dma_quiet ((chip.bus).units).dma
    && is_none (taken_cause chip)

-- nothing acts but the processor: no timer counts either, whichever clock has an edge
abbrev pub is_alone : State → Bool
is_alone chip = is_undisturbed chip && not (some_counts ((chip.bus).units).timers true true)

-- the chip behind so many ticks in which a processor that acts alone is busy
abbrev pub waited : ℕ → State → State
waited n chip = record chip { busy = chip.busy - n; tick = chip.tick + n }

-- a processor that isn't busy makes no step: it was halted, or there was no reset vector, or it is off and accepts no
-- interrupt
abbrev pub makes_no_step : State → Bool
makes_no_step chip =
    not chip.pending && ((chip.halted || chip.dead) || (is_off chip && is_none (accepted_by chip)))

-- a processor is free to enter an interrupt or to execute: it isn't busy, nor halted, nor about to be, and there was a
-- reset vector
pub record IsFree (chip : State) : Type 0 where
  pub rested : nat_lt 0 chip.busy ≡ false
  pub going_on : chip.pending ≡ false
  pub running : (chip.halted || chip.dead) ≡ false

-- What is left of a tick that is plain, where power was on before it.

-- the chip when its bus owner acts
abbrev pub started : State → State
started chip = timed On (begun_by On chip)

-- the chip behind it
abbrev pub plainly_ticked : State → State
plainly_ticked chip = behind_tick chip.tick (stages_from On (started chip)).after

-- what the stages from the bus owner's turn on show, with the pins that change in them
abbrev pub shown_from : State → List TraceItem
shown_from chip =
    stage_lines On (stages_from On chip) ++ pin_lines (pins_of chip) (pins_of (stages_from On chip).after)

-- what they give away
abbrev pub given_from : State → List Item
given_from chip = stages_items On (stages_from On chip)
