-- The lines that a tick gives, in their order.
use Rattle.std.specs.Prelude.{ℕ, ◌==◌, ◌&&◌, not, Bool, true, false, if◌then◌else◌, List, [], ◌∷◌, ◌++◌, Option, Some, None, slice_index}
use Rattle.trace_print.specs.declared.items.TraceItem.{TraceItem}
use Rattle.trace_print.specs.declared.items.TraceItem.TheVariants.{On, Halt, Erase, Boot, Reset, Dead, Cut}
use Rattle.boot_code.specs.declared.boots.Act.TheVariants.{Wipe}
use Rattle.boot_code.specs.declared.boots.BootStep.{BootStep}
use Rattle.boot_code.specs.declared.boots.BootStep.TheVariants.{Going, Done}
use Rattle.boot_code.specs.Boot.{INFORMATION_FRAM}
use Rattle.chip_words.specs.Encap.{Encap}
use Rattle.chip_words.specs.Segments.{border}
use Rattle.power_schedule.specs.declared.powers.Power.{Power}
use Rattle.power_schedule.specs.declared.powers.Power.TheVariants as power
use Rattle.chip_words.specs.Registers.{PC}
use Rattle.stimulus.specs.declared.events.Event.{Event}
use Rattle.stimulus.specs.declared.events.EventAct.{EventAct}
use Rattle.stimulus.specs.declared.events.EventAct.TheVariants.{Pin, Debug}
use Rattle.stimulus.specs.Events.{on_tick}
use Rattle.stimulus.specs.Stimulus.{Stimulus}
use Rattle.chip_core.specs.Debugger.{debug_lines}
use Rattle.chip_core.specs.State.{State}
use Rattle.chip_core.specs.Pins.{pins_of, pin_lines}
use Rattle.chip_core.specs.Tick.{Moments, Stages, after_event, moments, taken_cause}

-- ON: power came on
abbrev pub power_lines : Power → State → List TraceItem
power_lines power.Off chip = []
power_lines power chip = if chip.powered then [] else On ∷ []

-- what an event shows: the answer to a command
abbrev pub event_lines : EventAct → State → List TraceItem
event_lines (Pin port bit level) chip = []
event_lines (Debug command) chip = debug_lines command chip

-- events one after another, each on the chip that those before it left
abbrev pub events_lines : List Event → State → List TraceItem
events_lines [] chip = []
events_lines (event ∷ events) chip = event_lines event.act chip ++ events_lines events (after_event event.act chip)

-- the stimulus of the tick, on the chip with the tick's power
unfoldable pub stimulus_lines : Stimulus → State → List TraceItem
stimulus_lines bench chip = events_lines (on_tick chip.tick bench.events) chip

-- the PC at which the processor was halted, where it wasn't before
abbrev pub halted_since : Bool → State → Option ℕ
halted_since was_halted chip = if chip.halted && not was_halted then Some (slice_index chip.registers PC) else None

-- HALT: the processor was halted, with its PC
abbrev pub halt_lines : Option ℕ → List TraceItem
halt_lines (Some at) = Halt at ∷ []
halt_lines None = []

-- BOOT: a boot ended, with this encapsulation in force
abbrev pub boot_line : Encap → TraceItem
boot_line encap = Boot encap.mpuipc0 (border encap.mpuipsegb1) (border encap.mpuipsegb2)

-- ERASE: a boot wiped the first word of an erase
abbrev pub boot_lines : Option BootStep → State → List TraceItem
boot_lines (Some (Going (Wipe at))) chip = if at == INFORMATION_FRAM then Erase ∷ [] else []
boot_lines (Some (Done borders)) chip = boot_line (((chip.bus).units).encap) ∷ []
boot_lines step chip = []

-- RST: a reset was taken, with its cause
abbrev pub reset_lines : Option ℕ → List TraceItem
reset_lines (Some cause) = Reset cause ∷ []
reset_lines None = []

-- the reset vector may have been loaded: a boot ended, or a reset was taken
abbrev pub is_restart : Option BootStep → Option ℕ → Bool
is_restart step (Some cause) = true
is_restart (Some (Done borders)) None = true
is_restart step None = false

-- DEAD: there was no reset vector
abbrev pub dead_lines : Option BootStep → Option ℕ → State → List TraceItem
dead_lines step cause after = if is_restart step cause && after.dead then Dead ∷ [] else []

-- what the turn of the bus owner shows, where the processor wasn't halted before or was
abbrev pub turn_lines : Bool → Option BootStep → State → List TraceItem
turn_lines was_halted step chip = halt_lines (halted_since was_halted chip) ++ boot_lines step chip

-- what the reset shows
abbrev pub restart_lines : Option BootStep → Option ℕ → State → List TraceItem
restart_lines step cause after = reset_lines cause ++ dead_lines step cause after

-- what a tick shows of its turn and its reset, where power is on
abbrev pub lines_with_power : Bool → Option BootStep → State → State → List TraceItem
lines_with_power was_halted step chip after =
    turn_lines was_halted step chip ++ restart_lines step (taken_cause chip) after

-- what the stages behind the stimulus show, by the power of the tick; CUT: power was cut
abbrev pub stage_lines : Power → Stages → List TraceItem
stage_lines power.On stages =
    lines_with_power (stages.ready).halted stages.boot (stages.turn).chip stages.after
stage_lines (power.Cut writes) stages = Cut ∷ []
stage_lines power.Off stages = []

-- the lines of a tick, by its moments
abbrev pub lines_at : Stimulus → Moments → List TraceItem
lines_at bench tick =
    power_lines tick.power tick.before
    ++ stimulus_lines bench tick.supplied
    ++ stage_lines tick.power tick.stages
    ++ pin_lines (pins_of tick.before) (pins_of (tick.stages).after)

unfoldable pub lines_of : Stimulus → State → List TraceItem
lines_of bench chip = lines_at bench (moments bench chip)
