-- What comes to pass while an erase is under way: from the chip whose mark says that it has begun, until one whose FRAM
-- is blank, the boot acts and nothing else does.
use Rattle.std.specs.Prelude.{◌≡◌, ◌≤◌, ℕ, List, [], ◌∷◌}
use Rattle.elf_image.specs.Image.{Segment}
use Rattle.stimulus.specs.declared.events.Event.{Event}
use Rattle.stimulus.specs.declared.events.EventAct.{EventAct}
use Rattle.stimulus.specs.declared.events.EventAct.TheVariants.{Pin, Debug}
use Rattle.stimulus.specs.Events.{on_tick}
use Rattle.stimulus.specs.Stimulus.{Stimulus}
use Rattle.debug_port.specs.declared.answers.Answer.TheVariants.{Booting}
use Rattle.boot_code.specs.Boot.{ERASING}
use Rattle.boot_code.specs.Facts.{IsBlank}
use Rattle.chip_core.specs.declared.owners.Owner.{Owner}
use Rattle.chip_core.specs.declared.owners.Owner.TheVariants.{Nobody, Boot}
use Rattle.chip_core.specs.Debugger.{answer_to}
use Rattle.chip_core.specs.FirstState.{first_state}
use Rattle.chip_core.specs.Run.{chip_after}
use Rattle.chip_core.specs.State.{State}
use Rattle.chip_core.specs.Tick.{after_event, moments, supplied}

-- What comes from outside.

-- a command of the debugger is answered that the boot isn't done; a level on a pin is set all the same
abbrev pub IsHeldOff : EventAct → State → Type 0
IsHeldOff (Pin port bit level) chip = Unit {0}
IsHeldOff (Debug command) chip = answer_to command chip ≡ Booting

-- events one after another
abbrev pub AreHeldOff : List Event → State → Type 0
AreHeldOff [] chip = Unit {0}
AreHeldOff (event ∷ events) chip =
    IsHeldOff event.act chip × AreHeldOff events (after_event event.act chip)

-- Who acts.

-- the bus is the boot's, or without power nobody's: neither the processor nor DMA has it
abbrev pub IsBootAtMost : Owner → Type 0
IsBootAtMost (Boot place) = Unit {0}
IsBootAtMost Nobody = Unit {0}
IsBootAtMost owner = ⊥

-- in the chip's next tick there is no instruction, no entry and no transfer of DMA, and no command of the debugger but
-- one that is held off
pub record IsAlone (bench : Stimulus) (chip : State) : Type 0 where
  pub commands : AreHeldOff (on_tick chip.tick bench.events) (supplied bench chip)
  pub owner : IsBootAtMost (moments bench chip).stages.owner

-- The erase.

-- the chip of a run before the tick of a number
abbrev pub chip_at : List Segment → Stimulus → ℕ → State
chip_at image bench tick = chip_after tick bench (first_state image bench.fill)

-- all of its FRAM is wiped
abbrev pub IsBlankAt : List Segment → Stimulus → ℕ → Type 0
IsBlankAt image bench tick = IsBlank (chip_at image bench tick).bus.memory

-- an erase began before the tick of one number and, whatever cuts came, isn't done before that of another
pub record IsErasing (image : List Segment) (bench : Stimulus) (first last : ℕ) : Type 0 where
  pub in_order : first ≤ last
  pub began : (chip_at image bench first).keep.mark ≡ ERASING
  pub undone : (tick : ℕ) → first ≤ tick → tick ≤ last → IsBlankAt image bench tick → ⊥

-- Of every run: the boot is alone in each tick of an erase. What is left of the tick in which the debugger asked for the
-- erase is no part of it.
abbrev pub EraseIsAlone : Type 0
EraseIsAlone =
    (image : List Segment) (bench : Stimulus) (first last : ℕ) → IsErasing image bench first last →
    IsAlone bench (chip_at image bench last)
