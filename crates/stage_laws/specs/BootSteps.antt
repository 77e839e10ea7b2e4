-- What a step of the boot leaves of two chips of which the same is public.
use Rattle.std.specs.Prelude.{◌≡◌, List, Some}
use Rattle.access_laws.specs.Boots.{AgreeWhereOpened}
use Rattle.boot_code.specs.Place.{Place}
use Rattle.power_schedule.specs.declared.powers.Power.{Power}
use Rattle.trace_print.specs.declared.releases.Item.{Item}
use Rattle.chip_core.specs.declared.owners.Owner.TheVariants.{Boot}
use Rattle.chip_core.specs.Items.{boot_items, start_of}
use Rattle.chip_core.specs.State.{State}
use Rattle.chip_core.specs.Turns.{owned, step_owned}
use Rattle.stage_laws.specs.Alike.{LookAlike}
use Rattle.stage_laws.specs.PublicTurns.{TurnsAlike}
use Rattle.stage_laws.specs.Seen.{IsReady}

-- the chip behind a step of the boot
abbrev pub booted : Place → State → State
booted place chip = (owned (Boot place) chip).chip

-- the items of the step, in a tick of this power
abbrev pub items_of_step : Power → Place → State → List Item
items_of_step power place chip =
    boot_items power (start_of chip) (step_owned (Boot place) chip) (booted place chip)

-- two steps give equal items, and where addresses are opened by them, these have equal bytes
pub record TellAlike (power : Power) (place : Place) (a b : State) : Type 0 where
  pub items : items_of_step power place a ≡ items_of_step power place b
  pub bytes :
      AgreeWhereOpened a.bus.kept (booted place a).bus.kept
      (booted place a).bus.memory (booted place b).bus.memory

-- each step of the boot, in a tick of whatever power, where it gives equal items
abbrev pub BootStepsSeePublic : Type 0
BootStepsSeePublic =
    (power : Power) (place : Place) (a b : State) → IsReady a → a.boot ≡ Some place →
    LookAlike a b → TellAlike power place a b → TurnsAlike (Boot place) a b
