-- The stages of a tick from the turn of the owner of the bus on, of the chip on which it acts.
use Rattle.std.specs.Prelude.{◌≡◌, true, List}
use Rattle.power_schedule.specs.declared.powers.Power.{Power}
use Rattle.trace_print.specs.declared.releases.Item.{Item}
use Rattle.chip_core.specs.Items.{stages_items}
use Rattle.chip_core.specs.declared.owners.Owner.TheVariants.{Processor}
use Rattle.chip_core.specs.Phase.{is_private}
use Rattle.chip_core.specs.State.{State}
use Rattle.chip_core.specs.Tick.{stages_from}
use Rattle.chip_core.specs.Turns.{owned, owner_of}

-- the chip behind the turn
abbrev pub turned : State → State
turned chip = (owned (owner_of chip) chip).chip

-- all that the tick gives away
abbrev pub tick_items : Power → State → List Item
tick_items power chip = stages_items power (stages_from power chip)

-- it is the processor's turn, in private phase
pub record IsPrivateTurn (chip : State) : Type 0 where
  pub private : is_private chip ≡ true
  pub owner : owner_of chip ≡ Processor
