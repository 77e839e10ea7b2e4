-- A tick without power gives nothing away.
use Rattle.std.proofs.Common.{◌≡◌, ◌∙◌, Bool, true, false, List, [], refl, sym, ap}
use Rattle.std.specs.Prelude.{◌&&◌, not, if◌then◌else◌}
use Rattle.power_schedule.specs.declared.powers.Power.{Power}
use Rattle.power_schedule.specs.declared.powers.Power.TheVariants.{Off}
use Rattle.trace_print.specs.declared.releases.Item.{Item}
use Rattle.chip_core.specs.Items.{stages_items}
use Rattle.chip_core.specs.Phase.{is_private}
use Rattle.chip_core.specs.State.{State}
use Rattle.chip_core.specs.Tick.{stages, timed}
use Rattle.chip_core.specs.Turns.{owned, step_owned}

-- nothing is left and not left
pub left_and_not : (private powered : Bool) (items : List Item) → (if private && powered && not private then items else []) ≡ []
left_and_not true true items = refl
left_and_not true false items = refl
left_and_not false powered items = refl

no_items : (chip : State) → stages_items Off (stages Off chip) ≡ []
unfolding stages timed owned step_owned
no_items chip = left_and_not (is_private chip) chip.powered _

pub no_items_without_power : (items : List Item) (power : Power) (chip : State) → power ≡ Off → items ≡ [] → items ≡ stages_items power (stages power chip)
no_items_without_power items power chip off none = none ∙ sym (no_items chip) ∙ ap (λ p. stages_items p (stages p chip)) (sym off)
