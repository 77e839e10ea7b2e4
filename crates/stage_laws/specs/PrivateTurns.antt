-- The turn of the processor in private phase, in a tick whose power isn't cut.
use Rattle.std.specs.Prelude.{◌≡◌, []}
use Rattle.power_schedule.specs.declared.powers.Power.TheVariants.{On}
use Rattle.chip_core.specs.Lines.{turn_lines}
use Rattle.chip_core.specs.State.{State}
use Rattle.chip_core.specs.Turns.{owner_of, step_owned}
use Rattle.stage_laws.specs.Seen.{IsReady, left, seen}
use Rattle.stage_laws.specs.Stages.{IsPrivateTurn, tick_items, turned}

-- Two chips with equal public parts, in ticks with equal items: the turn leaves equal what is public in private phase, but
-- for the phase and the causes that are requested, of which it leaves the least one equal.
abbrev pub PrivateTurnsAgree : Type 0
PrivateTurnsAgree =
    (a b : State) → IsReady a → IsPrivateTurn a → seen a ≡ seen b →
    tick_items On a ≡ tick_items On b → left (turned a) ≡ left (turned b)

-- and it gives no line
abbrev pub PrivateTurnShowsNothing : Type 0
PrivateTurnShowsNothing =
    (chip : State) → IsPrivateTurn chip →
    turn_lines chip.halted (step_owned (owner_of chip) chip) (turned chip) ≡ []
