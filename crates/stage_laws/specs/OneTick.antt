-- The law of one tick: what is public behind it, and what it shows, go by what is public and by what its items tell.
use Rattle.std.specs.Prelude.{◌≡◌}
use Rattle.stimulus.specs.Stimulus.{Stimulus}
use Rattle.chip_core.specs.Items.{items_of}
use Rattle.chip_core.specs.Lines.{lines_of}
use Rattle.chip_core.specs.State.{State}
use Rattle.chip_core.specs.Tick.{ticked}
use Rattle.release_log.specs.Facts.{IsSound}
use Rattle.release_log.specs.SameItems.{AreSameItems}
use Rattle.stage_laws.specs.Seen.{seen}

-- the items of a tick agree: they are equal, and what is opened by them has equal bytes behind the tick
abbrev pub ItemsAgree : Stimulus → State → State → Type 0
ItemsAgree bench a b =
    AreSameItems (items_of bench a) (items_of bench b)
    (ticked bench a).bus.memory (ticked bench b).bus.memory

-- behind a tick the same is public, and its lines are equal
pub record AgreeBehind (bench : Stimulus) (a b : State) : Type 0 where
  pub public : seen (ticked bench a) ≡ seen (ticked bench b)
  pub lines : lines_of bench a ≡ lines_of bench b

-- Two chips of a run of which the same is public, before a tick whose items agree, whatever its power is and whatever a
-- bench brings in it. Equal public parts hold the number of the tick, whether power is on, and the fill.
abbrev pub OneTickAgrees : Type 0
OneTickAgrees =
    (bench : Stimulus) (a b : State) →
    IsSound a → IsSound b → seen a ≡ seen b → ItemsAgree bench a b → AgreeBehind bench a b
