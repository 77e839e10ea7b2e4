-- The reset behind the turn of the bus owner, in a tick whose power isn't cut.
use Rattle.std.specs.Prelude.{◌≡◌, true}
use Rattle.power_schedule.specs.declared.powers.Power.TheVariants.{On}
use Rattle.chip_core.specs.Lines.{restart_lines}
use Rattle.chip_core.specs.Phase.{is_private}
use Rattle.chip_core.specs.Pins.{pins_of}
use Rattle.chip_core.specs.State.{State}
use Rattle.chip_core.specs.Tick.{Stages, stages_from, taken_cause}
use Rattle.stage_laws.specs.Seen.{IsReady, left, seen}
use Rattle.stage_laws.specs.Stages.{tick_items, turned}

-- Two ticks end in chips of which the same is public, and what the reset shows is the same: the cause that was taken,
-- that there was no reset vector, and the pins.
pub record EndAlike (a b : Stages) : Type 0 where
  pub public : seen a.after ≡ seen b.after
  pub lines :
      restart_lines a.boot (taken_cause (a.turn).chip) a.after
      ≡ restart_lines b.boot (taken_cause (b.turn).chip) b.after
  pub pins : pins_of a.after ≡ pins_of b.after

-- Behind a turn in private phase, of the processor or of DMA: what it left equal, and equal items of the tick, decide how
-- the tick ends. The items tell the way out of private phase, with the registers.
abbrev pub PrivateTicksEndAlike : Type 0
PrivateTicksEndAlike =
    (a b : State) → IsReady a → IsReady b → is_private a ≡ true → is_private b ≡ true →
    left (turned a) ≡ left (turned b) → tick_items On a ≡ tick_items On b →
    EndAlike (stages_from On a) (stages_from On b)

-- What is public of a chip is more than what a turn in private phase has to leave equal.
abbrev pub PublicPartsAreLeft : Type 0
PublicPartsAreLeft = (a b : State) → seen a ≡ seen b → left a ≡ left b

-- a turn in public phase leaves equal what is public, and the registers, also where the phase became private
pub record TurnedAlike (a b : State) : Type 0 where
  pub public : seen a ≡ seen b
  pub registers : a.registers ≡ b.registers

-- Behind such a turn no item is needed, whoever owned the bus.
abbrev pub PublicTicksEndAlike : Type 0
PublicTicksEndAlike =
    (a b : State) → seen a ≡ seen b → TurnedAlike (turned a) (turned b) →
    EndAlike (stages_from On a) (stages_from On b)
