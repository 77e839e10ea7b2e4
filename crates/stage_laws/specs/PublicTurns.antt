-- What the bus owner's turn leaves of two chips of which the same is public, where it is no private step.
use Rattle.std.specs.Prelude.{◌≡◌, true, false}
use Rattle.chip_core.specs.declared.owners.Owner.{Owner}
use Rattle.chip_core.specs.declared.owners.Owner.TheVariants.{Processor}
use Rattle.chip_core.specs.Lines.{turn_lines}
use Rattle.chip_core.specs.Phase.{is_private, is_up}
use Rattle.chip_core.specs.State.{State}
use Rattle.chip_core.specs.Turns.{owned, step_owned}
use Rattle.stage_laws.specs.Alike.{LookAlike}
use Rattle.stage_laws.specs.Seen.{IsReady}

-- the registers and the cycles that the processor is busy are equal too
pub record ComputeAlike (a b : State) : Type 0 where
  pub registers : a.registers ≡ b.registers
  pub busy : a.busy ≡ b.busy

-- A turn leaves two chips of which the same is public, and shows the same. Where the phase was public before, the
-- registers and the cycles that the processor is busy are equal behind it, also where the phase became private.
pub record TurnsAlike (owner : Owner) (a b : State) : Type 0 where
  pub chips : LookAlike (owned owner a).chip (owned owner b).chip
  pub public : is_private a ≡ false → ComputeAlike (owned owner a).chip (owned owner b).chip
  pub lines :
      turn_lines a.halted (step_owned owner a) (owned owner a).chip
      ≡ turn_lines b.halted (step_owned owner b) (owned owner b).chip

-- the processor's turn in public phase: it makes an instruction or an entry, halts, or goes on with what it did
abbrev pub PublicTurnsSeePublic : Type 0
PublicTurnsSeePublic =
    (a b : State) → IsReady a → is_up a ≡ true → is_private a ≡ false → LookAlike a b →
    TurnsAlike Processor a b
