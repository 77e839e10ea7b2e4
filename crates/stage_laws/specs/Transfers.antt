-- What a tick that DMA owns leaves of two chips of which the same is public, in either phase.
use Rattle.std.specs.Prelude.{◌≡◌, true}
use Rattle.chip_core.specs.declared.owners.Owner.{Owner}
use Rattle.chip_core.specs.declared.owners.Owner.TheVariants.{SecondTick, Transfer}
use Rattle.chip_core.specs.Phase.{is_up}
use Rattle.chip_core.specs.State.{State}
use Rattle.stage_laws.specs.Alike.{LookAlike}
use Rattle.stage_laws.specs.PublicTurns.{TurnsAlike}
use Rattle.stage_laws.specs.Seen.{IsReady}

-- the bus is DMA's: it makes a transfer of a channel, or the second tick of one passes
abbrev pub IsOfDma : Owner → Type 0
IsOfDma (Transfer channel) = Unit {0}
IsOfDma SecondTick = Unit {0}
IsOfDma owner = ⊥

-- either tick of a transfer, in public phase or in private phase
abbrev pub TransfersSeePublic : Type 0
TransfersSeePublic =
    (owner : Owner) (a b : State) → IsOfDma owner → IsReady a → is_up a ≡ true → LookAlike a b →
    TurnsAlike owner a b
