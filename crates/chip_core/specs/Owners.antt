-- The owner of the bus in a tick.
use Rattle.std.specs.Prelude.{◌<◌}
use Rattle.chip_core.specs.declared.owners.Owner.{Owner}
use Rattle.chip_core.specs.declared.owners.Owner.TheVariants.{Transfer}

-- a channel of DMA is one of the three
abbrev pub IsChannel : Owner → Type 0
IsChannel (Transfer channel) = channel < 3
IsChannel owner = Unit {0}
