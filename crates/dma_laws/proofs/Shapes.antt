-- The shape of a transfer.
use Rattle.dma_unit.specs.Moves.{transfer}
use Rattle.dma_laws.specs.Accesses.{TransfersReadThenWrite}

pub transfers_read_then_write : TransfersReadThenWrite
unfolding transfer
transfers_read_then_write step = λ value written. tt
