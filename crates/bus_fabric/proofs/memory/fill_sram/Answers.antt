use Rattle.std.proofs.Common.{arith}
use Rattle.bus_fabric.proofs.Writes.{fills_sram}
use Rattle.bus_fabric.proofs.memory.fill_sram.Goals as goal

pub returns : goal.returns
returns c =
    let w = c.fill_within.ensures in
    record { sram = fills_sram _ _ _ (omega arith) (record { inside = w.inside; below = w.below; above = w.above }) }
