use Rattle.std.proofs.Common.{arith}
use Rattle.bus_fabric.proofs.Writes.{copies_fram}
use Rattle.bus_fabric.proofs.memory.copy_fram.Goals as goal

pub returns : goal.returns
returns c =
    let info = c.copy_within.ensures in
    let main = c.copy_within-2.ensures in
    record { fram = copies_fram _ _ _ _ (omega arith) (record { inside = info.inside; below = info.below; above = info.above }) (record { inside = main.inside; below = main.below; above = main.above }) }
