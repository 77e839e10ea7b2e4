use Rattle.std.proofs.Common.{arith}
use Rattle.bus_fabric.proofs.Writes.{is_first_memory}
use Rattle.bus_fabric.proofs.memory.write_first.Goals as goal

pub returns : goal.returns
returns c =
    let info = c.fill_within.ensures in
    let sram = c.fill_within-2.ensures in
    let main = c.fill_within-3.ensures in
    record { memory = is_first_memory _ _ _ _ _ c.requires.blank (omega arith) (record { inside = info.inside; below = info.below; above = info.above }) (record { inside = sram.inside; below = sram.below; above = sram.above }) (record { inside = main.inside; below = main.below; above = main.above }) }
