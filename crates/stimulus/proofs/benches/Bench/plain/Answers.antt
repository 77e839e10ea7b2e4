use Rattle.std.proofs.Common.{All, arith}
use Rattle.power_schedule.specs.Cuts.{AreOrdered}
use Rattle.stimulus.specs.Cuts.{IsCut}
use Rattle.stimulus.proofs.Order.{IsBench-plain}
use Rattle.stimulus.proofs.benches.Bench.plain.Goals as goal

pub invariant_of-result : goal.invariant_of-result
invariant_of-result c =
    let cuts = c.in_ok-schedule.schedule in
    let same = c.in_ok-schedule.ensures in
    let in_range : All (IsCut c.args.end) cuts = rw same c.requires.cuts_in_range in
    let in_order : AreOrdered cuts = rw same c.requires.cuts_in_order in
    IsBench-plain c.args.end c.args.fill c.new.result.items cuts c.requires.some_ticks c.requires.few_ticks (omega arith) c.new.ensures.items in_range in_order
