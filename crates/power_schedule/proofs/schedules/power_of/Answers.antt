use Rattle.std.proofs.Common.{◌∙◌}
use Rattle.power_schedule.proofs.LastBegun.{last_begun-begun, power_at-last_begun, power_at-none_begun}
use Rattle.power_schedule.proofs.schedules.power_of.Goals as goal

pub power_behind-requires : goal.power_behind-requires
power_behind-requires c =
    let count = c.count_begun.ensures in
    let item = c.in-Some.ensures.item.3 in
    record { begun = last_begun-begun c.args.tick c.args.cuts.now c.count_begun.result c.in-Some.cut.now count.within count.begun item.0 (item.1 c.in-Some.cut.now) }

pub returns-in-Some : goal.returns-in-Some
returns-in-Some c =
    let count = c.count_begun.ensures in
    let item = c.in-Some.ensures.item.3 in
    c.power_behind.ensures ∙ power_at-last_begun c.args.tick c.args.cuts.now c.count_begun.result c.in-Some.cut.now c.requires count.within count.begun item.0 (item.1 c.in-Some.cut.now)

pub returns-in-None : goal.returns-in-None
returns-in-None c = power_at-none_begun c.args.tick c.args.cuts.now c.count_begun.result c.count_begun.ensures.within c.count_begun.ensures.begun c.in-None.ensures.item.3
