use Rattle.std.proofs.Common.{◌∙◌}
use Rattle.power_schedule.proofs.Order.{ordered_cuts_are_taken}
use Rattle.stimulus.proofs.cuts.build_schedule.Goals as goal

pub unreachable-requires : goal.unreachable-requires
unreachable-requires c =
    let taken = ordered_cuts_are_taken c.args.cuts.now c.requires.in_order in
    let refused = rw c.in-Err-BadCut.field-0-is at c.in-Err-BadCut.ensures.schedule in
    let same = refused (λ e. cc) ∙ taken in
    cc

pub returns-in-Ok : goal.returns-in-Ok
returns-in-Ok c =
    let taken = ordered_cuts_are_taken c.args.cuts.now c.requires.in_order in
    let same = c.in-Ok.ensures.schedule (λ e. cc) ∙ taken in
    cc
