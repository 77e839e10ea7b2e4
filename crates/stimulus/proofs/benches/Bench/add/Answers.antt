use Rattle.std.proofs.Common.{◌<◌, IsTrue, is_ok, subst, sym}
use Rattle.stimulus.specs.Events.{may_follow}
use Rattle.stimulus.specs.Stimulus.{Stimulus}
use Rattle.stimulus.proofs.Order.{IsBench-pushed}
use Rattle.stimulus.proofs.benches.Bench.add.Goals as goal

pub invariant_of-self : goal.invariant_of-self
invariant_of-self c =
    let before : Stimulus = record { end = c.self.inside.end; fill = c.self.inside.fill; events = c.self.inside.events.items; cuts = c.self.inside.schedule } in
    let follows = subst (λ (bench : Stimulus). IsTrue (may_follow bench.events c.args.event)) (sym c.self.view_is) c.requires.follows in
    let before_end = subst (λ (bench : Stimulus). c.args.event.tick < bench.end) (sym c.self.view_is) c.requires.before_end in
    IsBench-pushed before c.args.event (is_ok c.push.result) c.push.new.self.items c.self.invariant follows before_end c.requires.in_range c.push.ensures.items
