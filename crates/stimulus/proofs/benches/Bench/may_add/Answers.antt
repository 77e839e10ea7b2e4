use Rattle.std.proofs.Common.{refl, sym, ◌∙◌, true, false, ◌≡◌}
use Rattle.stimulus.specs.Events.{may_follow, none_after}
use Rattle.stimulus.proofs.benches.Bench.may_add.Goals as goal

pub returns-then-none_after : goal.returns-then-none_after
unfolding may_follow
returns-then-none_after c =
    let none : none_after c.args.event.tick c.deref.result.now ≡ true = sym c.none_after.ensures ∙ c.if-none_after.true in
    rw (c.events.ensures.events, ← c.self.view_is, ← c.deref.ensures.value, none) refl

pub returns-else-none_after : goal.returns-else-none_after
unfolding may_follow
returns-else-none_after c =
    let none : none_after c.args.event.tick c.deref.result.now ≡ false = sym c.none_after.ensures ∙ c.if-none_after.false in
    rw (c.if-none_after.false, ← c.self.view_is, ← c.deref.ensures.value, none) refl
