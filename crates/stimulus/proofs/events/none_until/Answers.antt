use Rattle.std.proofs.Common.{arith}
use Rattle.stimulus.proofs.OnTick.{none_within, some_at}
use Rattle.stimulus.proofs.events.none_until.Goals as goal

pub returns-in-Some-clause-none : goal.returns-in-Some-clause-none
returns-in-Some-clause-none c =
    let item = c.in-Some.ensures.lookup.3 in
    none_within c.args.tick c.in-Some.next.now.tick c.args.events.now c.count_before.result c.requires c.count_before.ensures.start (λ d within. rw (← item.1 d) (omega arith))

pub returns-in-Some-clause-stops : goal.returns-in-Some-clause-stops
returns-in-Some-clause-stops c _ =
    let item = c.in-Some.ensures.lookup.3 in
    rw (item.1 c.in-Some.next.now) (some_at c.args.events.now c.count_before.result c.in-Some.next.now item.0)

pub returns-in-None-clause-none : goal.returns-in-None-clause-none
returns-in-None-clause-none c =
    none_within c.args.tick 4294967295 c.args.events.now c.count_before.result c.requires c.count_before.ensures.start (λ d within. absurd (omega (arith, c.in-None.ensures.lookup.3)))
