use Rattle.stimulus.proofs.Order.{none_after-empty, none_after-last}
use Rattle.stimulus.proofs.events.none_after.Goals as goal

pub returns-in-Some : goal.returns-in-Some
returns-in-Some c = none_after-last c.args.tick c.args.events.now c.in-Some.last.now c.requires c.in-Some.ensures.item.3.0 c.in-Some.ensures.item.3.1

pub returns-in-None : goal.returns-in-None
returns-in-None c = none_after-empty c.args.tick c.args.events.now c.in-None.ensures.item.3
