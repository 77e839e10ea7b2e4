use Rattle.std.proofs.Common.{◌≡◌, ◌-◌, length, take, drop, arith}
use Rattle.std.proofs.lemmas.List.{length-drop, take_all}
use Rattle.stimulus.proofs.OnTick.{on_tick-found}
use Rattle.stimulus.proofs.events.events_on_tick.Goals as goal

pub returns : goal.returns
returns c =
    let events = c.args.events.now in
    let start = c.count_before-start.result in
    let whole : take (length events - start) (drop start events) ≡ drop start events = take_all (length events - start) (drop start events) (simp length-drop (omega arith)) in
    rw whole (on_tick-found c.args.tick events start c.count_up_to-count.result c.count_before-start.ensures.within (rw whole at c.count_up_to-count.ensures.within) c.count_before-start.ensures.start (rw whole at c.count_up_to-count.ensures.end))
