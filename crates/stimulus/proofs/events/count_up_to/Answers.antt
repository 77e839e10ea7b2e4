use Rattle.std.proofs.Common.{nat_le, rules}
use Rattle.std.proofs.lemmas.List.Sorted.{IsPartitionPoint-from_clause, IsPartitionedBy-leb}
use Rattle.stimulus.specs.declared.events.Event.{Event}
use Rattle.stimulus.proofs.OnTick.{end_found, none_up_to}
use Rattle.stimulus.proofs.events.count_up_to.Goals as goal

pub returns-in-Some-clause-end : goal.returns-in-Some-clause-end
returns-in-Some-clause-end c =
    none_up_to c.args.tick c.args.events.now c.requires.sorted (λ d some. rw (← c.in-Some.ensures.item.3.1 d) (c.if-tick-first.true))

pub returns-in_default-clause-end : goal.returns-in_default-clause-end
returns-in_default-clause-end c =
    let tick = c.args.tick in
    let sorted = IsPartitionedBy-leb (λ (event : Event). event.tick) c.args.events.now tick c.requires.sorted in
    end_found tick c.args.events.now _ (IsPartitionPoint-from_clause (λ (event : Event). nat_le event.tick tick) _ _ c.partition_point.ensures.partitioned sorted (λ a r f k. search rules))
