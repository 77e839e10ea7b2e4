use Rattle.std.proofs.Common.{nat_lt, refl, rules}
use Rattle.std.proofs.lemmas.List.Sorted.{IsPartitionPoint-from_clause, IsPartitionedBy-ltb}
use Rattle.stimulus.specs.declared.events.Event.{Event}
use Rattle.stimulus.proofs.OnTick.{start_found, start_is}
use Rattle.stimulus.proofs.events.count_before.Goals as goal

pub returns-then-goes_on_from-clause-start : goal.returns-then-goes_on_from-clause-start
returns-then-goes_on_from-clause-start c =
    start_is c.args.tick c.args.events.now c.args.guess c.requires.sorted (c.if-ends_before.ensures.last refl) (c.if-goes_on_from.ensures.next refl) (c.if-ends_before.ensures.within refl)

pub returns-else-ends_before-clause-start : goal.returns-else-ends_before-clause-start
returns-else-ends_before-clause-start c =
    let tick = c.args.tick in
    let sorted = IsPartitionedBy-ltb (λ (event : Event). event.tick) c.args.events.now tick c.requires.sorted in
    start_found tick c.args.events.now _ (IsPartitionPoint-from_clause (λ (event : Event). nat_lt event.tick tick) _ _ c.partition_point.ensures.partitioned sorted (λ a r f k. search rules))
