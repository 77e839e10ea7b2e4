use Rattle.std.proofs.Common.{◌≡◌, ℕ, true, false, ◌<◌, ◌≤◌, nat_le, rules, arith}
use Rattle.std.proofs.lemmas.Bool.Decides.{nat_tests}
use Rattle.std.proofs.lemmas.List.Sorted.{IsPartitionPoint-from_clause, IsPartitionedBy-leb}
use Rattle.power_schedule.specs.declared.cuts.Cut.{Cut}
use Rattle.power_schedule.proofs.Order.{ticks_rise}
use Rattle.power_schedule.proofs.schedules.count_begun.Goals as goal

at_most : (a b : ℕ) → nat_le a b ≡ true → a ≤ b
at_most a b held = grind (arith, nat_tests)

above : (a b : ℕ) → nat_le a b ≡ false → b < a
above a b held = grind (arith, nat_tests)

pub returns-clause-begun : goal.returns-clause-begun
returns-clause-begun c =
    let tick = c.args.tick in
    let sorted = IsPartitionedBy-leb (λ (cut : Cut). cut.tick) c.args.cuts.now tick (ticks_rise c.args.cuts.now c.requires) in
    let point = IsPartitionPoint-from_clause (λ (cut : Cut). nat_le cut.tick tick) _ _ c.partition_point.ensures.partitioned sorted (λ a r f k. search rules) in
    (λ k d l h. at_most _ _ (point.0 k d l h), λ k d l h. above _ _ (point.1 k d l h))
