use Rattle.std.proofs.Common.{◌≡◌, ◌∙◌, ℕ, true, false, nat_le, ◌-◌, get_or, Ok, sym, ap, arith}
use Rattle.std.proofs.lemmas.Bool.Decides.{nat_tests}
use Rattle.power_schedule.specs.declared.cuts.Cut.{Cut}
use Rattle.power_schedule.specs.Cuts.{is_early, last_tick}
use Rattle.power_schedule.proofs.Order.{AreOrdered-from_none_early, is_early-behind, schedule_of-refused, schedule_of-taken}
use Rattle.power_schedule.proofs.schedules.Schedule.build.Goals as goal
use borrow.Author.Count.{below_more}

pub returns-then-cuts-index-clause-schedule : goal.returns-then-cuts-index-clause-schedule
returns-then-cuts-index-clause-schedule c _ =
    let cuts = c.args.cuts.now in
    let index = c.loop-index.index in
    let none : Cut = record { tick = 0; writes = 0; off = 0 } in
    let early : nat_le (get_or cuts index none).tick (last_tick (get_or cuts (index - 1) none)) ≡ true = grind (arith, nat_tests, c.if-cuts-index.true) in
    sym (schedule_of-refused cuts index c.loop-index-test.true c.loop-index.invariant.none_early (is_early-behind cuts index none (omega arith) c.loop-index-test.true ∙ early))

pub loop-index-preserved : goal.loop-index-preserved
loop-index-preserved c =
    let cuts = c.args.cuts.now in
    let index = c.loop-index.index in
    let none : Cut = record { tick = 0; writes = 0; off = 0 } in
    let late : nat_le (get_or cuts index none).tick (last_tick (get_or cuts (index - 1) none)) ≡ false = grind (arith, nat_tests, c.if-cuts-index.false) in
    record { none_early = below_more (λ (k : ℕ). is_early cuts k ≡ false) index c.loop-index.invariant.none_early (is_early-behind cuts index none (omega arith) c.loop-index-test.true ∙ late) }

pub invariant_of-result : goal.invariant_of-result
invariant_of-result c =
    let same = c.in-Ok.ensures.items_if_clones_equal (λ x y e. e) in
    rw same (AreOrdered-from_none_early c.args.cuts.now (λ k h. c.loop-index.invariant.none_early k (omega (arith, c.loop-index-test.false))))

pub returns-in-Ok-clause-schedule : goal.returns-in-Ok-clause-schedule
returns-in-Ok-clause-schedule c _ =
    let same = c.in-Ok.ensures.items_if_clones_equal (λ x y e. e) in
    ap Ok same ∙ sym (schedule_of-taken c.args.cuts.now (λ k h. c.loop-index.invariant.none_early k (omega (arith, c.loop-index-test.false))))

pub returns-in-Ok-clause-ordered : goal.returns-in-Ok-clause-ordered
returns-in-Ok-clause-ordered c =
    let same = c.in-Ok.ensures.items_if_clones_equal (λ x y e. e) in
    rw same (AreOrdered-from_none_early c.args.cuts.now (λ k h. c.loop-index.invariant.none_early k (omega (arith, c.loop-index-test.false))))
