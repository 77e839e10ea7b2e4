use Rattle.std.proofs.Common.{◌-◌, ◌<◌, get_or, ap, arith}
use Rattle.power_schedule.specs.declared.cuts.Cut.{Cut}
use Rattle.power_schedule.specs.Cuts.{last_tick}
use Rattle.power_schedule.proofs.OnUntil.{not_on_at_cut, not_on_in_stretch, on_within}
use Rattle.power_schedule.proofs.schedules.power_until.Goals as goal
use Rattle.power_schedule.proofs.schedules.power_until.Goals.{else-begun-gt0-via-then-begun-gt0+else-is_within, else-begun-gt0-via-else-begun-gt0}

abbrev none : Cut
none = record { tick = 0; writes = 0; off = 0 }

pub returns-then-is_within-clause-stops : goal.returns-then-is_within-clause-stops
returns-then-is_within-clause-stops c _ =
    let cuts = c.args.cuts.now in
    let last = c.count_begun-begun.result - 1 in
    let count = c.count_begun-begun.ensures in
    not_on_in_stretch c.args.tick cuts last none c.requires (omega arith) (count.begun.0 last none (omega arith) (omega arith)) (c.is_within.ensures.0 c.if-is_within.true)

pub returns-in-Some-clause-on : goal.returns-in-Some-clause-on
returns-in-Some-clause-on c =
    let cuts = c.args.cuts.now in
    let n = c.count_begun-begun.result in
    let over : 0 < n → last_tick (get_or cuts (n - 1) none) < c.args.tick =
    λ some. elim c.else-begun-gt0.branch [
      | else-begun-gt0-via-then-begun-gt0+else-is_within w ↦ grind (arith, w.is_within.ensures)
      | else-begun-gt0-via-else-begun-gt0 w ↦ absurd (omega arith)
    ] in
    on_within c.args.tick c.in-Some.next.now.tick cuts n none c.requires c.count_begun-begun.ensures.within over (λ inside. rw (c.in-Some.ensures.lookup.3.1 none) (omega arith))

pub returns-in-Some-clause-stops : goal.returns-in-Some-clause-stops
returns-in-Some-clause-stops c _ =
    let item = c.in-Some.ensures.lookup.3 in
    not_on_at_cut c.in-Some.next.now.tick c.args.cuts.now c.count_begun-begun.result none c.requires item.0 (ap (λ (cut : Cut). cut.tick) (item.1 none))

pub returns-in-None-clause-on : goal.returns-in-None-clause-on
returns-in-None-clause-on c =
    let cuts = c.args.cuts.now in
    let n = c.count_begun-begun.result in
    let over : 0 < n → last_tick (get_or cuts (n - 1) none) < c.args.tick =
    λ some. elim c.else-begun-gt0.branch [
      | else-begun-gt0-via-then-begun-gt0+else-is_within w ↦ grind (arith, w.is_within.ensures)
      | else-begun-gt0-via-else-begun-gt0 w ↦ absurd (omega arith)
    ] in
    on_within c.args.tick 4294967295 cuts n none c.requires c.count_begun-begun.ensures.within over (λ inside. absurd (omega (arith, c.in-None.ensures.lookup.3)))
