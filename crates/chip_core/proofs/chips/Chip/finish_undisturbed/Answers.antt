use Rattle.std.proofs.Common.{◌≡◌, ◌∙◌, ◌-◌, true, false, nat_lt, sym, ap, arith}
use Rattle.std.proofs.lemmas.Bool.Decides.{nat_tests}
use Rattle.chip_core.specs.State.{State}
use Rattle.chip_core.proofs.IdleTicks.{busy_after, busy_items, busy_lines, stepless_after, stepless_items, stepless_lines}
use Rattle.chip_core.proofs.chips.Chip.finish_undisturbed.Goals as goal

pub returns-then-self-gt0-clause-chip : goal.returns-then-self-gt0-clause-chip
returns-then-self-gt0-clause-chip c =
    let busy : nat_lt 0 c.self.inside.busy ≡ true = grind (arith, nat_tests, c.if-self-gt0.true) in
    ap {A = State} {B = State} (λ chip. record chip { busy = chip.busy - 1 }) c.self.view_is
    ∙ busy_after c.args.self.now c.requires.undisturbed (sym (ap (λ chip. nat_lt 0 chip.busy) c.self.view_is) ∙ busy)

pub returns-then-self-gt0-clause-lines : goal.returns-then-self-gt0-clause-lines
returns-then-self-gt0-clause-lines c =
    let busy : nat_lt 0 c.self.inside.busy ≡ true = grind (arith, nat_tests, c.if-self-gt0.true) in
    busy_lines (c.args.lines.now).items c.args.self.now c.requires.undisturbed (sym (ap (λ chip. nat_lt 0 chip.busy) c.self.view_is) ∙ busy) c.requires.no_line

pub returns-then-self-gt0-clause-items : goal.returns-then-self-gt0-clause-items
returns-then-self-gt0-clause-items c =
    let busy : nat_lt 0 c.self.inside.busy ≡ true = grind (arith, nat_tests, c.if-self-gt0.true) in
    busy_items (c.args.items.now).items c.args.self.now c.requires.undisturbed (sym (ap (λ chip. nat_lt 0 chip.busy) c.self.view_is) ∙ busy) c.requires.no_item

pub returns-then-makes_no_step-clause-chip : goal.returns-then-makes_no_step-clause-chip
returns-then-makes_no_step-clause-chip c =
    let rested : nat_lt 0 c.self.inside.busy ≡ false = grind (arith, nat_tests, c.if-self-gt0.false) in
    stepless_after c.args.self.now c.requires.undisturbed (sym (ap (λ chip. nat_lt 0 chip.busy) c.self.view_is) ∙ rested) (sym c.if-makes_no_step.ensures)

pub returns-then-makes_no_step-clause-lines : goal.returns-then-makes_no_step-clause-lines
returns-then-makes_no_step-clause-lines c =
    let rested : nat_lt 0 c.self.inside.busy ≡ false = grind (arith, nat_tests, c.if-self-gt0.false) in
    stepless_lines (c.args.lines.now).items c.args.self.now c.requires.undisturbed (sym (ap (λ chip. nat_lt 0 chip.busy) c.self.view_is) ∙ rested) (sym c.if-makes_no_step.ensures) c.requires.no_line

pub returns-then-makes_no_step-clause-items : goal.returns-then-makes_no_step-clause-items
returns-then-makes_no_step-clause-items c =
    let rested : nat_lt 0 c.self.inside.busy ≡ false = grind (arith, nat_tests, c.if-self-gt0.false) in
    stepless_items (c.args.items.now).items c.args.self.now c.requires.undisturbed (sym (ap (λ chip. nat_lt 0 chip.busy) c.self.view_is) ∙ rested) (sym c.if-makes_no_step.ensures) c.requires.no_item
