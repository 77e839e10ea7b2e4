use Rattle.std.proofs.Common.{◌≡◌, ◌∙◌, ◌+◌, ◌≤◌, [], ap, arith, inl, inr, sym}
use Rattle.std.proofs.lemmas.Bool.{cases_lt}
use Rattle.chip_core.specs.Items.{items_of}
use Rattle.chip_core.specs.Lines.{lines_of}
use Rattle.chip_core.proofs.SilentTicks.{are_none, ended_after, last_tick, next_tick, run_after, run_tick, silent_run}
use Rattle.chip_core.proofs.chips.Chip.run.Goals as goal

pub loop-self-init : goal.loop-self-init
loop-self-init c =
    let next = next_tick _ _ _ c.tick.ensures.chip in
    let view = ap (λ chip. chip.tick) c.self.view_is in
    let some = c.requires.some in
    record {
      some = omega arith;
      silent = λ k none. absurd (omega (arith, none));
      chip = c.tick.ensures.chip;
      lines = c.tick.ensures.lines;
      items = c.tick.ensures.items;
      printable = c.tick.ensures.printable;
      given = c.tick.ensures.given;
      tick = next;
      within = omega (arith, next, some);
      plain = λ tick from to. absurd (omega (arith, view, from, to));
      before = omega (arith, view, next, some);
    }

pub advance-done-requires-clause-ended : goal.advance-done-requires-clause-ended
advance-done-requires-clause-ended c =
    ended_after c.loop-self.done c.args.bench.now c.args.self.now c.loop-self.self c.loop-self.invariant.some c.loop-self.invariant.chip

-- the ticks go by
ticks : (c : goal.After-advance-done) → (c.advance-done.new.self).tick ≡ (c.loop-self.self).tick + c.advance-done.result
ticks c = ap (λ chip. chip.tick) c.advance-done.ensures.chip ∙ run_tick c.advance-done.result c.args.bench.now c.loop-self.self

pub loop-self-smaller : goal.loop-self-smaller
loop-self-smaller c =
    let view = ap (λ chip. chip.tick) c.self-in-loop-self.view_is in
    omega (arith, ticks c, view, c.loop-self-test.true, c.loop-self.invariant.within, c.advance-done.ensures.some)

pub loop-self-preserved : goal.loop-self-preserved
loop-self-preserved c =
    let view = ap (λ chip. chip.tick) c.self-in-loop-self.view_is in
    let before = c.plain_until-until.ensures.within in
    let some = c.advance-done.ensures.some in
    let no_line : c.loop-self.lines.items ≡ [] = are_none c.loop-self.lines.items (sym c.is_empty.ensures ∙ c.if-is_empty.true) in
    let no_item : c.loop-self.items.items ≡ [] = are_none c.loop-self.items.items (sym c.is_empty-then-is_empty.ensures ∙ c.if-is_empty-2.true) in
    let last = last_tick c.advance-done.result c.loop-self.done c.args.bench.now c.args.self.now c.loop-self.self some c.loop-self.invariant.chip in
    let within : (c.loop-self.self).tick + c.advance-done.result ≤ c.args.end = elim (cases_lt 1 c.advance-done.result) [
      | inl many ↦ let most = c.advance-done.ensures.within many in omega (arith, most, before)
      | inr one ↦ omega (arith, one, view, c.loop-self-test.true, c.loop-self.invariant.within)
    ] in
    record {
      some = omega (arith, some);
      silent =
          silent_run c.advance-done.result c.loop-self.done c.args.bench.now c.args.self.now c.loop-self.self some c.loop-self.invariant.some c.loop-self.invariant.chip
          c.loop-self.invariant.silent
          (record { lines = sym c.loop-self.invariant.lines ∙ no_line; items = sym c.loop-self.invariant.items ∙ no_item })
          c.advance-done.ensures.silent;
      chip = run_after c.advance-done.result c.loop-self.done c.args.bench.now c.args.self.now c.loop-self.self _ c.loop-self.invariant.chip c.advance-done.ensures.chip;
      lines = c.advance-done.ensures.lines ∙ ap (lines_of c.args.bench.now) last;
      items = c.advance-done.ensures.items ∙ ap (items_of c.args.bench.now) last;
      printable = c.advance-done.ensures.printable;
      given = c.advance-done.ensures.given;
      tick = omega (arith, ticks c, c.loop-self.invariant.tick);
      within = omega (arith, ticks c, within);
      plain = λ tick from to. c.plain_until-until.ensures.plain tick (omega (arith, ticks c, from)) to;
      before = before;
    }
