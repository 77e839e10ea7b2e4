use Rattle.std.proofs.Common.{◌≡◌, ◌∙◌, true, sym, ap, arith}
use Rattle.chip_core.proofs.Waits.{IsAdvanced, IsAlone, advanced}
use Rattle.chip_core.proofs.chips.Chip.advance.Goals as goal

is_advanced : (c : goal.After-tick_alone) → IsAdvanced c.wait-waits.result c.args.bench.now c.args.self.now c.tick_alone.new.self (c.tick_alone.new.lines).items (c.tick_alone.new.items).items
is_advanced c =
    let powered : c.self.inside.powered ≡ true = grind (arith, c.if-not-self.false) in
    let tick = ap (λ chip. chip.tick) c.self.view_is in
    let is : IsAlone c.args.until c.args.bench.now c.args.self.now = record {
      powered = sym (ap (λ chip. chip.powered) c.self.view_is) ∙ powered;
      alone = sym c.if-not-is_alone.ensures;
      ended = c.requires.ended;
      before = omega (arith, tick, c.if-until-self.false);
      plain = c.requires.plain;
    } in
    advanced c.wait-waits.result c.args.until c.args.bench.now c.args.self.now _ _ _ _ is c.wait-waits.ensures.busy c.wait-waits.ensures.within c.wait-waits.ensures.chip c.tick_alone.ensures.chip c.tick_alone.ensures.lines c.tick_alone.ensures.items

pub returns-clause-silent : goal.returns-clause-silent
returns-clause-silent c = (is_advanced c).silent

pub returns-clause-chip : goal.returns-clause-chip
returns-clause-chip c = (is_advanced c).is_after

pub returns-clause-lines : goal.returns-clause-lines
returns-clause-lines c = (is_advanced c).are_lines

pub returns-clause-items : goal.returns-clause-items
returns-clause-items c = (is_advanced c).are_items
