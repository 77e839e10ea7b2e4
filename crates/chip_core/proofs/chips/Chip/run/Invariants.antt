use Rattle.std.proofs.Common.{◌≡◌, ◌+◌, ◌-◌, ◌≤◌, All}
use Rattle.chip_core.specs.Items.{IsItem, items_of}
use Rattle.chip_core.specs.Lines.{lines_of}
use Rattle.chip_core.specs.Run.{AreSilent, chip_after}
use Rattle.stimulus.specs.Stimulus.{IsPlainWithin}
use Rattle.trace_print.specs.Lines.{IsPrintable}
use Rattle.chip_core.proofs.chips.Chip.run.Given as goal

-- no tick that was done has a line or an item, but maybe the last
abbrev pub invariant-loop-self : goal.invariant-loop-self
invariant-loop-self l = record {
  some : 1 ≤ l.done;
  silent : AreSilent (l.done - 1) l.bench l.fn.self;
  chip : l.self ≡ chip_after l.done l.bench l.fn.self;
  lines : (l.lines).items ≡ lines_of l.bench (chip_after (l.done - 1) l.bench l.fn.self);
  items : (l.items).items ≡ items_of l.bench (chip_after (l.done - 1) l.bench l.fn.self);
  printable : All IsPrintable (l.lines).items;
  given : All IsItem (l.items).items;
  tick : (l.self).tick ≡ (l.fn.self).tick + l.done;
  within : (l.self).tick ≤ l.end;
  plain : IsPlainWithin (l.self).tick l.until l.bench;
  before : l.until ≤ l.end;
}

abbrev pub decreases-loop-self : goal.decreases-loop-self
decreases-loop-self l = l.end - (l.self).tick
