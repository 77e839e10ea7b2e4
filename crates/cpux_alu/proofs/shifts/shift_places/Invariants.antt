use Rattle.std.proofs.Common.{◌≡◌, ◌<◌}
use Rattle.chip_words.specs.Sizes.{span}
use Rattle.cpux_alu.specs.Shifts.{shift_places}
use Rattle.cpux_alu.proofs.shifts.shift_places.Given as goal

abbrev pub invariant-places : goal.invariant-places
invariant-places l = record {
  shifted : l.shifted ≡ shift_places l.op (span l.size) l.counter l.fn.from;
  range : l.shifted.value < span l.size;
}
