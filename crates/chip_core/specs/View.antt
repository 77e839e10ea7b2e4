-- What a chip shows of itself.
use Rattle.std.specs.Prelude.{is_none}
use Rattle.chip_words.specs.Encap.{seal}
use Rattle.chip_core.specs.declared.views.View.{View}
use Rattle.chip_core.specs.State.{State}

abbrev pub view_of : State → View
view_of chip = record {
  tick = chip.tick;
  powered = chip.powered;
  booted = is_none chip.boot;
  halted = chip.halted;
  dead = chip.dead;
  keep = chip.keep;
  seal = seal ((chip.bus).units).encap;
  kept = (chip.bus).kept;
}
