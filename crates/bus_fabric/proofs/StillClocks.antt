-- Clock edges that nobody counts leave the units as they are.
use Rattle.std.proofs.Common.{◌≡◌, ◌∙◌, Bool, false, List, sym, ap}
use Rattle.chip_words.specs.declared.fired.Fired.{Fired}
use Rattle.chip_words.specs.BusPart.{BusPart}
use Rattle.chip_words.specs.Channel.{Channel}
use Rattle.chip_words.specs.Dma.{dma_fired}
use Rattle.chip_words.specs.Sys.{sys_fired}
use Rattle.chip_words.specs.Timers.{Timers, fired}
use Rattle.chip_words.specs.Units.{Units, units_clocked}
use Rattle.timer_unit.specs.Edges.{some_counts}
use Rattle.dma_unit.proofs.NoTrigger.{none_fires}
use Rattle.timer_unit.proofs.Still.{still_fires_nothing, still_stays}

-- the units behind clock edges, by what these leave of the timers and what the timers set off
abbrev clocked_by : Timers → Fired → Units → Units
clocked_by timers fired units = record units {
  timers = timers;
  sys = sys_fired fired units.sys;
  dma = dma_fired fired.triggers units.dma;
}

pub still_clocks : (units : Units) (smclk aclk : Bool) → some_counts units.timers smclk aclk ≡ false → units_clocked smclk aclk units ≡ units
unfolding dma_fired
still_clocks units smclk aclk none =
    ap {A = Timers} {B = Units} (λ timers. clocked_by timers (fired units.timers smclk aclk) units) (still_stays units.timers smclk aclk none)
    ∙ ap {A = Fired} {B = Units} (λ fired. clocked_by units.timers fired units) (still_fires_nothing units.timers smclk aclk none)
    ∙ ap {A = List Channel} {B = Units} (λ channels. record units { dma = record units.dma { channels = channels } }) (none_fires (units.dma).channels)

pub still_units : (part : BusPart) (smclk aclk : Bool) → some_counts (part.units).timers smclk aclk ≡ false → part ≡ record part { units = units_clocked smclk aclk part.units }
still_units part smclk aclk none = ap {A = Units} {B = BusPart} (λ units. record part { units = units }) (sym (still_clocks part.units smclk aclk none))
