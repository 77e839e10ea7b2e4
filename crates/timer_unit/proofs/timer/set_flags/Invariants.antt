use Rattle.std.proofs.Common.{◌≡◌, false}
use Rattle.timer_unit.proofs.CompareRegisters.{flagged_below}
use Rattle.timer_unit.proofs.timer.set_flags.Given as goal

abbrev pub invariant-loop-n : goal.invariant-loop-n
invariant-loop-n l = record {
  flags : flagged_below l.n l.r l.ccr l.cctl ≡ flagged_below 0 l.r l.ccr l.fn.cctl;
  none : l.is_flagged ≡ false → l.cctl ≡ l.fn.cctl;
}
