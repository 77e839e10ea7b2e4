use Rattle.std.proofs.Common.{◌≡◌, drop}
use Rattle.chip_words.specs.Timer.{least_waiting as least_waiting_from}
use Rattle.timer_unit.proofs.timer.least_waiting.Given as goal

abbrev pub invariant-loop-n : goal.invariant-loop-n
invariant-loop-n l = least_waiting_from l.n (drop l.n l.cctl) ≡ least_waiting_from 1 (drop 1 l.cctl)
