use Rattle.std.proofs.Common.{arith}
use Rattle.timer_unit.proofs.CompareRegisters.{first_asks_nothing}
use Rattle.timer_unit.proofs.timer.Timer.new.Goals as goal

pub invariant_of-result : goal.invariant_of-result
invariant_of-result g c =
    (c.requires.0, c.requires.1, omega arith, omega arith, λ silent. first_asks_nothing g.row.REGISTERS c.requires.0)
