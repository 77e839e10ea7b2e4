use Rattle.std.proofs.Common.{◌≡◌}
use Rattle.cpux_extended.specs.RegisterForm.{repeated, two_once}
use Rattle.cpux_extended.proofs.register_form.repeat_two.Given as goal

-- done so many times
abbrev pub invariant-loop : goal.invariant-loop
invariant-loop l = l.regs ≡ repeated l.counter (two_once l.op l.size l.from l.to (l.rep).zero_carry l.pc) l.fn.regs
