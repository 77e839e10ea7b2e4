use Rattle.std.proofs.Common.{◌≡◌}
use Rattle.cpux_extended.specs.RegisterForm.{one_once, repeated}
use Rattle.cpux_extended.proofs.register_form.repeat_one.Given as goal

-- done so many times
abbrev pub invariant-loop : goal.invariant-loop
invariant-loop l = l.regs ≡ repeated l.counter (one_once l.op l.size l.r (l.rep).zero_carry) l.fn.regs
