-- What is left to push does from here what the whole did from the start.
use Rattle.std.proofs.Common.{◌≡◌, ◌+◌, ◌-◌, ◌*◌, ◌<◌, ◌≤◌, length}
use Rattle.chip_words.specs.declared.accesses.Agent.TheVariants.{Cpu}
use Rattle.chip_words.specs.Script.{run}
use Rattle.cpux_execute.specs.Operands.{accesses_of}
use Rattle.cpux_extended.specs.Stack.{pushed_below, pushed_many}
use Rattle.cpux_extended.proofs.stack.push_many.Given as goal

abbrev pub invariant-loop : goal.invariant-loop
invariant-loop g l = let part = g.B.Bus.part in record {
  place : l.sp < 0x100000;
  register : l.r < 16;
  room : length (part l.bus).accesses ≤ length (part l.fn.bus).accesses + l.counter * accesses_of l.size;
  same :
      run (Cpu l.fn.ia) (pushed_below l.size (l.count - l.counter) l.r l.sp l.regs) (part l.bus)
      ≡ run (Cpu l.fn.ia) (pushed_many l.size l.fn.count l.fn.reg l.fn.regs) (part l.fn.bus);
}
