use Rattle.std.proofs.Common.{◌≡◌, ◌+◌, ◌*◌, ◌++◌, take}
use Rattle.arrayvec.specs.ArrayVec.{array_vec_len}
use Rattle.trace_print.specs.Releases.{registers_text}
use Rattle.trace_print.proofs.release_lines.push_registers.Given as goal

-- the registers so far are written, each as six characters
abbrev pub invariant-loop-register : goal.invariant-loop-register
invariant-loop-register l = record {
  text : l.line.items ≡ l.fn.line.items ++ registers_text (take l.register-index l.registers);
  len : array_vec_len l.line ≡ array_vec_len l.fn.line + 6 * l.register-index;
}
