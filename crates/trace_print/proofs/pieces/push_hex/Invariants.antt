use Rattle.std.proofs.Common.{◌≡◌, ◌+◌, ◌-◌, ◌++◌, ◌/◌, ◌^◌, ◌*◌}
use Rattle.arrayvec.specs.ArrayVec.{array_vec_len}
use Rattle.trace_print.specs.Digits.{hex_digits}
use Rattle.trace_print.proofs.pieces.push_hex.Given as goal

-- the digits above the place are written
abbrev pub invariant-loop-place : goal.invariant-loop-place
invariant-loop-place l = record {
  text : l.line.items ≡ l.fn.line.items ++ hex_digits (l.count - l.place) (l.value / 2 ^ (4 * l.place));
  len : array_vec_len l.line + l.place ≡ array_vec_len l.fn.line + l.count;
}
