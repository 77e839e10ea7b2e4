use Rattle.std.proofs.Common.{◌-◌, arith, append_assoc}
use Rattle.std.proofs.lemmas.Grind.{common_steps}
use Rattle.trace_print.proofs.HexDigits.{hex_digits-zero, hex_digits-next}
use Rattle.trace_print.proofs.pieces.push_hex.Goals as goal

pub loop-place-init : goal.loop-place-init
loop-place-init c = grind (arith, common_steps, hex_digits-zero)

pub loop-place-preserved : goal.loop-place-preserved
loop-place-preserved c =
    let left = c.loop-place.place - 1 in
    let next = hex_digits-next c.args.value (c.args.count - left) (c.args.count - c.loop-place.place) left c.loop-place.place (omega arith) (omega arith) in
    record {
      text = rw (c.push.ensures.items, c.loop-place.invariant.text, next, append_assoc);
      len = omega arith;
    }
