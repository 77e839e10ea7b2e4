use Rattle.std.proofs.Common.{sym, arith}
use Rattle.port_unit.proofs.LeastPin.{least_pin-zeros, least_pin-below}
use Rattle.port_unit.proofs.pairs.first_set.Goals as goal

pub returns-else-byte-eq0-clause-pin : goal.returns-else-byte-eq0-clause-pin
returns-else-byte-eq0-clause-pin c = sym (least_pin-zeros c.args.byte (omega arith) (omega arith))

pub returns-else-byte-eq0-clause-number : goal.returns-else-byte-eq0-clause-number
returns-else-byte-eq0-clause-number c = rw (least_pin-zeros c.args.byte (omega arith) (omega arith)) at (least_pin-below c.args.byte)
