use Rattle.std.proofs.Common.{arith}
use Rattle.port_unit.specs.Pins.{port_of}
use Rattle.port_unit.proofs.SameLevels.{same_levels-driven, same_levels-not_driven}
use Rattle.port_unit.proofs.pins.Pins.has_same_levels.Goals as goal

pub returns-then-one-other : goal.returns-then-one-other
returns-then-one-other c =
    same_levels-driven c.of_port-one.result c.of_port-other.result (port_of c.args.port c.args.self.now) (port_of c.args.port c.args.other.now) c.of_port-one.ensures c.of_port-other.ensures (omega arith) (omega arith) c.if-one-other.true

pub returns-else-one-other : goal.returns-else-one-other
returns-else-one-other c =
    same_levels-not_driven c.of_port-one.result c.of_port-other.result (port_of c.args.port c.args.self.now) (port_of c.args.port c.args.other.now) c.of_port-one.ensures c.of_port-other.ensures (omega arith) (omega arith) c.if-one-other.false
