use Rattle.cpux_alu.proofs.Scaled.{shifts_scale as scaled}
use Rattle.cpux_alu.proofs.laws.shifts_scale.Goals as goal

pub returns : goal.returns
returns c = scaled
