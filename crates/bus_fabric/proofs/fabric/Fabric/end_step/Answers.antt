use Rattle.std.proofs.Common.{◌≡◌, arith}
use Rattle.std.proofs.lemmas.Bool.Decides.{nat_tests}
use Rattle.bus_fabric.specs.Fabric.{bus_part_of}
use Rattle.bus_fabric.proofs.NothingNoted.{nothing_ends}
use Rattle.bus_fabric.proofs.fabric.Fabric.end_step.Goals as goal

pub returns-else-self-ne0 : goal.returns-else-self-ne0
returns-else-self-ne0 c =
    let none : (bus_part_of c.args.self.now).noted ≡ 0 = grind (arith, nat_tests, c.if-self-ne0.false) in
    record { step = nothing_ends (bus_part_of c.args.self.now) none }
