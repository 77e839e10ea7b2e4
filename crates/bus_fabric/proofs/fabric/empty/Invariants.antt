use Rattle.arrayvec.specs.ArrayVec.{array_vec_len}
use Rattle.bus_fabric.proofs.fabric.empty.Given as goal

abbrev pub decreases-loop : goal.decreases-loop
decreases-loop l = array_vec_len l.accesses
