use Rattle.power_schedule.proofs.Done.{each_cut_is_done}
use Rattle.power_schedule.proofs.laws.each_cut_is_done.Goals as goal

pub returns : goal.returns
returns c = each_cut_is_done
