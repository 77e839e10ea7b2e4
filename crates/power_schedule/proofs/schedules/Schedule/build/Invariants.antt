use Rattle.std.proofs.Common.{◌≡◌, ℕ, false, ◌<◌}
use Rattle.power_schedule.specs.Cuts.{is_early}
use Rattle.power_schedule.proofs.schedules.Schedule.build.Given as goal

abbrev pub invariant-loop-index : goal.invariant-loop-index
invariant-loop-index l = record { none_early : (k : ℕ) → k < l.index → is_early l.cuts k ≡ false }
