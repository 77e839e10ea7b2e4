-- Two chips of which the same is public.
use Rattle.std.specs.Prelude.{◌≡◌}
use Rattle.chip_core.specs.State.{State}
use Rattle.stage_laws.specs.Seen.{seen}

-- two chips have equal public parts, and equal budgets of writes, counts of writes, and violations noted
pub record LookAlike (a b : State) : Type 0 where
  pub public : seen a ≡ seen b
  pub budget : a.bus.budget ≡ b.bus.budget
  pub writes : a.bus.writes ≡ b.bus.writes
  pub noted : a.bus.noted ≡ b.bus.noted
