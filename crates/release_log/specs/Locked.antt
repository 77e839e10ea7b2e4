-- What MPUIPLOCK keeps through a whole step, and what the end of a step leaves.
use Rattle.std.specs.Prelude.{◌≡◌, ℕ, true, List}
use Rattle.chip_words.specs.declared.accesses.Agent.{Agent}
use Rattle.chip_words.specs.BusPart.{BusPart}
use Rattle.chip_words.specs.Script.{Script, run}
use Rattle.chip_words.specs.Steps.{step_ended}
use Rattle.right_laws.specs.EncapLocks.{KeepsEncapsulation, lock}

-- with MPUIPLOCK set a step leaves the three registers and the addresses that stay secret as they were, whatever it
-- writes; its end leaves them, and memory, in any case
pub record LockOutlastsSteps : Type 0 where
  pub accesses :
      (who : Agent) (step : Script (List ℕ)) (part : BusPart) → lock part ≡ true →
      KeepsEncapsulation part (run who step part).part
  pub end : (part : BusPart) → KeepsEncapsulation part (step_ended part)
  pub memory : (part : BusPart) → (step_ended part).memory ≡ part.memory
