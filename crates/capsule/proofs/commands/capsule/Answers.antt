use Rattle.std.proofs.Common.{refl, inl}
use Rattle.capsule.specs.Words.{NoCommand}
use Rattle.capsule.proofs.Calls.{IsCall-from_plan, IsCall-same}
use Rattle.capsule.proofs.commands.capsule.Goals as goal

pub returns-in-None-clause-call : goal.returns-in-None-clause-call
returns-in-None-clause-call g c =
    IsCall-same _ _ _ _ _ _ _ c.in-None.ensures (IsCall-from_plan NoCommand _ _ _ _ _ (refl, refl, inl refl))
