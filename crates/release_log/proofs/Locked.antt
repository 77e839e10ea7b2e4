-- What MPUIPLOCK keeps through a script, and what the end of a step leaves.
use Rattle.std.proofs.Common.{◌≡◌, ℕ, true, refl, ap, ◌∙◌}
use Rattle.chip_words.specs.declared.accesses.Agent.{Agent}
use Rattle.chip_words.specs.declared.segments.Segment.{Segment}
use Rattle.chip_words.specs.declared.segments.Segment.TheVariants.{One, Two, Three, Info, Sealed}
use Rattle.chip_words.specs.Access.{access}
use Rattle.chip_words.specs.Bits.{has_bit}
use Rattle.chip_words.specs.BusPart.{BusPart}
use Rattle.chip_words.specs.Encap.{is_locked}
use Rattle.chip_words.specs.Script.{Ask, Return, Script, run}
use Rattle.chip_words.specs.Segments.{flag_of}
use Rattle.chip_words.specs.Steps.{ended_at, ended_with, step_ended, violation_ended}
use Rattle.access_laws.proofs.Staying.{access-locked}
use Rattle.right_laws.specs.EncapLocks.{KeepsEncapsulation, lock}
use Rattle.step_laws.proofs.Shapes.{either_holds}
use Rattle.release_log.specs.Locked.{LockOutlastsSteps}

-- whatever the script ends in
pub run-KeepsEncapsulation :
    {A : Type 0} (who : Agent) (step : Script A) (part : BusPart) → lock part ≡ true →
    KeepsEncapsulation part (run who step part).part
run-KeepsEncapsulation who (Return value) part locked = record { registers = refl; secret = refl }
run-KeepsEncapsulation who (Ask kind at size value rest) part locked =
    let next = access who kind at size value part in
    let first = access-locked who kind at size value part locked in
    let still : lock next.part ≡ true = ap is_locked first.encap ∙ locked in
    let others = run-KeepsEncapsulation who (rest next.answer) next.part still in
    record { registers = others.registers ∙ first.encap; secret = others.secret ∙ first.kept }

-- ---- the end of a step

-- memory, the registers of the encapsulation and the addresses that stay secret are as they were
pub record LeavesStored (before after : BusPart) : Type 0 where
  pub memory : after.memory ≡ before.memory
  pub encapsulation : KeepsEncapsulation before after

LeavesStored-same : (part : BusPart) → LeavesStored part part
LeavesStored-same part =
    record { memory = refl; encapsulation = record { registers = refl; secret = refl } }

ended_at-LeavesStored :
    (noted : ℕ) (place : Segment) (before part : BusPart) → LeavesStored before part →
    LeavesStored before (ended_at noted place part)
ended_at-LeavesStored noted place before part leaves =
    either_holds (LeavesStored before) (has_bit noted (flag_of place)) (violation_ended place part) part
    (record {
      memory = leaves.memory;
      encapsulation =
          record { registers = leaves.encapsulation.registers; secret = leaves.encapsulation.secret };
    })
    leaves

pub step_ended-LeavesStored : (part : BusPart) → LeavesStored part (step_ended part)
unfolding ended_with
step_ended-LeavesStored part =
    let noted = part.noted in
    let start : BusPart = record part { noted = 0 } in
    let begins : LeavesStored part start =
    record { memory = refl; encapsulation = record { registers = refl; secret = refl } } in
    let a : BusPart = ended_at noted Sealed start in
    let b : BusPart = ended_at noted Info a in
    let c : BusPart = ended_at noted One b in
    let d : BusPart = ended_at noted Two c in
    ended_at-LeavesStored noted Three part d
    (ended_at-LeavesStored noted Two part c
    (ended_at-LeavesStored noted One part b
    (ended_at-LeavesStored noted Info part a (ended_at-LeavesStored noted Sealed part start begins))))

pub lock_outlasts_steps : LockOutlastsSteps
lock_outlasts_steps = record {
  accesses = λ who step part locked. run-KeepsEncapsulation who step part locked;
  end = λ part. (step_ended-LeavesStored part).encapsulation;
  memory = λ part. (step_ended-LeavesStored part).memory;
}
