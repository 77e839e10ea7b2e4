-- The requests of a step join those before it.
use Rattle.std.proofs.Common.{◌≡◌, ◌||◌, ℕ, List, Bool, true, false, length, refl, ap, sym, ◌∙◌, subst}
use Rattle.std.specs.Prelude.{Option, Some}
use Rattle.chip_words.specs.declared.sizes.Size.{Size}
use Rattle.chip_words.specs.declared.accesses.Agent.{Agent}
use Rattle.chip_words.specs.declared.accesses.Kind.{Kind}
use Rattle.chip_words.specs.declared.accesses.Kind.TheVariants.{Fetch, Read, Write}
use Rattle.chip_words.specs.declared.segments.Segment.{Segment}
use Rattle.chip_words.specs.declared.segments.Segment.TheVariants.{One, Two, Three, Info, Sealed}
use Rattle.chip_words.specs.Access.{Accessed, access, access_present, numbered, requested}
use Rattle.chip_words.specs.Bits.{has_bit}
use Rattle.chip_words.specs.BusPart.{BusPart}
use Rattle.chip_words.specs.Causes.{PERIPHERAL_FETCH, no_causes, with_cause}
use Rattle.chip_words.specs.Encap.{kept_after}
use Rattle.chip_words.specs.Map.{aligned}
use Rattle.chip_words.specs.Mpu.{mpu_flagged}
use Rattle.chip_words.specs.Script.{Ask, Return, Script, run}
use Rattle.chip_words.specs.Segments.{flag_of}
use Rattle.chip_words.specs.Steps.{begun, ended_at, ended_with, has_interrupt, reset_at, step_ended, violation_ended}
use Rattle.chip_words.specs.Units.{Reply, periph}
use Rattle.access_laws.specs.Locality.{is_absent}
use Rattle.access_laws.proofs.Courses.{BeyondBoot, Course, LowStart, Refused, ToMemory, ToNothing, ToRegister, access-absent, access-present, access_present-course, counted, course_of, on_course}
use Rattle.bus_fabric.specs.Fabric.{part_entered}
use Rattle.right_laws.specs.Ends.{requests}
use Rattle.step_laws.proofs.Shapes.{either_holds}
use Rattle.chip_core.specs.Turns.{asked}
use Rattle.release_log.proofs.Running.{units_entered-Leaves}
use Rattle.release_log.proofs.Steady.{periph-AsksHigh}
use Rattle.stage_laws.proofs.Unions.{union, union-none, union-with_cause, union-with_cause_first, with_cause-length}

-- the requests are those from before and the causes of the step
pub record Joins (start : List Bool) (part : BusPart) : Type 0 where
  pub requested : requests part ≡ union start part.causes
  pub count : length start ≡ length part.causes

requested-Joins : (start : List Bool) (cause : Option ℕ) (part : BusPart) → Joins start part → Joins start (requested cause part)
requested-Joins start cause part joins = record {
  requested = ap (with_cause cause) joins.requested ∙ union-with_cause cause start part.causes joins.count;
  count = joins.count ∙ sym (with_cause-length cause part.causes);
}

on_course-Joins :
    (start : List Bool) (course : Course) (who : Agent) (kind : Kind) (at : ℕ) (size : Size) (value : ℕ)
    (part : BusPart) → Joins start part → Joins start (on_course course who kind at size value part).part
on_course-Joins start LowStart who kind at size value part joins =
    requested-Joins start (Some PERIPHERAL_FETCH) part joins
on_course-Joins start (Refused place) who kind at size value part joins =
    record { requested = joins.requested; count = joins.count }
on_course-Joins start BeyondBoot who kind at size value part joins = joins
on_course-Joins start ToRegister who kind at size value part joins =
    let reply : Reply = periph part.units kind at size value in
    let asks = periph-AsksHigh part.units kind at size value in
    requested-Joins start reply.cause
    (record part { units = reply.units; kept = kept_after part.kept (part.units).encap (reply.units).encap })
    (record { requested = asks.same ∙ joins.requested; count = joins.count })
on_course-Joins start ToMemory who Write at size value part joins =
    record { requested = joins.requested; count = joins.count }
on_course-Joins start ToMemory who kind at size value part joins = joins
on_course-Joins start (ToNothing read) who kind at size value part joins = joins

present-Joins :
    (start : List Bool) (who : Agent) (kind : Kind) (at : ℕ) (size : Size) (value : ℕ) (part : BusPart) →
    Joins start part → Joins start (access_present who kind at size value part).part
present-Joins start who kind at size value part joins =
    let course = course_of part.units who kind at size in
    let after = on_course-Joins start course who kind at size value part joins in
    subst (λ (o : Accessed). Joins start o.part) (sym (access_present-course who kind at size value part))
    (record { requested = after.requested; count = after.count })

access-Joins :
    (start : List Bool) (who : Agent) (kind : Kind) (at : ℕ) (size : Size) (value : ℕ) (part : BusPart) →
    Joins start part → Joins start (access who kind at size value part).part
access-Joins start who kind at size value part joins = by_absence (is_absent kind part) refl
  where
    by_kind : (kind : Kind) → Joins start (access_present who kind (aligned size at) size value (counted kind part)).part
    by_kind Write =
        present-Joins start who Write (aligned size at) size value (numbered part)
        (record { requested = joins.requested; count = joins.count })
    by_kind Read = present-Joins start who Read (aligned size at) size value part joins
    by_kind Fetch = present-Joins start who Fetch (aligned size at) size value part joins

    by_absence : (test : Bool) → is_absent kind part ≡ test → Joins start (access who kind at size value part).part
    by_absence true absent =
        subst (λ (o : Accessed). Joins start o.part) (sym (access-absent who kind at size value part absent))
        (record { requested = joins.requested; count = joins.count })
    by_absence false present =
        subst (λ (o : Accessed). Joins start o.part) (sym (access-present who kind at size value part present))
        (by_kind kind)

run-Joins :
    {A : Type 0} (start : List Bool) (who : Agent) (step : Script A) (part : BusPart) → Joins start part →
    Joins start (run who step part).part
run-Joins start who (Return value) part joins = joins
run-Joins start who (Ask kind at size value rest) part joins =
    let next = access who kind at size value part in
    run-Joins start who (rest next.answer) next.part (access-Joins start who kind at size value part joins)

-- whatever the step ends in
pub step-Joins :
    {A : Type 0} (who : Agent) (step : Script A) (part : BusPart) → length (requests part) ≡ length no_causes →
    Joins (requests part) (run who step (begun part)).part
step-Joins who step part count =
    run-Joins (requests part) who step (begun part)
    (record { requested = sym (union-none (requests part)); count = count })

-- ---- the end of a step

-- a cause that no access requested joins those from before
pub asked-Joins :
    (start : List Bool) (cause : Option ℕ) (part : BusPart) → Joins start part →
    Joins (with_cause cause start) (asked cause part)
asked-Joins start cause part joins = record {
  requested = ap (with_cause cause) joins.requested ∙ union-with_cause_first cause start part.causes joins.count;
  count = with_cause-length cause start ∙ joins.count;
}

pub entered-Joins :
    (start : List Bool) (vector : ℕ) (part : BusPart) → Joins start part → Joins start (part_entered vector part)
entered-Joins start vector part joins = record {
  requested = (units_entered-Leaves vector part.units).requested ∙ joins.requested;
  count = joins.count;
}

violation-Joins :
    (start : List Bool) (place : Segment) (part : BusPart) → Joins start part → Joins start (violation_ended place part)
violation-Joins start place part joins =
    requested-Joins start (reset_at place part.units) (record part {
      units = record (part.units) { mpu = mpu_flagged place (part.units).mpu };
      nmi = part.nmi || has_interrupt place part.units;
    }) (record { requested = joins.requested; count = joins.count })

ended_at-Joins :
    (start : List Bool) (noted : ℕ) (place : Segment) (part : BusPart) → Joins start part →
    Joins start (ended_at noted place part)
ended_at-Joins start noted place part joins =
    either_holds (Joins start) (has_bit noted (flag_of place)) (violation_ended place part) part
    (violation-Joins start place part joins) joins

pub ended-Joins : (start : List Bool) (part : BusPart) → Joins start part → Joins start (step_ended part)
unfolding ended_with
ended-Joins start part joins =
    ended_at-Joins start part.noted Three _
    (ended_at-Joins start part.noted Two _
    (ended_at-Joins start part.noted One _
    (ended_at-Joins start part.noted Info _
    (ended_at-Joins start part.noted Sealed (record part { noted = 0 })
    (record { requested = joins.requested; count = joins.count })))))
