-- One walk over accesses and scripts: what none of them changes of the facts between ticks.
use Rattle.std.proofs.Common.{◌≡◌, ℕ, List, Bool, true, false, length, arith, refl, sym, ◌∙◌, subst}
use Rattle.std.specs.Prelude.{Option, Some, None}
use Rattle.std.proofs.lemmas.List.{length-set}
use Rattle.chip_words.specs.declared.sizes.Size.{Size}
use Rattle.chip_words.specs.declared.sizes.Size.TheVariants.{Byte}
use Rattle.chip_words.specs.declared.accesses.Agent.{Agent}
use Rattle.chip_words.specs.declared.accesses.Kind.{Kind}
use Rattle.chip_words.specs.declared.accesses.Kind.TheVariants.{Fetch, Read, Write}
use Rattle.chip_words.specs.declared.segments.Segment.{Segment}
use Rattle.chip_words.specs.declared.segments.Segment.TheVariants.{One, Two, Three, Info, Sealed}
use Rattle.chip_words.specs.declared.unit_names.UnitName.{UnitName}
use Rattle.chip_words.specs.declared.unit_names.UnitName.TheVariants as of
use Rattle.chip_words.specs.Access.{Accessed, access, access_present, is_watched, numbered, requested}
use Rattle.chip_words.specs.Addresses.{unit_at}
use Rattle.chip_words.specs.Bits.{has_bit}
use Rattle.chip_words.specs.BusPart.{BusPart}
use Rattle.chip_words.specs.Causes.{PERIPHERAL_FETCH}
use Rattle.chip_words.specs.Encap.{Encap, is_sealing, kept_after, seal}
use Rattle.chip_words.specs.Map.{aligned}
use Rattle.chip_words.specs.Memory.{stored}
use Rattle.chip_words.specs.Script.{Ask, Return, Script, run}
use Rattle.chip_words.specs.Segments.{flag_of}
use Rattle.chip_words.specs.Steps.{ended_at, ended_with, reset_at, step_ended, violation_ended}
use Rattle.chip_words.specs.Units.{Reply, Units, periph, touched_in, units_touched, units_written, written_in}
use Rattle.access_laws.specs.Boots.{HasBorders}
use Rattle.access_laws.specs.Locality.{is_absent}
use Rattle.access_laws.proofs.Courses.{BeyondBoot, Course, LowStart, Refused, ToMemory, ToNothing, ToRegister, access-absent, access-present, access_present-course, counted, course_of, on_course}
use Rattle.access_laws.proofs.Masks.{seal-HasBorders}
use Rattle.access_laws.proofs.Settling.{access-IsSettled}
use Rattle.right_laws.specs.Ends.{requests}
use Rattle.step_laws.proofs.Shapes.{either_holds}
use Rattle.release_log.specs.Sound.{KeepsFacts, OnlyJoin, StepsKeepFacts}
use Rattle.release_log.proofs.Requests.{IsHigh, OnlyJoin-same, OnlyJoin-then, reset_at-IsHigh, units_cause-IsHigh, with_cause-OnlyJoin}

-- ---- the requests of the units

touched_in-requested :
    (unit : Option UnitName) (units : Units) (at : ℕ) →
    ((touched_in unit units at).sys).requested ≡ (units.sys).requested
touched_in-requested (Some of.Sys) units at = refl
touched_in-requested (Some of.Timers) units at = refl
touched_in-requested (Some of.Ports) units at = refl
touched_in-requested (Some of.Dma) units at = refl
touched_in-requested (Some of.Fram) units at = refl
touched_in-requested (Some of.Mpu) units at = refl
touched_in-requested (Some of.Encap) units at = refl
touched_in-requested None units at = refl

written_in-requested :
    (unit : Option UnitName) (units : Units) (at : ℕ) (size : Size) (value : ℕ) →
    ((written_in unit units at size value).sys).requested ≡ (units.sys).requested
written_in-requested (Some of.Sys) units at size value = refl
written_in-requested (Some of.Timers) units at size value = refl
written_in-requested (Some of.Ports) units at size value = refl
written_in-requested (Some of.Dma) units at size value = refl
written_in-requested (Some of.Fram) units at size value = refl
written_in-requested (Some of.Mpu) units at size value = refl
written_in-requested (Some of.Encap) units at size value = refl
written_in-requested None units at size value = refl

-- what the peripherals leave of the requests, and the cause that they ask for
pub record AsksHigh (units : Units) (reply : Reply) : Type 0 where
  pub same : ((reply.units).sys).requested ≡ (units.sys).requested
  pub high : IsHigh reply.cause

pub periph-AsksHigh :
    (units : Units) (kind : Kind) (at : ℕ) (size : Size) (value : ℕ) →
    AsksHigh units (periph units kind at size value)
unfolding periph units_touched units_written
periph-AsksHigh units Write at size value = record {
  same = written_in-requested (unit_at at) units at size value;
  high = units_cause-IsHigh units at size value;
}
periph-AsksHigh units Read at size value = record { same = touched_in-requested (unit_at at) units at; high = tt }
periph-AsksHigh units Fetch at size value = record { same = touched_in-requested (unit_at at) units at; high = tt }

-- ---- the bus part

-- the facts without the seal in force
pub record IsSteady (before after : BusPart) : Type 0 where
  pub size : length after.memory ≡ length before.memory
  pub fill : after.fill ≡ before.fill
  pub budget : after.budget ≡ before.budget
  pub joined : OnlyJoin (requests before) (requests after)
  pub borders : HasBorders before.kept → HasBorders after.kept

pub IsSteady-same : (part : BusPart) → IsSteady part part
IsSteady-same part = record {
  size = refl;
  fill = refl;
  budget = refl;
  joined = OnlyJoin-same (requests part);
  borders = λ is. is;
}

requested-IsSteady : (cause : Option ℕ) (part : BusPart) → IsHigh cause → IsSteady part (requested cause part)
requested-IsSteady cause part high = record {
  size = refl;
  fill = refl;
  budget = refl;
  joined = with_cause-OnlyJoin cause (requests part) high;
  borders = λ is. is;
}

stored-length :
    (memory : List ℕ) (at : ℕ) (size : Size) (value : ℕ) → length (stored memory at size value) ≡ length memory
unfolding stored
stored-length memory at Byte value = length-set _ _ _
stored-length memory at size value = length-set _ _ _ ∙ length-set _ _ _

kept_after-HasBorders :
    (kept : _) (before after : Encap) → HasBorders kept → HasBorders (kept_after kept before after)
kept_after-HasBorders kept before after is =
    either_holds HasBorders (is_sealing before after) (seal after) kept (seal-HasBorders after) is

register-IsSteady :
    (who : Agent) (kind : Kind) (at : ℕ) (size : Size) (value : ℕ) (part : BusPart) →
    IsSteady part (on_course ToRegister who kind at size value part).part
register-IsSteady who kind at size value part =
    let reply = periph part.units kind at size value in
    let asks = periph-AsksHigh part.units kind at size value in
    let after = (on_course ToRegister who kind at size value part).part in
    record {
      size = refl;
      fill = refl;
      budget = refl;
      joined =
          subst (λ list. OnlyJoin list (requests after)) asks.same
          (with_cause-OnlyJoin reply.cause ((reply.units).sys).requested asks.high);
      borders = kept_after-HasBorders part.kept (part.units).encap (reply.units).encap;
    }

on_course-IsSteady :
    (course : Course) (who : Agent) (kind : Kind) (at : ℕ) (size : Size) (value : ℕ) (part : BusPart) →
    IsSteady part (on_course course who kind at size value part).part
on_course-IsSteady LowStart who kind at size value part =
    requested-IsSteady (Some PERIPHERAL_FETCH) part (omega arith)
on_course-IsSteady (Refused place) who kind at size value part =
    record { size = refl; fill = refl; budget = refl; joined = OnlyJoin-same (requests part); borders = λ is. is }
on_course-IsSteady BeyondBoot who kind at size value part = IsSteady-same part
on_course-IsSteady ToRegister who kind at size value part = register-IsSteady who kind at size value part
on_course-IsSteady ToMemory who Write at size value part = record {
  size = stored-length part.memory at size value;
  fill = refl;
  budget = refl;
  joined = OnlyJoin-same (requests part);
  borders = λ is. is;
}
on_course-IsSteady ToMemory who kind at size value part = IsSteady-same part
on_course-IsSteady (ToNothing read) who kind at size value part = IsSteady-same part

present-IsSteady :
    (who : Agent) (kind : Kind) (at : ℕ) (size : Size) (value : ℕ) (part : BusPart) →
    IsSteady part (access_present who kind at size value part).part
present-IsSteady who kind at size value part =
    let course = course_of part.units who kind at size in
    let steady = on_course-IsSteady course who kind at size value part in
    subst (λ (o : Accessed). IsSteady part o.part) (sym (access_present-course who kind at size value part))
    (record {
      size = steady.size;
      fill = steady.fill;
      budget = steady.budget;
      joined = steady.joined;
      borders = steady.borders;
    })

access-IsSteady :
    (who : Agent) (kind : Kind) (at : ℕ) (size : Size) (value : ℕ) (part : BusPart) →
    IsSteady part (access who kind at size value part).part
access-IsSteady who kind at size value part = by_absence (is_absent kind part) refl
  where
    by_kind :
        (kind : Kind) → IsSteady part (access_present who kind (aligned size at) size value (counted kind part)).part
    by_kind Write =
        let steady = present-IsSteady who Write (aligned size at) size value (numbered part) in
        record {
          size = steady.size;
          fill = steady.fill;
          budget = steady.budget;
          joined = steady.joined;
          borders = steady.borders;
        }
    by_kind Read = present-IsSteady who Read (aligned size at) size value part
    by_kind Fetch = present-IsSteady who Fetch (aligned size at) size value part

    by_absence : (test : Bool) → is_absent kind part ≡ test → IsSteady part (access who kind at size value part).part
    by_absence true absent =
        subst (λ (o : Accessed). IsSteady part o.part) (sym (access-absent who kind at size value part absent))
        (record { size = refl; fill = refl; budget = refl; joined = OnlyJoin-same (requests part); borders = λ is. is })
    by_absence false present =
        subst (λ (o : Accessed). IsSteady part o.part) (sym (access-present who kind at size value part present))
        (by_kind kind)

-- ---- facts kept

pub KeepsFacts-same : (part : BusPart) → KeepsFacts part part
KeepsFacts-same part = record {
  size = refl;
  fill = refl;
  budget = refl;
  requested = OnlyJoin-same (requests part);
  borders = λ is. is;
  settled = λ is. is;
}

pub KeepsFacts-then : (a b c : BusPart) → KeepsFacts a b → KeepsFacts b c → KeepsFacts a c
KeepsFacts-then a b c first second = record {
  size = second.size ∙ first.size;
  fill = second.fill ∙ first.fill;
  budget = second.budget ∙ first.budget;
  requested = OnlyJoin-then (requests a) (requests b) (requests c) first.requested second.requested;
  borders = λ is. second.borders (first.borders is);
  settled = λ is. second.settled (first.settled is);
}

pub access-KeepsFacts :
    (who : Agent) (kind : Kind) (at : ℕ) (size : Size) (value : ℕ) (part : BusPart) →
    KeepsFacts part (access who kind at size value part).part
access-KeepsFacts who kind at size value part =
    let steady = access-IsSteady who kind at size value part in
    record {
      size = steady.size;
      fill = steady.fill;
      budget = steady.budget;
      requested = steady.joined;
      borders = steady.borders;
      settled = access-IsSettled who kind at size value part;
    }

-- whatever the script ends in
pub run-KeepsFacts :
    {A : Type 0} (who : Agent) (step : Script A) (part : BusPart) → KeepsFacts part (run who step part).part
run-KeepsFacts who (Return value) part = KeepsFacts-same part
run-KeepsFacts who (Ask kind at size value rest) part =
    let next = access who kind at size value part in
    KeepsFacts-then part next.part _ (access-KeepsFacts who kind at size value part)
    (run-KeepsFacts who (rest next.answer) next.part)

-- ---- the end of a step

violation_ended-KeepsFacts : (place : Segment) (part : BusPart) → KeepsFacts part (violation_ended place part)
violation_ended-KeepsFacts place part = record {
  size = refl;
  fill = refl;
  budget = refl;
  requested = with_cause-OnlyJoin (reset_at place part.units) (requests part) (reset_at-IsHigh place part.units);
  borders = λ is. is;
  settled = λ is. is;
}

ended_at-KeepsFacts : (noted : ℕ) (place : Segment) (part : BusPart) → KeepsFacts part (ended_at noted place part)
ended_at-KeepsFacts noted place part =
    either_holds (KeepsFacts part) (has_bit noted (flag_of place)) (violation_ended place part) part
    (violation_ended-KeepsFacts place part) (KeepsFacts-same part)

pub step_ended-KeepsFacts : (part : BusPart) → KeepsFacts part (step_ended part)
unfolding ended_with
step_ended-KeepsFacts part =
    let start : BusPart = record part { noted = 0 } in
    let a : BusPart = ended_at part.noted Sealed start in
    let b : BusPart = ended_at part.noted Info a in
    let c : BusPart = ended_at part.noted One b in
    let d : BusPart = ended_at part.noted Two c in
    let e : BusPart = ended_at part.noted Three d in
    let keeps : KeepsFacts start e =
    KeepsFacts-then start a e (ended_at-KeepsFacts part.noted Sealed start)
    (KeepsFacts-then a b e (ended_at-KeepsFacts part.noted Info a)
    (KeepsFacts-then b c e (ended_at-KeepsFacts part.noted One b)
    (KeepsFacts-then c d e (ended_at-KeepsFacts part.noted Two c) (ended_at-KeepsFacts part.noted Three d)))) in
    record {
      size = keeps.size;
      fill = keeps.fill;
      budget = keeps.budget;
      requested = keeps.requested;
      borders = keeps.borders;
      settled = keeps.settled;
    }

ended_at-noted : (noted : ℕ) (place : Segment) (part : BusPart) → (ended_at noted place part).noted ≡ part.noted
ended_at-noted noted place part =
    either_holds (λ (after : BusPart). after.noted ≡ part.noted) (has_bit noted (flag_of place))
    (violation_ended place part) part refl refl

pub step_ended-quiet : (part : BusPart) → (step_ended part).noted ≡ 0
unfolding ended_with
step_ended-quiet part =
    let start : BusPart = record part { noted = 0 } in
    let a : BusPart = ended_at part.noted Sealed start in
    let b : BusPart = ended_at part.noted Info a in
    let c : BusPart = ended_at part.noted One b in
    let d : BusPart = ended_at part.noted Two c in
    ended_at-noted part.noted Three d ∙ ended_at-noted part.noted Two c ∙ ended_at-noted part.noted One b
    ∙ ended_at-noted part.noted Info a
    ∙ ended_at-noted part.noted Sealed start

-- ---- what is noted

on_course-noted :
    (course : Course) (who : Agent) (kind : Kind) (at : ℕ) (size : Size) (value : ℕ) (part : BusPart) →
    is_watched who ≡ false → ((on_course course who kind at size value part).part).noted ≡ part.noted
on_course-noted LowStart who kind at size value part unwatched = refl
on_course-noted (Refused place) who kind at size value part unwatched = rw unwatched refl
on_course-noted BeyondBoot who kind at size value part unwatched = refl
on_course-noted ToRegister who kind at size value part unwatched = refl
on_course-noted ToMemory who Write at size value part unwatched = refl
on_course-noted ToMemory who kind at size value part unwatched = refl
on_course-noted (ToNothing read) who kind at size value part unwatched = refl

present-noted :
    (who : Agent) (kind : Kind) (at : ℕ) (size : Size) (value : ℕ) (part : BusPart) → is_watched who ≡ false →
    ((access_present who kind at size value part).part).noted ≡ part.noted
present-noted who kind at size value part unwatched =
    let course = course_of part.units who kind at size in
    subst (λ (o : Accessed). (o.part).noted ≡ part.noted)
    (sym (access_present-course who kind at size value part))
    (on_course-noted course who kind at size value part unwatched)

access-noted :
    (who : Agent) (kind : Kind) (at : ℕ) (size : Size) (value : ℕ) (part : BusPart) → is_watched who ≡ false →
    ((access who kind at size value part).part).noted ≡ part.noted
access-noted who kind at size value part unwatched = by_absence (is_absent kind part) refl
  where
    by_kind :
        (kind : Kind) →
        ((access_present who kind (aligned size at) size value (counted kind part)).part).noted ≡ part.noted
    by_kind Write = present-noted who Write (aligned size at) size value (numbered part) unwatched
    by_kind Read = present-noted who Read (aligned size at) size value part unwatched
    by_kind Fetch = present-noted who Fetch (aligned size at) size value part unwatched

    by_absence :
        (test : Bool) → is_absent kind part ≡ test → ((access who kind at size value part).part).noted ≡ part.noted
    by_absence true absent =
        subst (λ (o : Accessed). (o.part).noted ≡ part.noted)
        (sym (access-absent who kind at size value part absent)) refl
    by_absence false present =
        subst (λ (o : Accessed). (o.part).noted ≡ part.noted)
        (sym (access-present who kind at size value part present)) (by_kind kind)

-- whatever the script ends in
pub run-noted :
    {A : Type 0} (who : Agent) (step : Script A) (part : BusPart) → is_watched who ≡ false →
    ((run who step part).part).noted ≡ part.noted
run-noted who (Return value) part unwatched = refl
run-noted who (Ask kind at size value rest) part unwatched =
    let next = access who kind at size value part in
    run-noted who (rest next.answer) next.part unwatched ∙ access-noted who kind at size value part unwatched

pub steps_keep_facts : StepsKeepFacts
steps_keep_facts = record {
  accesses = λ who step part. run-KeepsFacts who step part;
  end = step_ended-KeepsFacts;
  quiet = step_ended-quiet;
  unwatched = λ who step part unwatched. run-noted who step part unwatched;
}
