-- A step of a tick whose power is cut leaves the first of its writes.
use Rattle.std.proofs.Common.{◌≡◌, ◌<◌, ◌+◌, ◌-◌, ◌++◌, ℕ, List, [], ◌∷◌, Bool, true, false, length, zero, suc, take, arith, refl, ap, sym, ◌∙◌, subst, if◌then◌else◌, length-append}
use Rattle.std.specs.Prelude.{Option, Some}
use Rattle.std.proofs.lemmas.Bool.Decides.{nat_tests}
use Rattle.std.proofs.lemmas.List.Sums.{fold-append}
use Rattle.chip_words.specs.declared.sizes.Size.{Size}
use Rattle.chip_words.specs.declared.accesses.Agent.{Agent}
use Rattle.chip_words.specs.declared.accesses.Agent.TheVariants.{Cpu, Entry, Dma, Debug, Boot}
use Rattle.chip_words.specs.declared.accesses.Kind.{Kind}
use Rattle.chip_words.specs.declared.accesses.Kind.TheVariants.{Fetch, Read, Write}
use Rattle.chip_words.specs.declared.regions.Region.{Region}
use Rattle.chip_words.specs.declared.regions.Region.TheVariants.{Periph, Info, Descriptor, Sram, Main, Vacant}
use Rattle.chip_words.specs.declared.segments.Right.{Right}
use Rattle.chip_words.specs.declared.segments.Right.TheVariants.{Yes, No}
use Rattle.chip_words.specs.Access.{Accessed, access, access_present, is_beyond_boot, is_low_start, is_over, next_number, numbered}
use Rattle.chip_words.specs.BusPart.{BusPart}
use Rattle.chip_words.specs.Map.{aligned, has_bytes, region_at}
use Rattle.chip_words.specs.Memory.{stored}
use Rattle.chip_words.specs.Right.{right_of}
use Rattle.chip_words.specs.Script.{Ask, Return, Script, run}
use Rattle.chip_words.specs.Units.{Units}
use Rattle.access_laws.specs.Locality.{is_absent}
use Rattle.access_laws.proofs.Courses.{BeyondBoot, Course, LowStart, Refused, ToMemory, ToNothing, ToRegister, access-absent, access-present, access_present-course, counted, course_of, on_course, region_course, right_course, unchosen}
use Rattle.release_log.specs.Writes.{END_OF_COUNT, HoldsFirst, StepWrite, StepsHoldFirst, with_write, with_writes, write_by, write_made, write_of, writes_of}
use Rattle.release_log.proofs.Steady.{access-KeepsFacts}

-- ---- the course of a write goes by its right and its region alone

never_low : (who : Agent) (at : ℕ) → is_low_start who Write at ≡ false
never_low (Cpu ia) at = refl
never_low Entry at = refl
never_low Dma at = refl
never_low Debug at = refl
never_low Boot at = refl

never_beyond : (who : Agent) (at : ℕ) → is_beyond_boot who Write at ≡ false
never_beyond (Cpu ia) at = refl
never_beyond Entry at = refl
never_beyond Dma at = refl
never_beyond Debug at = refl
never_beyond Boot at = refl

course_of-Write :
    (units : Units) (who : Agent) (at : ℕ) (size : Size) →
    course_of units who Write at size ≡ right_course (right_of units who Write at) who Write at size
course_of-Write units who at size = unchosen (is_low_start who Write at) _ _ (never_low who at)

-- memory behind an access on a course
abbrev memory_on : Course → Agent → Kind → ℕ → Size → ℕ → BusPart → List ℕ
memory_on course who kind at size value part = ((on_course course who kind at size value part).part).memory

region-stored :
    (region : Region) (who : Agent) (at : ℕ) (size : Size) (value : ℕ) (part : BusPart) →
    memory_on (region_course region size) who Write at size value part
    ≡ (if has_bytes region then stored part.memory at size value else part.memory)
region-stored Periph who at size value part = refl
region-stored Info who at size value part = refl
region-stored Descriptor who at size value part = refl
region-stored Sram who at size value part = refl
region-stored Main who at size value part = refl
region-stored Vacant who at size value part = refl

right-stored :
    (right : Right) (who : Agent) (at : ℕ) (size : Size) (value : ℕ) (part : BusPart) →
    memory_on (right_course right who Write at size) who Write at size value part
    ≡ with_write part.memory (write_by right at size value)
right-stored (No place) who at size value part = refl
right-stored Yes who at size value part =
    ap (λ course. memory_on course who Write at size value part)
    (unchosen (is_beyond_boot who Write at) BeyondBoot (region_course (region_at at) size) (never_beyond who at))
    ∙ region-stored (region_at at) who at size value part

pub present-stored :
    (who : Agent) (at : ℕ) (size : Size) (value : ℕ) (part : BusPart) →
    ((access_present who Write at size value part).part).memory
    ≡ with_write part.memory (write_by (right_of part.units who Write at) at size value)
present-stored who at size value part =
    ap (λ (o : Accessed). (o.part).memory) (access_present-course who Write at size value part)
    ∙ ap (λ course. memory_on course who Write at size value part) (course_of-Write part.units who at size)
    ∙ right-stored (right_of part.units who Write at) who at size value part

-- ---- reads and fetches leave memory, and only writes are counted

read-memory :
    (course : Course) (who : Agent) (at : ℕ) (size : Size) (value : ℕ) (part : BusPart) →
    memory_on course who Read at size value part ≡ part.memory
read-memory LowStart who at size value part = refl
read-memory (Refused place) who at size value part = refl
read-memory BeyondBoot who at size value part = refl
read-memory ToRegister who at size value part = refl
read-memory ToMemory who at size value part = refl
read-memory (ToNothing read) who at size value part = refl

fetch-memory :
    (course : Course) (who : Agent) (at : ℕ) (size : Size) (value : ℕ) (part : BusPart) →
    memory_on course who Fetch at size value part ≡ part.memory
fetch-memory LowStart who at size value part = refl
fetch-memory (Refused place) who at size value part = refl
fetch-memory BeyondBoot who at size value part = refl
fetch-memory ToRegister who at size value part = refl
fetch-memory ToMemory who at size value part = refl
fetch-memory (ToNothing read) who at size value part = refl

on_course-writes :
    (course : Course) (who : Agent) (kind : Kind) (at : ℕ) (size : Size) (value : ℕ) (part : BusPart) →
    ((on_course course who kind at size value part).part).writes ≡ part.writes
on_course-writes LowStart who kind at size value part = refl
on_course-writes (Refused place) who kind at size value part = refl
on_course-writes BeyondBoot who kind at size value part = refl
on_course-writes ToRegister who kind at size value part = refl
on_course-writes ToMemory who Write at size value part = refl
on_course-writes ToMemory who kind at size value part = refl
on_course-writes (ToNothing read) who kind at size value part = refl

present-writes :
    (who : Agent) (kind : Kind) (at : ℕ) (size : Size) (value : ℕ) (part : BusPart) →
    ((access_present who kind at size value part).part).writes ≡ part.writes
present-writes who kind at size value part =
    ap (λ (o : Accessed). (o.part).writes) (access_present-course who kind at size value part)
    ∙ on_course-writes (course_of part.units who kind at size) who kind at size value part

pub access-Read :
    (who : Agent) (at : ℕ) (size : Size) (value : ℕ) (part : BusPart) →
    ((access who Read at size value part).part).memory ≡ part.memory
access-Read who at size value part =
    let place = aligned size at in
    ap (λ (o : Accessed). (o.part).memory) (access-present who Read at size value part refl)
    ∙ ap (λ (o : Accessed). (o.part).memory) (access_present-course who Read place size value part)
    ∙ read-memory (course_of part.units who Read place size) who place size value part

pub access-Fetch :
    (who : Agent) (at : ℕ) (size : Size) (value : ℕ) (part : BusPart) →
    ((access who Fetch at size value part).part).memory ≡ part.memory
access-Fetch who at size value part =
    let place = aligned size at in
    ap (λ (o : Accessed). (o.part).memory) (access-present who Fetch at size value part refl)
    ∙ ap (λ (o : Accessed). (o.part).memory) (access_present-course who Fetch place size value part)
    ∙ fetch-memory (course_of part.units who Fetch place size) who place size value part

access-uncounted :
    (who : Agent) (kind : Kind) (at : ℕ) (size : Size) (value : ℕ) (part : BusPart) → is_absent kind part ≡ false →
    ((access who kind at size value part).part).writes ≡ (counted kind part).writes
access-uncounted who kind at size value part present =
    ap (λ (o : Accessed). (o.part).writes) (access-present who kind at size value part present)
    ∙ present-writes who kind (aligned size at) size value (counted kind part)

-- ---- lists of writes

first_of_none : (memory : List ℕ) (n : ℕ) → with_writes memory (take n []) ≡ memory
first_of_none memory zero = refl
first_of_none memory (suc n) = refl

pub take-append :
    {A : Type 0} (n : ℕ) (one other : List A) → take n (one ++ other) ≡ take n one ++ take (n - length one) other
take-append zero [] other = refl
take-append (suc n) [] other =
    let all : suc n - 0 ≡ suc n = omega arith in
    rw all refl
take-append zero (x ∷ one) other =
    let none : 0 - length (x ∷ one) ≡ 0 = omega arith in
    rw none refl
take-append (suc n) (x ∷ one) other =
    let fewer : suc n - length (x ∷ one) ≡ n - length one = omega arith in
    rw fewer (ap (λ rest. x ∷ rest) (take-append n one other))

pub HoldsFirst-same :
    (budget : ℕ) (before after : BusPart) → after.memory ≡ before.memory → after.writes ≡ before.writes →
    HoldsFirst [] budget before after
HoldsFirst-same budget before after memory writes = record {
  memory = memory ∙ sym (first_of_none before.memory (budget - before.writes));
  left = omega (arith, writes);
}

pub HoldsFirst-then :
    (one other : List StepWrite) (budget : ℕ) (a b c : BusPart) → HoldsFirst one budget a b →
    HoldsFirst other budget b c → HoldsFirst (one ++ other) budget a c
HoldsFirst-then one other budget a b c first second =
    let n = budget - a.writes in
    record {
      memory =
          second.memory
          ∙ ap (λ left. with_writes b.memory (take left other)) first.left
          ∙ ap (λ memory. with_writes memory (take (n - length one) other)) first.memory
          ∙ sym (fold-append with_write a.memory (take n one) (take (n - length one) other))
          ∙ sym (ap (with_writes a.memory) (take-append n one other));
      left =
          let both : length (one ++ other) ≡ length one + length other = length-append one other in
          omega (arith, first.left, second.left);
    }

-- ---- one access

pub over-absent :
    (budget n : ℕ) → budget < END_OF_COUNT → budget - n ≡ 0 → is_over (Some budget) (next_number n) ≡ true
over-absent budget n below e = grind (arith, nat_tests)

pub over-present :
    (budget n left : ℕ) → budget < END_OF_COUNT → budget - n ≡ suc left →
    is_over (Some budget) (next_number n) ≡ false
over-present budget n left below e = grind (arith, nat_tests)

pub next-left : (budget n : ℕ) → budget < END_OF_COUNT → budget - next_number n ≡ budget - n - 1
next-left budget n below = omega arith

write-HoldsFirst :
    (who : Agent) (at : ℕ) (size : Size) (value budget : ℕ) (part : BusPart) → part.budget ≡ Some budget →
    budget < END_OF_COUNT →
    HoldsFirst (write_of who Write at size value part) budget part (access who Write at size value part).part
write-HoldsFirst who at size value budget part cut below = by_left (budget - part.writes) refl
  where
    place : ℕ
    place = aligned size at

    write : StepWrite
    write = write_made who at size value part

    over : (test : Bool) → is_over (Some budget) (next_number part.writes) ≡ test → is_absent Write part ≡ test
    over test e = ap (λ (budget : Option ℕ). is_over budget (next_number part.writes)) cut ∙ e

    first_of : ℕ → List ℕ
    first_of n = with_writes part.memory (take n (write ∷ []))

    by_left :
        (n : ℕ) → budget - part.writes ≡ n →
        HoldsFirst (write ∷ []) budget part (access who Write at size value part).part
    by_left zero e =
        let absent = over true (over-absent budget part.writes below e) in
        subst (λ (o : Accessed). HoldsFirst (write ∷ []) budget part o.part)
        (sym (access-absent who Write at size value part absent))
        (record { memory = sym (ap first_of e); left = next-left budget part.writes below })
    by_left (suc n) e =
        let present = over false (over-present budget part.writes n below e) in
        subst (λ (o : Accessed). HoldsFirst (write ∷ []) budget part o.part)
        (sym (access-present who Write at size value part present))
        (record {
          memory =
              present-stored who place size value (numbered part)
              ∙ sym (first_of_none (with_write part.memory write) n)
              ∙ sym (ap first_of e);
          left =
              ap (λ n. budget - n) (present-writes who Write place size value (numbered part))
              ∙ next-left budget part.writes below;
        })

access-HoldsFirst :
    (who : Agent) (kind : Kind) (at : ℕ) (size : Size) (value budget : ℕ) (part : BusPart) →
    part.budget ≡ Some budget → budget < END_OF_COUNT →
    HoldsFirst (write_of who kind at size value part) budget part (access who kind at size value part).part
access-HoldsFirst who Write at size value budget part cut below =
    write-HoldsFirst who at size value budget part cut below
access-HoldsFirst who Read at size value budget part cut below =
    HoldsFirst-same budget part (access who Read at size value part).part (access-Read who at size value part)
    (access-uncounted who Read at size value part refl)
access-HoldsFirst who Fetch at size value budget part cut below =
    HoldsFirst-same budget part (access who Fetch at size value part).part (access-Fetch who at size value part)
    (access-uncounted who Fetch at size value part refl)

-- ---- a step, whatever it ends in

pub run-HoldsFirst :
    {A : Type 0} (who : Agent) (step : Script A) (budget : ℕ) (part : BusPart) → part.budget ≡ Some budget →
    budget < END_OF_COUNT → HoldsFirst (writes_of who step part) budget part (run who step part).part
run-HoldsFirst who (Return value) budget part cut below = HoldsFirst-same budget part part refl refl
run-HoldsFirst who (Ask kind at size value rest) budget part cut below =
    let next = access who kind at size value part in
    let keeps = access-KeepsFacts who kind at size value part in
    HoldsFirst-then (write_of who kind at size value part) (writes_of who (rest next.answer) next.part) budget part
    next.part _
    (access-HoldsFirst who kind at size value budget part cut below)
    (run-HoldsFirst who (rest next.answer) budget next.part (keeps.budget ∙ cut) below)

pub steps_hold_first : StepsHoldFirst
steps_hold_first who step budget part cut below = run-HoldsFirst who step budget part cut below
