-- A step from inside the seal is the replay of its releases: one induction over its script, whatever it ends in.
use Rattle.std.proofs.Common.{◌≡◌, ℕ, List, [], ◌∷◌, ◌++◌, Bool, true, false, arith, refl, ap, sym, ◌∙◌, subst, if◌then◌else◌}
use Rattle.std.specs.Prelude.{filter, map}
use Rattle.std.proofs.lemmas.List.{map-append}
use Rattle.std.proofs.lemmas.List.Elements.{filter-append}
use Rattle.std.proofs.lemmas.List.Sums.{fold-append}
use Rattle.chip_words.specs.declared.sizes.Size.{Size}
use Rattle.chip_words.specs.declared.accesses.Access.{Access}
use Rattle.chip_words.specs.declared.accesses.Agent.{Agent}
use Rattle.chip_words.specs.declared.accesses.Agent.TheVariants.{Cpu, Entry, Dma, Debug, Boot}
use Rattle.chip_words.specs.declared.accesses.Kind.{Kind}
use Rattle.chip_words.specs.declared.accesses.Kind.TheVariants.{Fetch, Read, Write}
use Rattle.chip_words.specs.declared.regions.Region.{Region}
use Rattle.chip_words.specs.declared.regions.Region.TheVariants.{Periph, Info, Descriptor, Sram, Main, Vacant}
use Rattle.chip_words.specs.declared.seals.Seal.{Seal}
use Rattle.chip_words.specs.declared.segments.Right.{Right}
use Rattle.chip_words.specs.declared.segments.Right.TheVariants.{Yes, No}
use Rattle.chip_words.specs.Access.{Accessed, access, access_present, as_listed, is_beyond_boot, is_low_start, numbered, write_absent}
use Rattle.chip_words.specs.BusPart.{BusPart}
use Rattle.chip_words.specs.Encap.{Encap, is_locked, seal}
use Rattle.chip_words.specs.Map.{aligned, region_at}
use Rattle.chip_words.specs.Public.{IsInside, IsLocked, IsSettled, public_part}
use Rattle.chip_words.specs.Right.{right_of}
use Rattle.chip_words.specs.Script.{Ask, Return, Script, run}
use Rattle.chip_words.specs.Seals.{is_in}
use Rattle.chip_words.specs.Units.{periph}
use Rattle.access_laws.specs.Locality.{is_absent}
use Rattle.access_laws.specs.Replay.{PrivateStepIsReplayed, anyone, is_released, released, replay, replayed, told, told_value}
use Rattle.access_laws.proofs.Courses.{BeyondBoot, Course, LowStart, Refused, ToMemory, ToNothing, ToRegister, access-absent, access-present, access_present-course, counted, course_of, on_course, present_on, region_course, right_course}
use Rattle.access_laws.proofs.Inside.{present-inside, present-outside}
use Rattle.access_laws.proofs.Masks.{aligned-aligned}
use Rattle.access_laws.proofs.Staying.{KeepsSeal, present-list, present-locked}

-- ---- a release tells all that a replay needs: the answer of a write is its value, and a read goes by no value

region-Write :
    (region : Region) (who : Agent) (at : ℕ) (size : Size) (value : ℕ) (part : BusPart) →
    (on_course (region_course region size) who Write at size value part).answer ≡ value
unfolding periph
region-Write Periph who at size value part = refl
region-Write Info who at size value part = refl
region-Write Descriptor who at size value part = refl
region-Write Sram who at size value part = refl
region-Write Main who at size value part = refl
region-Write Vacant who at size value part = refl

beyond_boot-Write : (who : Agent) (at : ℕ) → is_beyond_boot who Write at ≡ false
beyond_boot-Write Boot at = refl
beyond_boot-Write who at = refl

low_start-Write : (who : Agent) (at : ℕ) → is_low_start who Write at ≡ false
low_start-Write (Cpu ia) at = refl
low_start-Write who at = refl

right-Write :
    (right : Right) (who : Agent) (at : ℕ) (size : Size) (value : ℕ) (part : BusPart) →
    (on_course (right_course right who Write at size) who Write at size value part).answer ≡ value
right-Write (No place) who at size value part = refl
right-Write Yes who at size value part =
    ap
    (λ b. (on_course (if b then BeyondBoot else region_course (region_at at) size) who Write at size value part).answer)
    (beyond_boot-Write who at)
    ∙ region-Write (region_at at) who at size value part

present-Write :
    (who : Agent) (at : ℕ) (size : Size) (value : ℕ) (part : BusPart) →
    (access_present who Write at size value part).answer ≡ value
present-Write who at size value part =
    let right = right_of part.units who Write at in
    ap (λ (o : Accessed). o.answer) (access_present-course who Write at size value part)
    ∙ ap
    (λ b.
    (on_course (if b then LowStart else right_course right who Write at size) who Write at size value part).answer)
    (low_start-Write who at)
    ∙ right-Write right who at size value part

course-Read :
    (course : Course) (who : Agent) (at : ℕ) (size : Size) (v w : ℕ) (part : BusPart) →
    present_on course who Read at size v part ≡ present_on course who Read at size w part
unfolding periph
course-Read LowStart who at size v w part = refl
course-Read (Refused place) who at size v w part = refl
course-Read BeyondBoot who at size v w part = refl
course-Read ToRegister who at size v w part = refl
course-Read ToMemory who at size v w part = refl
course-Read (ToNothing read) who at size v w part = refl

course-Fetch :
    (course : Course) (who : Agent) (at : ℕ) (size : Size) (v w : ℕ) (part : BusPart) →
    present_on course who Fetch at size v part ≡ present_on course who Fetch at size w part
unfolding periph
course-Fetch LowStart who at size v w part = refl
course-Fetch (Refused place) who at size v w part = refl
course-Fetch BeyondBoot who at size v w part = refl
course-Fetch ToRegister who at size v w part = refl
course-Fetch ToMemory who at size v w part = refl
course-Fetch (ToNothing read) who at size v w part = refl

-- an access is the same with the value that the release of another one tells, made by whomever in whatever chip
present-told :
    (who other : Agent) (kind : Kind) (at : ℕ) (size : Size) (value : ℕ) (made part : BusPart) →
    access_present other kind at size value part
    ≡ access_present other kind at size (told_value kind (access_present who kind at size value made).answer) part
present-told who other Write at size value made part =
    ap (λ v. access_present other Write at size v part) (sym (present-Write who at size value made))
present-told who other Read at size value made part =
    access_present-course other Read at size value part
    ∙ course-Read (course_of part.units other Read at size) other at size value 0 part
    ∙ sym (access_present-course other Read at size 0 part)
present-told who other Fetch at size value made part =
    access_present-course other Fetch at size value part
    ∙ course-Fetch (course_of part.units other Fetch at size) other at size value 0 part
    ∙ sym (access_present-course other Fetch at size 0 part)

-- ---- one access more

pub released-append :
    (seal : Seal) (xs ys : List Access) → released seal (xs ++ ys) ≡ released seal xs ++ released seal ys
released-append seal xs ys =
    ap (map told) (filter-append (is_released seal) xs ys)
    ∙ map-append told (filter (is_released seal) xs) (filter (is_released seal) ys)

pub replay-append :
    (who : Agent) (part : BusPart) (xs ys : List Access) →
    replay who part (xs ++ ys) ≡ replay who (replay who part xs) ys
replay-append who part xs ys = fold-append (replayed who) part xs ys

replay-more :
    (who : Agent) (start new old : BusPart) (entry : Access) (kept kept' : Seal) (accesses accesses' : List Access) →
    kept' ≡ kept → accesses' ≡ accesses ++ entry ∷ [] → old ≡ replay who start (released kept accesses) →
    new ≡ replay who old (released kept (entry ∷ [])) → new ≡ replay who start (released kept' accesses')
replay-more who start new old entry kept kept' accesses accesses' same list before more =
    rw (same, list, released-append, replay-append, ← before) more

-- what holds at each moment of a private step that began with the public part `start`
pub record IsReplay (who : Agent) (start part : BusPart) : Type 0 where
  pub settled : IsSettled part
  pub locked : is_locked (part.units).encap ≡ true
  pub inside : IsInside (part.units).encap who
  pub kept : part.kept ≡ start.kept
  pub same : public_part part ≡ replay who start (released part.kept part.accesses)

-- an agent of a private step is no debugger, so its access is listed
inside-listed :
    (encap : Encap) (who : Agent) (kind : Kind) (at : ℕ) (size : Size) (value : ℕ) (done : Bool) → IsInside encap who →
    as_listed who kind at size value done
    ≡ record { kind = kind; at = at; size = size; value = value; done = done } ∷ []
inside-listed encap (Cpu ia) kind at size value done inside = refl
inside-listed encap Entry kind at size value done inside = refl
inside-listed encap Dma kind at size value done inside = absurd inside
inside-listed encap Debug kind at size value done inside = absurd inside
inside-listed encap Boot kind at size value done inside = absurd inside

-- a present access is a release where the seal doesn't hold its address, and else changes nothing that is public
present-replayed :
    (who : Agent) (start : BusPart) (kind : Kind) (at : ℕ) (size : Size) (value : ℕ) (part : BusPart) →
    aligned size at ≡ at → IsReplay who start part → (within : Bool) → is_in part.kept at ≡ within →
    public_part (access_present who kind at size value part).part
    ≡ replay who (public_part part)
    (if within then []
    else told
    (record {
      kind = kind;
      at = at;
      size = size;
      value = (access_present who kind at size value part).answer;
      done = true;
    })
    ∷ [])
present-replayed who start kind at size value part even is true inside =
    present-inside who kind at size value part (record { settled = is.settled; even = even; inside = inside })
present-replayed who start kind at size value part even is false outside =
    let off : is_in (seal (part.units).encap) at ≡ false = rw (← is.settled) outside in
    let beyond = present-outside who kind at size value part is.settled is.inside even off in
    beyond.part
    ∙ ap (λ (o : Accessed). public_part o.part)
    (present-told who (anyone who) kind at size value part (public_part part))

released-present :
    (seal : Seal) (entry : Access) (within : Bool) → entry.done ≡ true → is_in seal entry.at ≡ within →
    released seal (entry ∷ []) ≡ (if within then [] else told entry ∷ [])
released-present seal entry true done inside = grind arith
released-present seal entry false done outside = grind arith

released-absent : (seal : Seal) (entry : Access) → entry.done ≡ false → released seal (entry ∷ []) ≡ []
released-absent seal entry absent = by_place (is_in seal entry.at) refl
  where
    by_place : (within : Bool) → is_in seal entry.at ≡ within → released seal (entry ∷ []) ≡ []
    by_place true inside = grind arith
    by_place false outside = grind arith

present-IsReplay :
    (who : Agent) (start : BusPart) (kind : Kind) (at : ℕ) (size : Size) (value : ℕ) (part : BusPart) →
    aligned size at ≡ at → IsReplay who start part →
    IsReplay who start (access_present who kind at size value part).part
present-IsReplay who start kind at size value part even is = record {
  settled = keeps.kept ∙ is.settled ∙ ap seal (sym keeps.encap);
  locked = rw keeps.encap is.locked;
  inside = subst (λ encap. IsInside encap who) (sym keeps.encap) is.inside;
  kept = keeps.kept ∙ is.kept;
  same = replay-more who start (public_part left) (public_part part) entry part.kept left.kept
      part.accesses left.accesses keeps.kept list is.same more;
}
  where
    left : BusPart
    left = (access_present who kind at size value part).part

    entry : Access
    entry =
        record {
          kind = kind;
          at = at;
          size = size;
          value = (access_present who kind at size value part).answer;
          done = true;
        }

    keeps : KeepsSeal part left
    keeps = present-locked who kind at size value part is.locked

    list : left.accesses ≡ part.accesses ++ entry ∷ []
    list =
        present-list who kind at size value part
        ∙ ap (λ more. part.accesses ++ more)
        (inside-listed (part.units).encap who kind at size entry.value true is.inside)

    more : public_part left ≡ replay who (public_part part) (released part.kept (entry ∷ []))
    more =
        present-replayed who start kind at size value part even is (is_in part.kept at) refl
        ∙ ap (replay who (public_part part)) (sym (released-present part.kept entry (is_in part.kept at) refl refl))

-- an absent write is no release, and changes nothing that is public
absent-IsReplay :
    (who : Agent) (start : BusPart) (at : ℕ) (size : Size) (value : ℕ) (part : BusPart) → IsReplay who start part →
    IsReplay who start (write_absent who at size value part).part
absent-IsReplay who start at size value part is = record {
  settled = is.settled;
  locked = is.locked;
  inside = is.inside;
  kept = is.kept;
  same = replay-more who start (public_part left) (public_part part) entry part.kept left.kept
      part.accesses left.accesses refl list is.same none;
}
  where
    left : BusPart
    left = (write_absent who at size value part).part

    entry : Access
    entry = record { kind = Write; at = at; size = size; value = value; done = false }

    list : left.accesses ≡ part.accesses ++ entry ∷ []
    list =
        ap (λ more. part.accesses ++ more) (inside-listed (part.units).encap who Write at size value false is.inside)

    none : public_part left ≡ replay who (public_part part) (released part.kept (entry ∷ []))
    none =
        ap (replay who (public_part part)) (sym (released-absent part.kept entry refl))

counted-IsReplay :
    (who : Agent) (start : BusPart) (kind : Kind) (part : BusPart) → IsReplay who start part →
    IsReplay who start (counted kind part)
counted-IsReplay who start Write part is =
    record { settled = is.settled; locked = is.locked; inside = is.inside; kept = is.kept; same = is.same }
counted-IsReplay who start kind part is = is

pub access-IsReplay :
    (who : Agent) (start : BusPart) (kind : Kind) (at : ℕ) (size : Size) (value : ℕ) (part : BusPart) →
    IsReplay who start part → IsReplay who start (access who kind at size value part).part
access-IsReplay who start kind at size value part is = by_absence (is_absent kind part) refl
  where
    by_absence :
        (test : Bool) → is_absent kind part ≡ test → IsReplay who start (access who kind at size value part).part
    by_absence true absent =
        subst (λ (o : Accessed). IsReplay who start o.part) (sym (access-absent who kind at size value part absent))
        (absent-IsReplay who start (aligned size at) size value (numbered part)
        (counted-IsReplay who start Write part is))
    by_absence false present =
        subst (λ (o : Accessed). IsReplay who start o.part) (sym (access-present who kind at size value part present))
        (present-IsReplay who start kind (aligned size at) size value (counted kind part) (aligned-aligned size at)
        (counted-IsReplay who start kind part is))

-- ---- a whole step, whatever it ends in

pub run-IsReplay :
    {A : Type 0} (who : Agent) (start : BusPart) (step : Script A) (part : BusPart) → IsReplay who start part →
    IsReplay who start (run who step part).part
run-IsReplay who start (Return value) part is = is
run-IsReplay who start (Ask kind at size value rest) part is =
    let next = access who kind at size value part in
    run-IsReplay who start (rest next.answer) next.part (access-IsReplay who start kind at size value part is)

pub step-replayed :
    {A : Type 0} (who : Agent) (step : Script A) (part : BusPart) → IsLocked part → IsInside (part.units).encap who →
    part.accesses ≡ [] →
    public_part (run who step part).part
    ≡ replay who (public_part part) (released part.kept ((run who step part).part).accesses)
step-replayed who step part is inside unlisted =
    let left = (run who step part).part in
    let first : IsReplay who (public_part part) part =
    record { settled = is.settled; locked = is.locked; inside = inside; kept = refl; same = rw unlisted refl } in
    let last = run-IsReplay who (public_part part) step part first in
    subst (λ kept. public_part left ≡ replay who (public_part part) (released kept left.accesses)) last.kept last.same

pub private_step_is_replayed : PrivateStepIsReplayed
private_step_is_replayed who step part is inside unlisted = step-replayed who step part is inside unlisted
