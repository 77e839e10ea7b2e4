-- A step from outside the seal leaves the seal's bytes: a write that has its right lies whole outside the seal.
use Rattle.std.proofs.Common.{◌≡◌, ◌≢◌, ◌+◌, ◌%◌, ℕ, List, Bool, true, false, slice_index, arith, refl, sym, ◌∙◌, subst}
use Rattle.std.proofs.lemmas.List.{get_or-set_other}
use Rattle.chip_words.specs.declared.sizes.Size.{Size}
use Rattle.chip_words.specs.declared.sizes.Size.TheVariants.{Byte}
use Rattle.chip_words.specs.declared.accesses.Agent.{Agent}
use Rattle.chip_words.specs.declared.accesses.Kind.{Kind}
use Rattle.chip_words.specs.declared.accesses.Kind.TheVariants.{Fetch, Read, Write}
use Rattle.chip_words.specs.declared.seals.Seal.{Seal}
use Rattle.chip_words.specs.Access.{Accessed, access, access_present, numbered}
use Rattle.chip_words.specs.BusPart.{BusPart}
use Rattle.chip_words.specs.Encap.{is_locked}
use Rattle.chip_words.specs.Map.{aligned}
use Rattle.chip_words.specs.Memory.{stored}
use Rattle.chip_words.specs.Public.{IsOutside, IsSettled}
use Rattle.chip_words.specs.Script.{Ask, Return, Script, run}
use Rattle.chip_words.specs.Seals.{is_in}
use Rattle.access_laws.specs.Boots.{HasBorders}
use Rattle.access_laws.specs.Locality.{is_absent}
use Rattle.access_laws.specs.Steps.{PublicStepKeepsBytes}
use Rattle.access_laws.proofs.Courses.{BeyondBoot, Course, LowStart, Refused, ToMemory, ToNothing, ToRegister, access-absent, access-present, access_present-course, counted, course_of, on_course}
use Rattle.access_laws.proofs.Masks.{is_in-next, is_in-nowhere}
use Rattle.access_laws.proofs.Outside.{outside-IsFair}
use Rattle.access_laws.proofs.Seen.{IsFair, IsSettled-HasBorders, seal-unlocked}
use Rattle.access_laws.proofs.Staying.{access-locked}
use Rattle.access_laws.proofs.Stepping.{IsShut, access-IsShut}

-- an address outside a seal is none inside it
apart : (seal : Seal) (at k : ℕ) → is_in seal at ≡ false → is_in seal k ≡ true → k ≢ at
apart seal at k outside inside same = cc

-- a value that is written outside a seal leaves its bytes
stored-inside :
    (seal : Seal) (memory : List ℕ) (at : ℕ) (size : Size) (value k : ℕ) → HasBorders seal → aligned size at ≡ at →
    is_in seal at ≡ false → is_in seal k ≡ true → slice_index (stored memory at size value) k ≡ slice_index memory k
unfolding stored
stored-inside seal memory at Byte value k borders even outside inside =
    get_or-set_other memory at k _ 0 (apart seal at k outside inside)
stored-inside seal memory at size value k borders even outside inside =
    let is_even : at % 2 ≡ 0 = omega (arith, even) in
    let next : is_in seal (at + 1) ≡ false = rw (is_in-next seal at borders is_even) outside in
    get_or-set_other _ (at + 1) k _ 0 (apart seal (at + 1) k next inside)
    ∙ get_or-set_other memory at k _ 0 (apart seal at k outside inside)

-- a byte is as it was
abbrev pub KeepsByte : ℕ → BusPart → BusPart → Type 0
KeepsByte k before after = slice_index after.memory k ≡ slice_index before.memory k

on_course-byte :
    (course : Course) (who : Agent) (kind : Kind) (at : ℕ) (size : Size) (value : ℕ) (part : BusPart) (k : ℕ) →
    IsFair course at size part → is_in part.kept k ≡ true →
    KeepsByte k part (on_course course who kind at size value part).part
on_course-byte LowStart who kind at size value part k fair inside = refl
on_course-byte (Refused place) who kind at size value part k fair inside = refl
on_course-byte BeyondBoot who kind at size value part k fair inside = refl
on_course-byte ToRegister who kind at size value part k fair inside = refl
on_course-byte ToMemory who Write at size value part k fair inside =
    stored-inside part.kept part.memory at size value k (IsSettled-HasBorders part fair.settled) fair.even
    (fair.shown refl) inside
on_course-byte ToMemory who kind at size value part k fair inside = refl
on_course-byte (ToNothing read) who kind at size value part k fair inside = refl

present-byte :
    (who : Agent) (kind : Kind) (at : ℕ) (size : Size) (value : ℕ) (part : BusPart) (k : ℕ) →
    IsFair (course_of part.units who kind at size) at size part → is_in part.kept k ≡ true →
    KeepsByte k part (access_present who kind at size value part).part
present-byte who kind at size value part k fair inside =
    subst (λ (o : Accessed). KeepsByte k part o.part) (sym (access_present-course who kind at size value part))
    (on_course-byte (course_of part.units who kind at size) who kind at size value part k fair inside)

-- one access from outside the seal
pub access-byte :
    (who : Agent) (kind : Kind) (at : ℕ) (size : Size) (value : ℕ) (part : BusPart) (k : ℕ) → IsSettled part →
    IsOutside (part.units).encap who → is_in part.kept k ≡ true →
    KeepsByte k part (access who kind at size value part).part
access-byte who kind at size value part k settled outside inside = by_absence (is_absent kind part) refl
  where
    by_kind :
        (kind : Kind) →
        KeepsByte k part (access_present who kind (aligned size at) size value (counted kind part)).part
    by_kind Write =
        present-byte who Write (aligned size at) size value (numbered part) k
        (outside-IsFair who Write at size (numbered part) settled outside) inside
    by_kind Read =
        present-byte who Read (aligned size at) size value part k
        (outside-IsFair who Read at size part settled outside) inside
    by_kind Fetch =
        present-byte who Fetch (aligned size at) size value part k
        (outside-IsFair who Fetch at size part settled outside) inside

    by_absence : (test : Bool) → is_absent kind part ≡ test → KeepsByte k part (access who kind at size value part).part
    by_absence true absent =
        subst (λ (o : Accessed). KeepsByte k part o.part) (sym (access-absent who kind at size value part absent)) refl
    by_absence false present =
        subst (λ (o : Accessed). KeepsByte k part o.part) (sym (access-present who kind at size value part present))
        (by_kind kind)

-- a whole step, whatever it ends in
shut-byte :
    {A : Type 0} (who : Agent) (step : Script A) (part : BusPart) (k : ℕ) → IsShut who part →
    is_in part.kept k ≡ true → KeepsByte k part (run who step part).part
shut-byte who (Return value) part k shut inside = refl
shut-byte who (Ask kind at size value rest) part k shut inside =
    let next = access who kind at size value part in
    let keeps = access-locked who kind at size value part shut.locked in
    shut-byte who (rest next.answer) next.part k (access-IsShut who kind at size value part shut) (rw keeps.kept inside)
    ∙ access-byte who kind at size value part k shut.settled shut.outside inside

pub step-byte :
    {A : Type 0} (who : Agent) (step : Script A) (part : BusPart) (k : ℕ) → IsSettled part →
    IsOutside (part.units).encap who → is_in part.kept k ≡ true → KeepsByte k part (run who step part).part
step-byte who step part k settled outside inside = by_lock (is_locked (part.units).encap) refl
  where
    by_lock : (test : Bool) → is_locked (part.units).encap ≡ test → KeepsByte k part (run who step part).part
    by_lock true locked =
        shut-byte who step part k (record { settled = settled; locked = locked; outside = outside }) inside
    by_lock false unlocked =
        let empty = settled ∙ seal-unlocked (part.units).encap unlocked in
        let none : is_in part.kept k ≡ false = rw empty (is_in-nowhere k) in
        cc

pub public_step_keeps_bytes : PublicStepKeepsBytes
public_step_keeps_bytes who step part at settled outside inside = step-byte who step part at settled outside inside
