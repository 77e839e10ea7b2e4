-- What an access leaves as it was: with the lock set the registers of the encapsulation and the kept set, and always
-- the list of accesses, but for the one that it adds.
use Rattle.std.proofs.Common.{◌≡◌, ℕ, ◌++◌, not, Bool, true, false, arith, refl, ap, sym, ◌∙◌, subst}
use Rattle.std.specs.Prelude.{Option, Some, None}
use Rattle.std.proofs.lemmas.Bool.Decides.{nat_tests}
use Rattle.chip_words.specs.declared.sizes.Size.{Size}
use Rattle.chip_words.specs.declared.accesses.Agent.{Agent}
use Rattle.chip_words.specs.declared.accesses.Kind.{Kind}
use Rattle.chip_words.specs.declared.accesses.Kind.TheVariants.{Fetch, Read, Write}
use Rattle.chip_words.specs.declared.unit_names.UnitName.{UnitName}
use Rattle.chip_words.specs.declared.unit_names.UnitName.TheVariants as of
use Rattle.chip_words.specs.Access.{Accessed, access, access_present, as_listed, numbered}
use Rattle.chip_words.specs.Addresses.{MPUIPC0, MPUIPSEGB1, MPUIPSEGB2, unit_at}
use Rattle.chip_words.specs.BusPart.{BusPart}
use Rattle.chip_words.specs.Encap.{Encap, encap_written, is_locked, takes}
use Rattle.chip_words.specs.Map.{aligned}
use Rattle.chip_words.specs.Units.{Units, periph, touched_in, units_touched, units_written, written_in}
use Rattle.access_laws.specs.Locality.{is_absent}
use Rattle.access_laws.proofs.Courses.{BeyondBoot, Course, LowStart, Refused, ToMemory, ToNothing, ToRegister, access-absent, access-present, access_present-course, counted, course_of, on_course, unchosen}
use Rattle.access_laws.proofs.Seen.{kept_after-locked}

-- ---- the registers of the encapsulation

takes-locked :
    (encap : Encap) (is_open : Bool) (register at : ℕ) → is_locked encap ≡ true →
    takes encap is_open register at ≡ false
takes-locked encap is_open register at locked = grind (arith, nat_tests)

same_encap :
    (x y : Encap) → x.mpuipc0 ≡ y.mpuipc0 → x.mpuipsegb2 ≡ y.mpuipsegb2 → x.mpuipsegb1 ≡ y.mpuipsegb1 → x ≡ y
same_encap x y control second first =
    let made : ℕ → ℕ → ℕ → Encap = λ c s f. record { mpuipc0 = c; mpuipsegb2 = s; mpuipsegb1 = f } in
    ap (λ c. made c x.mpuipsegb2 x.mpuipsegb1) control
    ∙ ap (λ s. made y.mpuipc0 s x.mpuipsegb1) second
    ∙ ap (made y.mpuipc0 y.mpuipsegb2) first

pub encap_written-locked :
    (encap : Encap) (is_open : Bool) (at : ℕ) (size : Size) (value : ℕ) → is_locked encap ≡ true →
    encap_written encap is_open at size value ≡ encap
unfolding encap_written
encap_written-locked encap is_open at size value locked =
    same_encap (encap_written encap is_open at size value) encap
    (unchosen (takes encap is_open MPUIPC0 at) _ _ (takes-locked encap is_open MPUIPC0 at locked))
    (unchosen (takes encap is_open MPUIPSEGB2 at) _ _ (takes-locked encap is_open MPUIPSEGB2 at locked))
    (unchosen (takes encap is_open MPUIPSEGB1 at) _ _ (takes-locked encap is_open MPUIPSEGB1 at locked))

written_in-locked :
    (unit : Option UnitName) (units : Units) (at : ℕ) (size : Size) (value : ℕ) → is_locked units.encap ≡ true →
    (written_in unit units at size value).encap ≡ units.encap
written_in-locked (Some of.Sys) units at size value locked = refl
written_in-locked (Some of.Timers) units at size value locked = refl
written_in-locked (Some of.Ports) units at size value locked = refl
written_in-locked (Some of.Dma) units at size value locked = refl
written_in-locked (Some of.Fram) units at size value locked = refl
written_in-locked (Some of.Mpu) units at size value locked = refl
written_in-locked (Some of.Encap) units at size value locked =
    encap_written-locked units.encap (units.mpu).is_open at size value locked
written_in-locked None units at size value locked = refl

touched_in-encap : (unit : Option UnitName) (units : Units) (at : ℕ) → (touched_in unit units at).encap ≡ units.encap
touched_in-encap (Some of.Sys) units at = refl
touched_in-encap (Some of.Timers) units at = refl
touched_in-encap (Some of.Ports) units at = refl
touched_in-encap (Some of.Dma) units at = refl
touched_in-encap (Some of.Fram) units at = refl
touched_in-encap (Some of.Mpu) units at = refl
touched_in-encap (Some of.Encap) units at = refl
touched_in-encap None units at = refl

pub periph-locked :
    (units : Units) (kind : Kind) (at : ℕ) (size : Size) (value : ℕ) → is_locked units.encap ≡ true →
    ((periph units kind at size value).units).encap ≡ units.encap
unfolding periph units_touched units_written
periph-locked units Write at size value locked = written_in-locked (unit_at at) units at size value locked
periph-locked units Read at size value locked = touched_in-encap (unit_at at) units at
periph-locked units Fetch at size value locked = touched_in-encap (unit_at at) units at

-- ---- the kept set

-- a chip keeps its seal and the kept set
pub record KeepsSeal (before after : BusPart) : Type 0 where
  pub kept : after.kept ≡ before.kept
  pub encap : (after.units).encap ≡ (before.units).encap

on_course-locked :
    (course : Course) (who : Agent) (kind : Kind) (at : ℕ) (size : Size) (value : ℕ) (part : BusPart) →
    is_locked (part.units).encap ≡ true → KeepsSeal part (on_course course who kind at size value part).part
on_course-locked LowStart who kind at size value part locked = record { kept = refl; encap = refl }
on_course-locked (Refused place) who kind at size value part locked = record { kept = refl; encap = refl }
on_course-locked BeyondBoot who kind at size value part locked = record { kept = refl; encap = refl }
on_course-locked ToRegister who kind at size value part locked =
    let after = ((periph part.units kind at size value).units).encap in
    record {
      kept = kept_after-locked part.kept (part.units).encap after locked;
      encap = periph-locked part.units kind at size value locked;
    }
on_course-locked ToMemory who Write at size value part locked = record { kept = refl; encap = refl }
on_course-locked ToMemory who kind at size value part locked = record { kept = refl; encap = refl }
on_course-locked (ToNothing read) who kind at size value part locked = record { kept = refl; encap = refl }

pub present-locked :
    (who : Agent) (kind : Kind) (at : ℕ) (size : Size) (value : ℕ) (part : BusPart) →
    is_locked (part.units).encap ≡ true → KeepsSeal part (access_present who kind at size value part).part
present-locked who kind at size value part locked =
    let course = course_of part.units who kind at size in
    let keeps = on_course-locked course who kind at size value part locked in
    subst (λ (o : Accessed). KeepsSeal part o.part) (sym (access_present-course who kind at size value part))
    (record { kept = keeps.kept; encap = keeps.encap })

-- whatever access is made, by whomever
pub access-locked :
    (who : Agent) (kind : Kind) (at : ℕ) (size : Size) (value : ℕ) (part : BusPart) →
    is_locked (part.units).encap ≡ true → KeepsSeal part (access who kind at size value part).part
access-locked who kind at size value part locked = by_absence (is_absent kind part) refl
  where
    by_kind :
        (kind : Kind) → KeepsSeal part (access_present who kind (aligned size at) size value (counted kind part)).part
    by_kind Write =
        let keeps = present-locked who Write (aligned size at) size value (numbered part) locked in
        record { kept = keeps.kept; encap = keeps.encap }
    by_kind Read = present-locked who Read (aligned size at) size value part locked
    by_kind Fetch = present-locked who Fetch (aligned size at) size value part locked

    by_absence : (test : Bool) → is_absent kind part ≡ test → KeepsSeal part (access who kind at size value part).part
    by_absence true absent =
        subst (λ (o : Accessed). KeepsSeal part o.part) (sym (access-absent who kind at size value part absent))
        (record { kept = refl; encap = refl })
    by_absence false present =
        subst (λ (o : Accessed). KeepsSeal part o.part) (sym (access-present who kind at size value part present))
        (by_kind kind)

-- ---- the list of accesses

on_course-list :
    (course : Course) (who : Agent) (kind : Kind) (at : ℕ) (size : Size) (value : ℕ) (part : BusPart) →
    (on_course course who kind at size value part).part.accesses ≡ part.accesses
on_course-list LowStart who kind at size value part = refl
on_course-list (Refused place) who kind at size value part = refl
on_course-list BeyondBoot who kind at size value part = refl
on_course-list ToRegister who kind at size value part = refl
on_course-list ToMemory who Write at size value part = refl
on_course-list ToMemory who kind at size value part = refl
on_course-list (ToNothing read) who kind at size value part = refl

-- the list behind an access, which is listed with its answer
abbrev pub ListsAnswer : Agent → Kind → ℕ → Size → Bool → BusPart → Accessed → Type 0
ListsAnswer who kind at size done part after =
    (after.part).accesses ≡ part.accesses ++ as_listed who kind at size after.answer done

pub present-list :
    (who : Agent) (kind : Kind) (at : ℕ) (size : Size) (value : ℕ) (part : BusPart) →
    ListsAnswer who kind at size true part (access_present who kind at size value part)
present-list who kind at size value part =
    let course = course_of part.units who kind at size in
    subst (ListsAnswer who kind at size true part) (sym (access_present-course who kind at size value part))
    (ap (λ list. list ++ as_listed who kind at size (on_course course who kind at size value part).answer true)
    (on_course-list course who kind at size value part))

pub access-list :
    (who : Agent) (kind : Kind) (at : ℕ) (size : Size) (value : ℕ) (part : BusPart) →
    ListsAnswer who kind (aligned size at) size (not (is_absent kind part)) part (access who kind at size value part)
access-list who kind at size value part = by_absence (is_absent kind part) refl
  where
    by_kind :
        (kind : Kind) →
        ListsAnswer who kind (aligned size at) size true part
        (access_present who kind (aligned size at) size value (counted kind part))
    by_kind Write = present-list who Write (aligned size at) size value (numbered part)
    by_kind Read = present-list who Read (aligned size at) size value part
    by_kind Fetch = present-list who Fetch (aligned size at) size value part

    absent-Write : (kind : Kind) → is_absent kind part ≡ true → kind ≡ Write
    absent-Write Write absent = refl
    absent-Write Read absent = cc
    absent-Write Fetch absent = cc

    by_absence :
        (test : Bool) → is_absent kind part ≡ test →
        ListsAnswer who kind (aligned size at) size (not (is_absent kind part)) part
        (access who kind at size value part)
    by_absence true absent =
        rw absent
        (subst (ListsAnswer who kind (aligned size at) size false part)
        (sym (access-absent who kind at size value part absent))
        (ap (λ kind. part.accesses ++ as_listed who kind (aligned size at) size value false)
        (sym (absent-Write kind absent))))
    by_absence false present =
        rw present
        (subst (ListsAnswer who kind (aligned size at) size true part)
        (sym (access-present who kind at size value part present)) (by_kind kind))
