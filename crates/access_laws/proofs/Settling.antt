-- With power on and the boot done the kept set stays the seal: one induction over a script, whatever it ends in.
use Rattle.std.proofs.Common.{◌≡◌, ℕ, Bool, true, false, arith, refl, ap, sym, ◌∙◌, subst}
use Rattle.std.proofs.lemmas.Bool.Decides.{nat_tests}
use Rattle.chip_words.specs.declared.sizes.Size.{Size}
use Rattle.chip_words.specs.declared.accesses.Agent.{Agent}
use Rattle.chip_words.specs.declared.accesses.Kind.{Kind}
use Rattle.chip_words.specs.declared.accesses.Kind.TheVariants.{Fetch, Read, Write}
use Rattle.chip_words.specs.declared.seals.Seal.{Seal}
use Rattle.chip_words.specs.Access.{Accessed, access, access_present, numbered}
use Rattle.chip_words.specs.BusPart.{BusPart}
use Rattle.chip_words.specs.Encap.{Encap, area, is_enabled, is_locked, kept_after, seal}
use Rattle.chip_words.specs.Map.{aligned}
use Rattle.chip_words.specs.Public.{IsSettled}
use Rattle.chip_words.specs.Script.{Ask, Return, Script, run}
use Rattle.chip_words.specs.Seals.{nowhere}
use Rattle.chip_words.specs.Units.{periph}
use Rattle.access_laws.specs.Locality.{is_absent}
use Rattle.access_laws.specs.Steps.{StepKeepsSeal}
use Rattle.access_laws.proofs.Courses.{BeyondBoot, Course, LowStart, Refused, ToMemory, ToNothing, ToRegister, access-absent, access-present, access_present-course, counted, course_of, on_course, unchosen}
use Rattle.access_laws.proofs.Seen.{kept_after-locked}
use Rattle.access_laws.proofs.Staying.{periph-locked}

area-disabled : (encap : Encap) → is_enabled encap ≡ false → area encap ≡ nowhere
unfolding area
area-disabled encap disabled = unchosen (is_enabled encap) _ _ disabled

-- a lock stays; where it was clear nothing was kept, and a write that sets it keeps the seal
kept_after-settled :
    (kept : Seal) (before after : Encap) → kept ≡ seal before → (is_locked before ≡ true → after ≡ before) →
    kept_after kept before after ≡ seal after
kept_after-settled kept before after settled stays = by_lock (is_locked before) refl
  where
    by_enable :
        (test : Bool) → is_locked before ≡ false → is_enabled after ≡ test → kept_after kept before after ≡ seal after
    by_enable true unlocked enabled = grind (arith, nat_tests)
    by_enable false unlocked disabled =
        let empty = area-disabled after disabled in
        grind (arith, nat_tests)

    by_lock : (test : Bool) → is_locked before ≡ test → kept_after kept before after ≡ seal after
    by_lock true locked =
        kept_after-locked kept before after locked ∙ settled ∙ ap seal (sym (stays locked))
    by_lock false unlocked = by_enable (is_enabled after) unlocked refl

on_course-IsSettled :
    (course : Course) (who : Agent) (kind : Kind) (at : ℕ) (size : Size) (value : ℕ) (part : BusPart) →
    IsSettled part → IsSettled (on_course course who kind at size value part).part
on_course-IsSettled LowStart who kind at size value part settled = settled
on_course-IsSettled (Refused place) who kind at size value part settled = settled
on_course-IsSettled BeyondBoot who kind at size value part settled = settled
on_course-IsSettled ToRegister who kind at size value part settled =
    let after = ((periph part.units kind at size value).units).encap in
    kept_after-settled part.kept (part.units).encap after settled (periph-locked part.units kind at size value)
on_course-IsSettled ToMemory who Write at size value part settled = settled
on_course-IsSettled ToMemory who kind at size value part settled = settled
on_course-IsSettled (ToNothing read) who kind at size value part settled = settled

present-IsSettled :
    (who : Agent) (kind : Kind) (at : ℕ) (size : Size) (value : ℕ) (part : BusPart) → IsSettled part →
    IsSettled (access_present who kind at size value part).part
present-IsSettled who kind at size value part settled =
    let course = course_of part.units who kind at size in
    subst (λ (o : Accessed). IsSettled o.part) (sym (access_present-course who kind at size value part))
    (on_course-IsSettled course who kind at size value part settled)

pub access-IsSettled :
    (who : Agent) (kind : Kind) (at : ℕ) (size : Size) (value : ℕ) (part : BusPart) → IsSettled part →
    IsSettled (access who kind at size value part).part
access-IsSettled who kind at size value part settled = by_absence (is_absent kind part) refl
  where
    by_kind : (kind : Kind) → IsSettled (access_present who kind (aligned size at) size value (counted kind part)).part
    by_kind Write = present-IsSettled who Write (aligned size at) size value (numbered part) settled
    by_kind Read = present-IsSettled who Read (aligned size at) size value part settled
    by_kind Fetch = present-IsSettled who Fetch (aligned size at) size value part settled

    by_absence : (test : Bool) → is_absent kind part ≡ test → IsSettled (access who kind at size value part).part
    by_absence true absent =
        subst (λ (o : Accessed). IsSettled o.part) (sym (access-absent who kind at size value part absent)) settled
    by_absence false present =
        subst (λ (o : Accessed). IsSettled o.part) (sym (access-present who kind at size value part present))
        (by_kind kind)

pub run-IsSettled :
    {A : Type 0} (who : Agent) (step : Script A) (part : BusPart) → IsSettled part → IsSettled (run who step part).part
run-IsSettled who (Return value) part settled = settled
run-IsSettled who (Ask kind at size value rest) part settled =
    let next = access who kind at size value part in
    run-IsSettled who (rest next.answer) next.part (access-IsSettled who kind at size value part settled)

pub step_keeps_seal : StepKeepsSeal
step_keeps_seal who step part settled = run-IsSettled who step part settled
