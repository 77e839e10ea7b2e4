-- An access of the boot: it is never refused, and a write to FRAM hides itself where it is hidden. So the kept set
-- needn't be the seal.
use Rattle.std.proofs.Common.{◌≡◌, ℕ, Bool, true, false, not, arith, refl, ap, sym, ◌∙◌, subst, if◌then◌else◌}
use Rattle.std.proofs.lemmas.Bool.Decides.{nat_tests}
use Rattle.chip_words.specs.declared.sizes.Size.{Size}
use Rattle.chip_words.specs.declared.accesses.Agent.TheVariants.{Boot}
use Rattle.chip_words.specs.declared.accesses.Kind.{Kind}
use Rattle.chip_words.specs.declared.accesses.Kind.TheVariants.{Fetch, Read, Write}
use Rattle.chip_words.specs.declared.regions.Region.{Region}
use Rattle.chip_words.specs.declared.regions.Region.TheVariants.{Periph, Info, Descriptor, Sram, Main, Vacant}
use Rattle.chip_words.specs.declared.seals.Seal.{Seal}
use Rattle.chip_words.specs.declared.segments.Right.TheVariants.{Yes}
use Rattle.chip_words.specs.Access.{Accessed, access, access_present, is_beyond_boot, numbered}
use Rattle.chip_words.specs.BusPart.{BusPart}
use Rattle.chip_words.specs.Encap.{allows}
use Rattle.chip_words.specs.Map.{aligned, is_fram, keeps_without_power, region_at}
use Rattle.chip_words.specs.Right.{right_of}
use Rattle.chip_words.specs.Seals.{is_in}
use Rattle.chip_words.specs.Units.{Units}
use Rattle.access_laws.specs.Boots.{BootSeesPublic, HasBorders, IsOfBoot}
use Rattle.access_laws.specs.Locality.{is_absent}
use Rattle.access_laws.proofs.Courses.{BeyondBoot, Course, ToMemory, access-absent, access-present, access_present-course, counted, course_of, present_on, region_course, right_course}
use Rattle.access_laws.proofs.Masks.{aligned-aligned, loaded-hidden}
use Rattle.access_laws.proofs.Seen.{AreAlike-seen, seen, seen-AreAlike, seen-memory, written-seen}

-- ---- its course

pub right_of-Boot : (units : Units) (kind : Kind) (at : ℕ) → right_of units Boot kind at ≡ Yes
unfolding right_of allows
right_of-Boot units kind at = grind (arith, nat_tests)

beyond_boot-fram : (kind : Kind) (at : ℕ) → is_fram at ≡ true → is_beyond_boot Boot kind at ≡ false
beyond_boot-fram Read at fram = grind (arith, nat_tests)
beyond_boot-fram Write at fram = refl
beyond_boot-fram Fetch at fram = refl

fram-ToMemory :
    (region : Region) (size : Size) → keeps_without_power region ≡ true → region_course region size ≡ ToMemory
fram-ToMemory Info size fram = refl
fram-ToMemory Main size fram = refl
fram-ToMemory Periph size fram = cc
fram-ToMemory Descriptor size fram = cc
fram-ToMemory Sram size fram = cc
fram-ToMemory Vacant size fram = cc

fram-region : (at : ℕ) → is_fram at ≡ true → keeps_without_power (region_at at) ≡ true
unfolding is_fram
fram-region at fram = fram

pub course-Boot :
    (units : Units) (kind : Kind) (at : ℕ) (size : Size) → is_fram at ≡ true →
    course_of units Boot kind at size ≡ ToMemory
course-Boot units kind at size fram =
    ap (λ right. right_course right Boot kind at size) (right_of-Boot units kind at)
    ∙ ap (λ b. if b then BeyondBoot else region_course (region_at at) size) (beyond_boot-fram kind at fram)
    ∙ fram-ToMemory (region_at at) size (fram-region at fram)

course-off :
    (units : Units) (at : ℕ) (size : Size) → is_fram at ≡ false → course_of units Boot Read at size ≡ BeyondBoot
course-off units at size off =
    ap (λ right. right_course right Boot Read at size) (right_of-Boot units Read at)
    ∙ ap (λ fram. if not fram then BeyondBoot else region_course (region_at at) size) off

-- ---- one chip

-- two accesses agree in what is seen, and in the answer where the seal doesn't hold the address
record AgreeOff (seal : Seal) (at : ℕ) (a b : Accessed) : Type 0 where
  pub answer : is_in seal at ≡ false → a.answer ≡ b.answer
  pub part : seen a.part ≡ seen b.part

memory-AgreeOff :
    (kind : Kind) (at : ℕ) (size : Size) (value : ℕ) (part : BusPart) → HasBorders part.kept → aligned size at ≡ at →
    AgreeOff part.kept at
    (present_on ToMemory Boot kind at size value part)
    (present_on ToMemory Boot kind at size value (seen part))
memory-AgreeOff Write at size value part borders even =
    let written = written-seen Boot at size value part borders even in
    record { answer = λ outside. refl; part = written.part }
memory-AgreeOff Read at size value part borders even = record {
  answer = λ outside. loaded-hidden part.kept part.memory at size borders even outside;
  part = seen-memory part part.memory;
}
memory-AgreeOff Fetch at size value part borders even = record {
  answer = λ outside. loaded-hidden part.kept part.memory at size borders even outside;
  part = seen-memory part part.memory;
}

AgreeOff-same :
    (seal : Seal) (at : ℕ) (a a' b b' : Accessed) → a ≡ a' → b ≡ b' → AgreeOff seal at a' b' → AgreeOff seal at a b
AgreeOff-same seal at a a' b b' p q agree =
    subst (AgreeOff seal at a) (sym q) (subst (λ o. AgreeOff seal at o b') (sym p) agree)

pub present-Boot :
    (course : Course) (kind : Kind) (at : ℕ) (size : Size) (value : ℕ) (part : BusPart) →
    course_of part.units Boot kind at size ≡ course →
    access_present Boot kind at size value part ≡ present_on course Boot kind at size value part
present-Boot course kind at size value part same =
    access_present-course Boot kind at size value part
    ∙ ap (λ course. present_on course Boot kind at size value part) same

fram-AgreeOff :
    (kind : Kind) (at : ℕ) (size : Size) (value : ℕ) (part : BusPart) → HasBorders part.kept → aligned size at ≡ at →
    is_fram at ≡ true →
    AgreeOff part.kept at
    (access_present Boot kind at size value part)
    (access_present Boot kind at size value (seen part))
fram-AgreeOff kind at size value part borders even fram =
    let same = course-Boot part.units kind at size fram in
    AgreeOff-same part.kept at _ _ _ _
    (present-Boot ToMemory kind at size value part same) (present-Boot ToMemory kind at size value (seen part) same)
    (memory-AgreeOff kind at size value part borders even)

off-AgreeOff :
    (at : ℕ) (size : Size) (value : ℕ) (part : BusPart) → is_fram at ≡ false →
    AgreeOff part.kept at
    (access_present Boot Read at size value part)
    (access_present Boot Read at size value (seen part))
off-AgreeOff at size value part off =
    let same = course-off part.units at size off in
    AgreeOff-same part.kept at _ _ _ _
    (present-Boot BeyondBoot Read at size value part same) (present-Boot BeyondBoot Read at size value (seen part) same)
    (record { answer = λ outside. refl; part = seen-memory part part.memory })

present-AgreeOff :
    (kind : Kind) (at : ℕ) (size : Size) (value : ℕ) (part : BusPart) → HasBorders part.kept → aligned size at ≡ at →
    IsOfBoot kind at →
    AgreeOff part.kept at
    (access_present Boot kind at size value part)
    (access_present Boot kind at size value (seen part))
present-AgreeOff Read at size value part borders even own = by_place (is_fram at) refl
  where
    by_place :
        (test : Bool) → is_fram at ≡ test →
        AgreeOff part.kept at
        (access_present Boot Read at size value part)
        (access_present Boot Read at size value (seen part))
    by_place true fram = fram-AgreeOff Read at size value part borders even fram
    by_place false off = off-AgreeOff at size value part off
present-AgreeOff Write at size value part borders even own = fram-AgreeOff Write at size value part borders even own
present-AgreeOff Fetch at size value part borders even own = fram-AgreeOff Fetch at size value part borders even own

access-AgreeOff :
    (kind : Kind) (at : ℕ) (size : Size) (value : ℕ) (part : BusPart) → HasBorders part.kept →
    IsOfBoot kind (aligned size at) →
    AgreeOff part.kept (aligned size at)
    (access Boot kind at size value part)
    (access Boot kind at size value (seen part))
access-AgreeOff kind at size value part borders own = by_absence (is_absent kind part) refl
  where
    absences : (kind : Kind) → is_absent kind (seen part) ≡ is_absent kind part
    absences Write = refl
    absences Read = refl
    absences Fetch = refl

    by_kind :
        (kind : Kind) → IsOfBoot kind (aligned size at) →
        AgreeOff part.kept (aligned size at)
        (access_present Boot kind (aligned size at) size value (counted kind part))
        (access_present Boot kind (aligned size at) size value (counted kind (seen part)))
    by_kind Write own =
        present-AgreeOff Write (aligned size at) size value (numbered part) borders (aligned-aligned size at) own
    by_kind Read own = present-AgreeOff Read (aligned size at) size value part borders (aligned-aligned size at) own
    by_kind Fetch own = present-AgreeOff Fetch (aligned size at) size value part borders (aligned-aligned size at) own

    by_absence :
        (test : Bool) → is_absent kind part ≡ test →
        AgreeOff part.kept (aligned size at)
        (access Boot kind at size value part)
        (access Boot kind at size value (seen part))
    by_absence true absent =
        AgreeOff-same part.kept (aligned size at) _ _ _ _
        (access-absent Boot kind at size value part absent)
        (access-absent Boot kind at size value (seen part) (absences kind ∙ absent))
        (record { answer = λ outside. refl; part = seen-memory (numbered part) part.memory })
    by_absence false present =
        AgreeOff-same part.kept (aligned size at) _ _ _ _
        (access-present Boot kind at size value part present)
        (access-present Boot kind at size value (seen part) (absences kind ∙ present))
        (by_kind kind own)

-- ---- two chips

pub boot_sees_public : BootSeesPublic
boot_sees_public kind at size value a b borders alike own =
    let same = AreAlike-seen a b alike in
    let kepts = ap (λ (part : BusPart). part.kept) same in
    let x = access-AgreeOff kind at size value a borders own in
    let y = access-AgreeOff kind at size value b (subst HasBorders kepts borders) own in
    let middle = ap (access Boot kind at size value) same in
    let shown : is_in a.kept (aligned size at) ≡ false → is_in b.kept (aligned size at) ≡ false =
    λ outside. subst (λ kept. is_in kept (aligned size at) ≡ false) kepts outside in
    record {
      answer = λ outside. x.answer outside ∙ ap (λ o. o.answer) middle ∙ sym (y.answer (shown outside));
      part = seen-AreAlike _ _ (x.part ∙ ap (λ o. seen o.part) middle ∙ sym y.part);
    }
