-- An access from inside the seal: off the area it doesn't matter where its instruction stands, and a byte of the seal
-- is hidden before and behind it.
use Rattle.std.proofs.Common.{◌≡◌, ◌≤◌, ℕ, [], Bool, true, false, arith, refl, ap, sym, ◌∙◌, subst, if◌then◌else◌}
use Rattle.std.specs.Prelude.{None}
use Rattle.std.proofs.lemmas.Bool.Decides.{nat_tests}
use Rattle.chip_words.specs.declared.sizes.Size.{Size}
use Rattle.chip_words.specs.declared.accesses.Agent.{Agent}
use Rattle.chip_words.specs.declared.accesses.Agent.TheVariants.{Cpu, Entry, Dma, Debug, Boot}
use Rattle.chip_words.specs.declared.accesses.Kind.{Kind}
use Rattle.chip_words.specs.declared.accesses.Kind.TheVariants.{Fetch, Read, Write}
use Rattle.chip_words.specs.declared.regions.Region.TheVariants.{Main}
use Rattle.chip_words.specs.declared.seals.Seal.{Seal}
use Rattle.chip_words.specs.declared.segments.Right.{Right}
use Rattle.chip_words.specs.declared.segments.Right.TheVariants.{Yes, No}
use Rattle.chip_words.specs.Access.{Accessed, access, access_present, is_beyond_boot, is_low_start, numbered}
use Rattle.chip_words.specs.BusPart.{BusPart}
use Rattle.chip_words.specs.Causes.{no_causes}
use Rattle.chip_words.specs.Encap.{Encap, allows, area, is_locked, seal}
use Rattle.chip_words.specs.Map.{aligned, region_at}
use Rattle.chip_words.specs.Public.{IsInside, IsSettled, public_part}
use Rattle.chip_words.specs.Right.{right_of}
use Rattle.chip_words.specs.Seals.{is_in}
use Rattle.chip_words.specs.Units.{Units}
use Rattle.access_laws.specs.Locality.{AreInside, EndPublic, InsideIsHidden, InsideSeesPublic, is_absent}
use Rattle.access_laws.specs.Replay.{NO_MEMORY, anyone}
use Rattle.access_laws.proofs.Courses.{BeyondBoot, Course, LowStart, Refused, ToMemory, ToNothing, ToRegister, access-absent, access-present, access_present-course, counted, course_of, on_course, present_on, region_course, right_course}
use Rattle.access_laws.proofs.Masks.{aligned-aligned, hidden-twice, is_in-aligned, is_in-high, is_in-main, is_in-nowhere, seal-HasBorders, stored-hidden_inside}
use Rattle.access_laws.proofs.Seen.{IsFair, IsSettled-HasBorders, access_present-seen, seal-locked, seen}

-- ---- an access outside the seal, by the public part

-- without what stands for one tick or one step alone
abbrev pub bare : BusPart → BusPart
bare part = record part { budget = None; writes = 0; noted = 0; accesses = []; causes = no_causes }

-- two accesses agree in what isn't of one tick or step
pub record AgreeBare (a b : Accessed) : Type 0 where
  pub answer : a.answer ≡ b.answer
  pub part : bare a.part ≡ bare b.part

on_course-bare :
    (course : Course) (who : Agent) (kind : Kind) (at : ℕ) (size : Size) (value : ℕ) (part : BusPart) →
    AgreeBare (on_course course who kind at size value part) (on_course course who kind at size value (bare part))
on_course-bare LowStart who kind at size value part = record { answer = refl; part = refl }
on_course-bare (Refused place) who kind at size value part = record { answer = refl; part = refl }
on_course-bare BeyondBoot who kind at size value part = record { answer = refl; part = refl }
on_course-bare ToRegister who kind at size value part = record { answer = refl; part = refl }
on_course-bare ToMemory who Write at size value part = record { answer = refl; part = refl }
on_course-bare ToMemory who kind at size value part = record { answer = refl; part = refl }
on_course-bare (ToNothing read) who kind at size value part = record { answer = refl; part = refl }

access_present-bare :
    (who : Agent) (kind : Kind) (at : ℕ) (size : Size) (value : ℕ) (part : BusPart) →
    AgreeBare (access_present who kind at size value part) (access_present who kind at size value (bare part))
access_present-bare who kind at size value part =
    let course = course_of part.units who kind at size in
    let agree = on_course-bare course who kind at size value part in
    subst (λ o. AgreeBare o (access_present who kind at size value (bare part)))
    (sym (access_present-course who kind at size value part))
    (subst (AgreeBare (present_on course who kind at size value part))
    (sym (access_present-course who kind at size value (bare part)))
    (record { answer = agree.answer; part = agree.part }))

access_present-public :
    (who : Agent) (kind : Kind) (at : ℕ) (size : Size) (value : ℕ) (part : BusPart) →
    IsFair (course_of part.units who kind at size) at size part →
    EndPublic (access_present who kind at size value part) (access_present who kind at size value (public_part part))
access_present-public who kind at size value part fair =
    let x = access_present-seen who kind at size value part fair in
    let y = access_present-bare who kind at size value (seen part) in
    record { answer = x.answer ∙ y.answer; part = ap bare x.part ∙ ap seen y.part }

-- ---- wherever its instruction stands

pub inside-locked : (encap : Encap) (ia : ℕ) → is_in (seal encap) ia ≡ true → is_locked encap ≡ true
inside-locked encap ia inside = grind (arith, is_in-nowhere ia)

-- off the area one instruction has the rights of another
right_of-elsewhere :
    (units : Units) (one other : ℕ) (kind : Kind) (at : ℕ) → is_in (area units.encap) at ≡ false →
    right_of units (Cpu one) kind at ≡ right_of units (Cpu other) kind at
unfolding right_of allows
right_of-elsewhere units one other kind at outside = grind (arith, nat_tests)

-- an instruction that doesn't begin in the peripherals has no first word there
low_start-high : (ia : ℕ) (kind : Kind) (at : ℕ) → NO_MEMORY ≤ ia → is_low_start (Cpu ia) kind at ≡ false
low_start-high ia Fetch at high = grind (arith, nat_tests)
low_start-high ia Read at high = refl
low_start-high ia Write at high = refl

course-Cpu :
    (units : Units) (ia : ℕ) (kind : Kind) (at : ℕ) (size : Size) → NO_MEMORY ≤ ia →
    course_of units (Cpu ia) kind at size ≡ right_course (right_of units (Cpu ia) kind at) (Cpu ia) kind at size
course-Cpu units ia kind at size high =
    ap (λ b. if b then LowStart else right_course (right_of units (Cpu ia) kind at) (Cpu ia) kind at size)
    (low_start-high ia kind at high)

-- neither what a right comes to nor what a course does goes by the instruction
right_course-Cpu :
    (right : Right) (one other : ℕ) (kind : Kind) (at : ℕ) (size : Size) →
    right_course right (Cpu one) kind at size ≡ right_course right (Cpu other) kind at size
right_course-Cpu Yes one other kind at size = refl
right_course-Cpu (No place) one other kind at size = refl

present_on-Cpu :
    (course : Course) (one other : ℕ) (kind : Kind) (at : ℕ) (size : Size) (value : ℕ) (part : BusPart) →
    present_on course (Cpu one) kind at size value part ≡ present_on course (Cpu other) kind at size value part
present_on-Cpu LowStart one other kind at size value part = refl
present_on-Cpu (Refused place) one other kind at size value part = refl
present_on-Cpu BeyondBoot one other kind at size value part = refl
present_on-Cpu ToRegister one other kind at size value part = refl
present_on-Cpu ToMemory one other kind at size value part = refl
present_on-Cpu (ToNothing read) one other kind at size value part = refl

course-elsewhere :
    (units : Units) (ia : ℕ) (kind : Kind) (at : ℕ) (size : Size) → is_in (seal units.encap) ia ≡ true →
    is_in (seal units.encap) at ≡ false →
    course_of units (Cpu ia) kind at size ≡ course_of units (Cpu NO_MEMORY) kind at size
course-elsewhere units ia kind at size inside outside =
    let high = is_in-high (seal units.encap) ia inside in
    let locked = seal-locked units.encap (inside-locked units.encap ia inside) in
    let off_area : is_in (area units.encap) at ≡ false = rw (← locked) outside in
    course-Cpu units ia kind at size (omega arith)
    ∙ right_course-Cpu (right_of units (Cpu ia) kind at) ia NO_MEMORY kind at size
    ∙ ap (λ right. right_course right (Cpu NO_MEMORY) kind at size)
    (right_of-elsewhere units ia NO_MEMORY kind at off_area)
    ∙ sym (course-Cpu units NO_MEMORY kind at size (omega arith))

access_present-anyone :
    (who : Agent) (kind : Kind) (at : ℕ) (size : Size) (value : ℕ) (part : BusPart) →
    IsInside (part.units).encap who → is_in (seal (part.units).encap) at ≡ false →
    access_present who kind at size value part ≡ access_present (anyone who) kind at size value part
access_present-anyone (Cpu ia) kind at size value part inside outside =
    let here = course_of part.units (Cpu ia) kind at size in
    access_present-course (Cpu ia) kind at size value part
    ∙ present_on-Cpu here ia NO_MEMORY kind at size value part
    ∙ ap (λ course. present_on course (Cpu NO_MEMORY) kind at size value part)
    (course-elsewhere part.units ia kind at size inside outside)
    ∙ sym (access_present-course (Cpu NO_MEMORY) kind at size value part)
access_present-anyone Entry kind at size value part inside outside = refl
access_present-anyone Dma kind at size value part inside outside = refl
access_present-anyone Debug kind at size value part inside outside = refl
access_present-anyone Boot kind at size value part inside outside = refl

-- a present access from inside the seal to an address outside it
pub present-outside :
    (who : Agent) (kind : Kind) (at : ℕ) (size : Size) (value : ℕ) (part : BusPart) → IsSettled part →
    IsInside (part.units).encap who → aligned size at ≡ at → is_in (seal (part.units).encap) at ≡ false →
    EndPublic
    (access_present who kind at size value part)
    (access_present (anyone who) kind at size value (public_part part))
present-outside who kind at size value part settled inside even outside =
    subst (λ o. EndPublic o (access_present (anyone who) kind at size value (public_part part)))
    (sym (access_present-anyone who kind at size value part inside outside))
    (access_present-public (anyone who) kind at size value part
    (record { settled = settled; even = even; shown = λ reaches. rw settled outside }))

-- ---- two of them

pub public-twice : (part : BusPart) → public_part part ≡ public_part (public_part part)
public-twice part = ap (λ m. record (public_part part) { memory = m }) (sym (hidden-twice part.kept part.memory))

absent-public :
    (who : Agent) (kind : Kind) (at : ℕ) (size : Size) (value : ℕ) (part : BusPart) → is_absent kind part ≡ true →
    EndPublic (access who kind at size value part) (record { answer = value; part = public_part part })
absent-public who kind at size value part absent =
    subst (λ o. EndPublic o (record { answer = value; part = public_part part }))
    (sym (access-absent who kind at size value part absent))
    (record { answer = refl; part = public-twice part })

access-outside :
    (who : Agent) (kind : Kind) (at : ℕ) (size : Size) (value : ℕ) (part : BusPart) → IsSettled part →
    IsInside (part.units).encap who → is_in (seal (part.units).encap) at ≡ false → is_absent kind part ≡ false →
    EndPublic
    (access who kind at size value part)
    (access_present (anyone who) kind (aligned size at) size value (public_part part))
access-outside who kind at size value part settled inside outside present =
    subst (λ o. EndPublic o (access_present (anyone who) kind (aligned size at) size value (public_part part)))
    (sym (access-present who kind at size value part present)) (by_kind kind)
  where
    off : is_in (seal (part.units).encap) (aligned size at) ≡ false
    off =
        is_in-aligned (seal (part.units).encap) size at (seal-HasBorders (part.units).encap) ∙ outside

    by_kind :
        (kind : Kind) →
        EndPublic
        (access_present who kind (aligned size at) size value (counted kind part))
        (access_present (anyone who) kind (aligned size at) size value (public_part part))
    by_kind Write =
        present-outside who Write (aligned size at) size value (numbered part) settled inside (aligned-aligned size at)
        off
    by_kind Read =
        present-outside who Read (aligned size at) size value part settled inside (aligned-aligned size at) off
    by_kind Fetch =
        present-outside who Fetch (aligned size at) size value part settled inside (aligned-aligned size at) off

-- each of two agents of private steps is inside, and without their instructions they are the same
record AreSame (encap : Encap) (one other : Agent) : Type 0 where
  pub first : IsInside encap one
  pub second : IsInside encap other
  pub same : anyone one ≡ anyone other

inside-AreSame : (encap : Encap) (one other : Agent) → AreInside encap one other → AreSame encap one other
inside-AreSame encap (Cpu i) (Cpu j) both = record { first = both.0; second = both.1; same = refl }
inside-AreSame encap Entry Entry both = record { first = tt; second = tt; same = refl }
inside-AreSame encap (Cpu i) Entry both = absurd both
inside-AreSame encap (Cpu i) Dma both = absurd both
inside-AreSame encap (Cpu i) Debug both = absurd both
inside-AreSame encap (Cpu i) Boot both = absurd both
inside-AreSame encap Entry (Cpu j) both = absurd both
inside-AreSame encap Entry Dma both = absurd both
inside-AreSame encap Entry Debug both = absurd both
inside-AreSame encap Entry Boot both = absurd both
inside-AreSame encap Dma other both = absurd both
inside-AreSame encap Debug other both = absurd both
inside-AreSame encap Boot other both = absurd both

-- two accesses agree where they agree with equal ones
EndPublic-join :
    (a a' b b' : Accessed) → EndPublic a a' → EndPublic b b' → a'.answer ≡ b'.answer →
    public_part a'.part ≡ public_part b'.part → EndPublic a b
EndPublic-join a a' b b' x y answers parts =
    record { answer = x.answer ∙ answers ∙ sym y.answer; part = x.part ∙ parts ∙ sym y.part }

pub inside_sees_public : InsideSeesPublic
inside_sees_public one other kind at size value a b settled_a settled_b same both outside absence =
    by_absence (is_absent kind a) refl
  where
    agents : AreSame (a.units).encap one other
    agents = inside-AreSame (a.units).encap one other both

    encaps : (a.units).encap ≡ (b.units).encap
    encaps = ap (λ (part : BusPart). (part.units).encap) same

    again : Agent → BusPart → Accessed
    again who part = access_present who kind (aligned size at) size value part

    by_absence :
        (test : Bool) → is_absent kind a ≡ test →
        EndPublic (access one kind at size value a) (access other kind at size value b)
    by_absence true absent =
        EndPublic-join
        _ (record { answer = value; part = public_part a })
        _ (record { answer = value; part = public_part b })
        (absent-public one kind at size value a absent)
        (absent-public other kind at size value b (sym absence ∙ absent))
        refl (ap public_part same)
    by_absence false present =
        let inside_b = subst (λ encap. IsInside encap other) encaps agents.second in
        let outside_b = subst (λ encap. is_in (seal encap) at ≡ false) encaps outside in
        let middle : again (anyone one) (public_part a) ≡ again (anyone other) (public_part b) =
        ap (λ who. again who (public_part a)) agents.same ∙ ap (again (anyone other)) same in
        EndPublic-join _ (again (anyone one) (public_part a)) _ (again (anyone other) (public_part b))
        (access-outside one kind at size value a settled_a agents.first outside present)
        (access-outside other kind at size value b settled_b inside_b outside_b (sym absence ∙ present))
        (ap (λ o. o.answer) middle) (ap (λ o. public_part o.part) middle)

-- ---- an access to an address of the seal

-- a course that neither is to a register nor asks for a reset
abbrev is_quiet : Course → Bool
is_quiet LowStart = false
is_quiet ToRegister = false
is_quiet course = true

not_low_start : (who : Agent) (kind : Kind) (at : ℕ) → NO_MEMORY ≤ at → is_low_start who kind at ≡ false
not_low_start (Cpu ia) Fetch at high = grind (arith, nat_tests)
not_low_start (Cpu ia) Read at high = refl
not_low_start (Cpu ia) Write at high = refl
not_low_start who kind at high = refl

right_course-quiet :
    (right : Right) (who : Agent) (kind : Kind) (at : ℕ) (size : Size) → region_at at ≡ Main →
    is_quiet (right_course right who kind at size) ≡ true
right_course-quiet (No place) who kind at size main = refl
right_course-quiet Yes who kind at size main =
    elim (is_beyond_boot who kind at) as
    (λ b. is_quiet (if b then BeyondBoot else region_course (region_at at) size) ≡ true) [
      | true ↦ refl
      | false ↦ rw main refl
    ]

course-quiet :
    (units : Units) (who : Agent) (kind : Kind) (at : ℕ) (size : Size) (seal : Seal) → is_in seal at ≡ true →
    is_quiet (course_of units who kind at size) ≡ true
course-quiet units who kind at size seal inside =
    let high = is_in-high seal at inside in
    let right = right_of units who kind at in
    ap (λ b. is_quiet (if b then LowStart else right_course right who kind at size))
    (not_low_start who kind at (omega arith))
    ∙ right_course-quiet right who kind at size (is_in-main seal at inside)

-- an access reaches a whole word or byte that is hidden
pub record IsHidden (at : ℕ) (size : Size) (part : BusPart) : Type 0 where
  pub settled : IsSettled part
  pub even : aligned size at ≡ at
  pub inside : is_in part.kept at ≡ true

on_course-hidden :
    (course : Course) (who : Agent) (kind : Kind) (at : ℕ) (size : Size) (value : ℕ) (part : BusPart) →
    is_quiet course ≡ true → IsHidden at size part →
    public_part (on_course course who kind at size value part).part ≡ public_part part
on_course-hidden LowStart who kind at size value part quiet is = cc
on_course-hidden (Refused place) who kind at size value part quiet is = refl
on_course-hidden BeyondBoot who kind at size value part quiet is = refl
on_course-hidden ToRegister who kind at size value part quiet is = cc
on_course-hidden ToMemory who Write at size value part quiet is =
    ap (λ m. record (public_part part) { memory = m })
    (stored-hidden_inside part.kept part.memory at size value (IsSettled-HasBorders part is.settled) is.even is.inside)
on_course-hidden ToMemory who kind at size value part quiet is = refl
on_course-hidden (ToNothing read) who kind at size value part quiet is = refl

-- a present access to an address of the seal
pub present-inside :
    (who : Agent) (kind : Kind) (at : ℕ) (size : Size) (value : ℕ) (part : BusPart) → IsHidden at size part →
    public_part (access_present who kind at size value part).part ≡ public_part part
present-inside who kind at size value part is =
    let course = course_of part.units who kind at size in
    ap (λ (o : Accessed). public_part o.part) (access_present-course who kind at size value part)
    ∙ on_course-hidden course who kind at size value part
    (course-quiet part.units who kind at size part.kept is.inside) is

pub inside_is_hidden : InsideIsHidden
inside_is_hidden who kind at size value part settled inside within = by_absence (is_absent kind part) refl
  where
    hidden : is_in part.kept (aligned size at) ≡ true
    hidden =
        let borders = seal-HasBorders (part.units).encap in
        rw settled (is_in-aligned (seal (part.units).encap) size at borders ∙ within)

    is_hidden : IsHidden (aligned size at) size part
    is_hidden = record { settled = settled; even = aligned-aligned size at; inside = hidden }

    by_kind :
        (kind : Kind) →
        public_part (access_present who kind (aligned size at) size value (counted kind part)).part ≡ public_part part
    by_kind Write =
        present-inside who Write (aligned size at) size value (numbered part)
        (record { settled = settled; even = aligned-aligned size at; inside = hidden })
    by_kind Read = present-inside who Read (aligned size at) size value part is_hidden
    by_kind Fetch = present-inside who Fetch (aligned size at) size value part is_hidden

    by_absence :
        (test : Bool) → is_absent kind part ≡ test →
        public_part (access who kind at size value part).part ≡ public_part part
    by_absence true absent =
        ap (λ (o : Accessed). public_part o.part) (access-absent who kind at size value part absent)
    by_absence false present =
        ap (λ (o : Accessed). public_part o.part) (access-present who kind at size value part present) ∙ by_kind kind
