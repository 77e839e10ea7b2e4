-- An access that reaches no hidden byte answers what it would on the public part, and changes that alone.
use Rattle.std.proofs.Common.{◌≡◌, ℕ, List, [], Bool, true, false, arith, refl, ap, sym, ◌∙◌, subst, if◌then◌else◌}
use Rattle.std.specs.Prelude.{Option, None}
use Rattle.chip_words.specs.declared.sizes.Size.{Size}
use Rattle.chip_words.specs.declared.accesses.Agent.{Agent}
use Rattle.chip_words.specs.declared.accesses.Kind.{Kind}
use Rattle.chip_words.specs.declared.accesses.Kind.TheVariants.{Fetch, Read, Write}
use Rattle.chip_words.specs.declared.seals.Seal.{Seal}
use Rattle.chip_words.specs.Access.{Accessed, access, access_present, is_over, numbered, write_absent}
use Rattle.chip_words.specs.BusPart.{BusPart}
use Rattle.chip_words.specs.Causes.{no_causes}
use Rattle.chip_words.specs.Encap.{Encap, area, is_locked, kept_after, seal}
use Rattle.chip_words.specs.Map.{aligned}
use Rattle.chip_words.specs.Public.{IsSettled, hidden, public_part}
use Rattle.chip_words.specs.Seals.{is_in, nowhere}
use Rattle.chip_words.specs.Units.{periph}
use Rattle.access_laws.specs.Boots.{HasBorders}
use Rattle.access_laws.specs.Locality.{AreAlike}
use Rattle.access_laws.proofs.Courses.{BeyondBoot, Course, LowStart, Refused, ToMemory, ToNothing, ToRegister, access_present-course, course_of, on_course, present_on}
use Rattle.access_laws.proofs.Masks.{hidden-nowhere, hidden-twice, loaded-hidden, seal-HasBorders, stored-hidden}

-- ---- what an access goes by

-- all but the hidden bytes, and what the step did so far
abbrev pub seen : BusPart → BusPart
seen part = record part { memory = hidden part.kept part.memory; accesses = []; causes = no_causes }

-- two accesses agree in what is seen
pub record AgreeSeen (a b : Accessed) : Type 0 where
  pub answer : a.answer ≡ b.answer
  pub part : seen a.part ≡ seen b.part

-- what is seen of a chip with this memory hidden once more
pub seen-memory :
    (part : BusPart) (memory : List ℕ) →
    record (seen part) { memory = hidden part.kept memory }
    ≡ record (seen part) { memory = hidden part.kept (hidden part.kept memory) }
seen-memory part memory = ap (λ m. record (seen part) { memory = m }) (sym (hidden-twice part.kept memory))

-- ---- the seal, by its lock

pub seal-unlocked : (encap : Encap) → is_locked encap ≡ false → seal encap ≡ nowhere
seal-unlocked encap unlocked = grind arith

pub seal-locked : (encap : Encap) → is_locked encap ≡ true → seal encap ≡ area encap
seal-locked encap locked = grind arith

pub kept_after-locked :
    (kept : Seal) (before after : Encap) → is_locked before ≡ true → kept_after kept before after ≡ kept
kept_after-locked kept before after locked = grind arith

-- the kept set behind a write hides no less than the one before it
hidden-kept_after :
    (kept : Seal) (before after : Encap) (memory : List ℕ) → kept ≡ seal before →
    hidden (kept_after kept before after) memory ≡ hidden (kept_after kept before after) (hidden kept memory)
hidden-kept_after kept before after memory settled = by_lock (is_locked before) refl
  where
    by_lock :
        (test : Bool) → is_locked before ≡ test →
        hidden (kept_after kept before after) memory ≡ hidden (kept_after kept before after) (hidden kept memory)
    by_lock true locked = rw (kept_after-locked kept before after locked) (sym (hidden-twice kept memory))
    by_lock false unlocked =
        let empty : kept ≡ nowhere = settled ∙ seal-unlocked before unlocked in
        let bare : hidden kept memory ≡ memory = rw empty (hidden-nowhere memory) in
        ap (hidden (kept_after kept before after)) (sym bare)

-- ---- each course

-- an access to memory reaches an open place: a whole word or byte that isn't hidden
pub record IsOpen (at : ℕ) (size : Size) (part : BusPart) : Type 0 where
  pub borders : HasBorders part.kept
  pub even : aligned size at ≡ at
  pub shown : is_in part.kept at ≡ false

register-seen :
    (who : Agent) (kind : Kind) (at : ℕ) (size : Size) (value : ℕ) (part : BusPart) → IsSettled part →
    AgreeSeen
    (on_course ToRegister who kind at size value part)
    (on_course ToRegister who kind at size value (seen part))
register-seen who kind at size value part settled =
    let before = (part.units).encap in
    let after = ((periph part.units kind at size value).units).encap in
    let left = (on_course ToRegister who kind at size value part).part in
    record {
      answer = refl;
      part = ap (λ m. record (seen left) { memory = m }) (hidden-kept_after part.kept before after part.memory settled);
    }

pub written-seen :
    (who : Agent) (at : ℕ) (size : Size) (value : ℕ) (part : BusPart) → HasBorders part.kept → aligned size at ≡ at →
    AgreeSeen (on_course ToMemory who Write at size value part) (on_course ToMemory who Write at size value (seen part))
written-seen who at size value part borders even = record {
  answer = refl;
  part = ap (λ m. record (seen part) { memory = m }) (stored-hidden part.kept part.memory at size value borders even);
}

pub memory-seen :
    (who : Agent) (kind : Kind) (at : ℕ) (size : Size) (value : ℕ) (part : BusPart) → IsOpen at size part →
    AgreeSeen (on_course ToMemory who kind at size value part) (on_course ToMemory who kind at size value (seen part))
memory-seen who Write at size value part reach = written-seen who at size value part reach.borders reach.even
memory-seen who kind at size value part reach = record {
  answer = loaded-hidden part.kept part.memory at size reach.borders reach.even reach.shown;
  part = seen-memory part part.memory;
}

-- a chip is settled, and what an access to memory reaches is open
pub record IsFair (course : Course) (at : ℕ) (size : Size) (part : BusPart) : Type 0 where
  pub settled : IsSettled part
  pub even : aligned size at ≡ at
  pub shown : course ≡ ToMemory → is_in part.kept at ≡ false

pub IsSettled-HasBorders : (part : BusPart) → IsSettled part → HasBorders part.kept
IsSettled-HasBorders part settled = rw settled (seal-HasBorders (part.units).encap)

pub on_course-seen :
    (course : Course) (who : Agent) (kind : Kind) (at : ℕ) (size : Size) (value : ℕ) (part : BusPart) →
    IsFair course at size part →
    AgreeSeen (on_course course who kind at size value part) (on_course course who kind at size value (seen part))
on_course-seen LowStart who kind at size value part fair = record {
  answer = refl;
  part = seen-memory (on_course LowStart who kind at size value part).part part.memory;
}
on_course-seen (Refused place) who kind at size value part fair = record {
  answer = refl;
  part = seen-memory (on_course (Refused place) who kind at size value part).part part.memory;
}
on_course-seen BeyondBoot who kind at size value part fair =
    record { answer = refl; part = seen-memory part part.memory }
on_course-seen ToRegister who kind at size value part fair = register-seen who kind at size value part fair.settled
on_course-seen ToMemory who kind at size value part fair =
    memory-seen who kind at size value part (record {
      borders = IsSettled-HasBorders part fair.settled;
      even = fair.even;
      shown = fair.shown refl;
    })
on_course-seen (ToNothing read) who kind at size value part fair =
    record { answer = refl; part = seen-memory part part.memory }

-- ---- the whole access

-- the two sides of an agreement may be turned into equal ones
pub AgreeSeen-same : (a a' b b' : Accessed) → a ≡ a' → b ≡ b' → AgreeSeen a' b' → AgreeSeen a b
AgreeSeen-same a a' b b' p q agree = subst (AgreeSeen a) (sym q) (subst (λ o. AgreeSeen o b') (sym p) agree)

pub access_present-seen :
    (who : Agent) (kind : Kind) (at : ℕ) (size : Size) (value : ℕ) (part : BusPart) →
    IsFair (course_of part.units who kind at size) at size part →
    AgreeSeen (access_present who kind at size value part) (access_present who kind at size value (seen part))
access_present-seen who kind at size value part fair =
    let course = course_of part.units who kind at size in
    let agree = on_course-seen course who kind at size value part fair in
    AgreeSeen-same
    _ (present_on course who kind at size value part)
    _ (present_on course who kind at size value (seen part))
    (access_present-course who kind at size value part) (access_present-course who kind at size value (seen part))
    (record { answer = agree.answer; part = agree.part })

write-seen :
    (who : Agent) (at : ℕ) (size : Size) (value : ℕ) (part : BusPart) →
    IsFair (course_of part.units who Write at size) at size part → (absent : Bool) →
    AgreeSeen
    (if absent then write_absent who at size value part else access_present who Write at size value part)
    (if absent then write_absent who at size value (seen part) else access_present who Write at size value (seen part))
write-seen who at size value part fair true = record { answer = refl; part = seen-memory part part.memory }
write-seen who at size value part fair false = access_present-seen who Write at size value part fair

pub access-seen :
    (who : Agent) (kind : Kind) (at : ℕ) (size : Size) (value : ℕ) (part : BusPart) →
    IsFair (course_of part.units who kind (aligned size at) size) (aligned size at) size part →
    AgreeSeen (access who kind at size value part) (access who kind at size value (seen part))
unfolding access
access-seen who Write at size value part fair =
    let next = numbered part in
    write-seen who (aligned size at) size value next
    (record { settled = fair.settled; even = fair.even; shown = fair.shown }) (is_over next.budget next.writes)
access-seen who Read at size value part fair = access_present-seen who Read (aligned size at) size value part fair
access-seen who Fetch at size value part fair = access_present-seen who Fetch (aligned size at) size value part fair

-- ---- two chips are alike exactly where what is seen of them is equal

abbrev with_counts : BusPart → Option ℕ → ℕ → ℕ → BusPart
with_counts part budget writes noted = record part { budget = budget; writes = writes; noted = noted }

pub AreAlike-seen : (a b : BusPart) → AreAlike a b → seen a ≡ seen b
AreAlike-seen a b alike =
    ap (λ p. with_counts p a.budget a.writes a.noted) alike.public
    ∙ ap (λ n. with_counts (public_part b) n a.writes a.noted) alike.budget
    ∙ ap (λ n. with_counts (public_part b) b.budget n a.noted) alike.writes
    ∙ ap (λ n. with_counts (public_part b) b.budget b.writes n) alike.noted

pub seen-AreAlike : (a b : BusPart) → seen a ≡ seen b → AreAlike a b
seen-AreAlike a b same = record {
  public = ap (λ part. with_counts part None 0 0) same;
  budget = ap (λ part. part.budget) same;
  writes = ap (λ part. part.writes) same;
  noted = ap (λ part. part.noted) same;
}
