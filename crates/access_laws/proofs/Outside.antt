-- An access from outside the seal: it has no right to a byte of the seal, so it goes by what is seen.
use Rattle.std.proofs.Common.{◌≡◌, ℕ, Bool, true, false, arith, refl, ap, sym, ◌∙◌, subst, if◌then◌else◌}
use Rattle.std.proofs.lemmas.Bool.Decides.{nat_tests}
use Rattle.chip_words.specs.declared.sizes.Size.{Size}
use Rattle.chip_words.specs.declared.accesses.Agent.{Agent}
use Rattle.chip_words.specs.declared.accesses.Agent.TheVariants.{Cpu, Entry, Dma, Debug, Boot}
use Rattle.chip_words.specs.declared.accesses.Kind.{Kind}
use Rattle.chip_words.specs.declared.accesses.Kind.TheVariants.{Fetch, Read, Write}
use Rattle.chip_words.specs.declared.segments.Right.{Right}
use Rattle.chip_words.specs.declared.segments.Right.TheVariants.{Yes, No}
use Rattle.chip_words.specs.Access.{access}
use Rattle.chip_words.specs.BusPart.{BusPart}
use Rattle.chip_words.specs.Encap.{allows, seal}
use Rattle.chip_words.specs.Map.{aligned}
use Rattle.chip_words.specs.Public.{IsOutside, IsSettled}
use Rattle.chip_words.specs.Right.{right_of}
use Rattle.chip_words.specs.Seals.{is_in}
use Rattle.chip_words.specs.Units.{Units}
use Rattle.access_laws.specs.Locality.{OutsideSeesPublic}
use Rattle.access_laws.proofs.Courses.{LowStart, ToMemory, course_of, right_course}
use Rattle.access_laws.proofs.Masks.{aligned-aligned, is_in-nowhere}
use Rattle.access_laws.proofs.Seen.{AgreeSeen, AreAlike-seen, IsFair, access-seen, seen, seen-AreAlike}

-- an address that an agent outside the seal has a right to isn't of the seal
pub right_of-outside :
    (units : Units) (who : Agent) (kind : Kind) (at : ℕ) → IsOutside units.encap who →
    right_of units who kind at ≡ Yes → is_in (seal units.encap) at ≡ false
unfolding right_of allows
right_of-outside units (Cpu ia) Fetch at outside right = grind (arith, nat_tests, is_in-nowhere at)
right_of-outside units (Cpu ia) Read at outside right = grind (arith, nat_tests, is_in-nowhere at)
right_of-outside units (Cpu ia) Write at outside right = grind (arith, nat_tests, is_in-nowhere at)
right_of-outside units Entry kind at outside right = grind (arith, nat_tests, is_in-nowhere at)
right_of-outside units Dma kind at outside right = grind (arith, nat_tests, is_in-nowhere at)
right_of-outside units Debug kind at outside right = grind (arith, nat_tests, is_in-nowhere at)
right_of-outside units Boot kind at outside right = absurd outside

-- what reaches memory has its right
right-ToMemory :
    (low : Bool) (right : Right) (who : Agent) (kind : Kind) (at : ℕ) (size : Size) →
    (if low then LowStart else right_course right who kind at size) ≡ ToMemory → right ≡ Yes
right-ToMemory low Yes who kind at size reaches = refl
right-ToMemory true (No place) who kind at size reaches = cc
right-ToMemory false (No place) who kind at size reaches = cc

pub outside-IsFair :
    (who : Agent) (kind : Kind) (at : ℕ) (size : Size) (part : BusPart) → IsSettled part →
    IsOutside (part.units).encap who →
    IsFair (course_of part.units who kind (aligned size at) size) (aligned size at) size part
outside-IsFair who kind at size part settled outside = record {
  settled = settled;
  even = aligned-aligned size at;
  shown = λ reaches.
      let place = aligned size at in
      let right = right-ToMemory _ (right_of part.units who kind place) who kind place size reaches in
      rw settled (right_of-outside part.units who kind place outside right);
}

-- one access in two chips of which the same is seen
pub access-alike :
    (who : Agent) (kind : Kind) (at : ℕ) (size : Size) (value : ℕ) (a b : BusPart) → IsSettled a → IsSettled b →
    IsOutside (a.units).encap who → seen a ≡ seen b →
    AgreeSeen (access who kind at size value a) (access who kind at size value b)
access-alike who kind at size value a b settled_a settled_b outside same =
    let outside_b : IsOutside (b.units).encap who =
    subst (λ (part : BusPart). IsOutside (part.units).encap who) same outside in
    let x = access-seen who kind at size value a (outside-IsFair who kind at size a settled_a outside) in
    let y = access-seen who kind at size value b (outside-IsFair who kind at size b settled_b outside_b) in
    let middle = ap (access who kind at size value) same in
    record {
      answer = x.answer ∙ ap (λ o. o.answer) middle ∙ sym y.answer;
      part = x.part ∙ ap (λ o. seen o.part) middle ∙ sym y.part;
    }

pub outside_sees_public : OutsideSeesPublic
outside_sees_public who kind at size value a b settled_a settled_b alike outside =
    let agree = access-alike who kind at size value a b settled_a settled_b outside (AreAlike-seen a b alike) in
    record { answer = agree.answer; part = seen-AreAlike _ _ agree.part }
