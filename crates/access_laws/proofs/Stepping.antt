-- A step from outside the seal ends alike in chips that are alike: one induction over its script, whatever it ends in.
-- With the lock set the agent stays outside. With the lock clear nothing is hidden, and the two chips are the same.
use Rattle.std.proofs.Common.{◌≡◌, ℕ, ◌++◌, Bool, true, false, not, refl, ap, sym, ◌∙◌, subst}
use Rattle.chip_words.specs.declared.sizes.Size.{Size}
use Rattle.chip_words.specs.declared.accesses.Agent.{Agent}
use Rattle.chip_words.specs.declared.accesses.Kind.{Kind}
use Rattle.chip_words.specs.declared.accesses.Kind.TheVariants.{Fetch, Read, Write}
use Rattle.chip_words.specs.Access.{access, as_listed}
use Rattle.chip_words.specs.BusPart.{BusPart}
use Rattle.chip_words.specs.Encap.{is_locked, seal}
use Rattle.chip_words.specs.Map.{aligned}
use Rattle.chip_words.specs.Public.{IsOutside, IsSettled, hidden}
use Rattle.chip_words.specs.Script.{Ask, Return, Script, run}
use Rattle.chip_words.specs.Seals.{nowhere}
use Rattle.chip_words.specs.Steps.{begun}
use Rattle.access_laws.specs.Locality.{AreAlike, is_absent}
use Rattle.access_laws.specs.Steps.{PublicStepSeesPublic, RanAlike}
use Rattle.access_laws.proofs.Masks.{hidden-nowhere}
use Rattle.access_laws.proofs.Outside.{access-alike}
use Rattle.access_laws.proofs.Seen.{AreAlike-seen, seal-unlocked, seen, seen-AreAlike}
use Rattle.access_laws.proofs.Staying.{access-list, access-locked}

-- what holds of a locked chip in a step from outside the seal
pub record IsShut (who : Agent) (part : BusPart) : Type 0 where
  pub settled : IsSettled part
  pub locked : is_locked (part.units).encap ≡ true
  pub outside : IsOutside (part.units).encap who

pub access-IsShut :
    (who : Agent) (kind : Kind) (at : ℕ) (size : Size) (value : ℕ) (part : BusPart) → IsShut who part →
    IsShut who (access who kind at size value part).part
access-IsShut who kind at size value part is =
    let keeps = access-locked who kind at size value part is.locked in
    record {
      settled = keeps.kept ∙ is.settled ∙ ap seal (sym keeps.encap);
      locked = rw keeps.encap is.locked;
      outside = subst (λ encap. IsOutside encap who) (sym keeps.encap) is.outside;
    }

is_absent-seen : (kind : Kind) (a b : BusPart) → seen a ≡ seen b → is_absent kind a ≡ is_absent kind b
is_absent-seen Write a b same = ap (is_absent Write) same
is_absent-seen Read a b same = refl
is_absent-seen Fetch a b same = refl

-- equal lists grow by equal entries
access-lists :
    (who : Agent) (kind : Kind) (at : ℕ) (size : Size) (value : ℕ) (a b : BusPart) → seen a ≡ seen b →
    a.accesses ≡ b.accesses →
    (access who kind at size value a).answer ≡ (access who kind at size value b).answer →
    (access who kind at size value a).part.accesses ≡ (access who kind at size value b).part.accesses
access-lists who kind at size value a b same lists answers =
    let x = access who kind at size value a in
    let y = access who kind at size value b in
    let entry : Bool → ℕ → _ = λ absent answer. as_listed who kind (aligned size at) size answer (not absent) in
    access-list who kind at size value a
    ∙ ap (λ list. list ++ entry (is_absent kind a) x.answer) lists
    ∙ ap (λ answer. b.accesses ++ entry (is_absent kind a) answer) answers
    ∙ ap (λ absent. b.accesses ++ entry absent y.answer) (is_absent-seen kind a b same)
    ∙ sym (access-list who kind at size value b)

shut-RanAlike :
    {A : Type 0} (who : Agent) (step : Script A) (a b : BusPart) → IsShut who a → IsShut who b → AreAlike a b →
    a.accesses ≡ b.accesses → RanAlike (run who step a) (run who step b)
shut-RanAlike who (Return value) a b shut_a shut_b alike lists =
    record { value = refl; part = alike; accesses = lists }
shut-RanAlike {A} who (Ask kind at size value rest) a b shut_a shut_b alike lists =
    let x = access who kind at size value a in
    let y = access who kind at size value b in
    let same = AreAlike-seen a b alike in
    let agree = access-alike who kind at size value a b shut_a.settled shut_b.settled shut_a.outside same in
    let more = access-lists who kind at size value a b same lists agree.answer in
    subst (λ answer. RanAlike (run who (rest x.answer) x.part) (run who (rest answer) y.part)) agree.answer
    (shut-RanAlike who (rest x.answer) x.part y.part (access-IsShut who kind at size value a shut_a)
    (access-IsShut who kind at size value b shut_b) (seen-AreAlike _ _ agree.part) more)

-- with nothing sealed all is seen
seen-unlocked : (part : BusPart) → IsSettled part → is_locked (part.units).encap ≡ false → seen part ≡ begun part
seen-unlocked part settled unlocked =
    let empty : part.kept ≡ nowhere = settled ∙ seal-unlocked (part.units).encap unlocked in
    let bare : hidden part.kept part.memory ≡ part.memory = rw empty (hidden-nowhere part.memory) in
    ap (λ m. record (begun part) { memory = m }) bare

pub step-RanAlike :
    {A : Type 0} (who : Agent) (step : Script A) (a b : BusPart) → IsSettled a → IsSettled b → AreAlike a b →
    IsOutside (a.units).encap who → RanAlike (run who step (begun a)) (run who step (begun b))
step-RanAlike {A} who step a b settled_a settled_b alike outside = by_lock (is_locked (a.units).encap) refl
  where
    same : seen a ≡ seen b
    same = AreAlike-seen a b alike

    encaps : (a.units).encap ≡ (b.units).encap
    encaps = ap (λ (part : BusPart). (part.units).encap) same

    by_lock :
        (test : Bool) → is_locked (a.units).encap ≡ test → RanAlike (run who step (begun a)) (run who step (begun b))
    by_lock true locked =
        let outside_b = subst (λ encap. IsOutside encap who) encaps outside in
        shut-RanAlike who step (begun a) (begun b)
        (record { settled = settled_a; locked = locked; outside = outside })
        (record { settled = settled_b; locked = rw (← encaps) locked; outside = outside_b })
        (record { public = alike.public; budget = alike.budget; writes = alike.writes; noted = alike.noted }) refl
    by_lock false unlocked =
        let equal : begun a ≡ begun b =
        sym (seen-unlocked a settled_a unlocked) ∙ same ∙ seen-unlocked b settled_b (rw (← encaps) unlocked) in
        subst (λ part. RanAlike (run who step (begun a)) (run who step part)) equal
        (record {
          value = refl;
          part = record { public = refl; budget = refl; writes = refl; noted = refl };
          accesses = refl;
        })

pub public_step_sees_public : PublicStepSeesPublic
public_step_sees_public who step a b settled_a settled_b alike outside =
    step-RanAlike who step a b settled_a settled_b alike outside
