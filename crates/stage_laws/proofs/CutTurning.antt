-- A turn in private phase, in a tick that is cut: its releases tell what outlasts.
use Rattle.std.proofs.Common.{◌≡◌, ◌≤◌, ◌++◌, ◌&&◌, not, ℕ, List, [], ◌∷◌, Bool, true, false, arith, refl, ap, sym, ◌∙◌, subst, if◌then◌else◌}
use Rattle.std.specs.Prelude.{Option, Some, None, filter, map, nat_lt}
use Rattle.std.proofs.lemmas.Bool.Decides.{nat_tests}
use Rattle.chip_words.specs.declared.sizes.Size.{Size}
use Rattle.chip_words.specs.declared.accesses.Access.{Access}
use Rattle.chip_words.specs.declared.accesses.Agent.{Agent}
use Rattle.chip_words.specs.declared.accesses.Agent.TheVariants.{Cpu, Entry, Dma, Debug, Boot}
use Rattle.chip_words.specs.declared.accesses.Kind.{Kind}
use Rattle.chip_words.specs.declared.accesses.Kind.TheVariants.{Fetch, Read, Write}
use Rattle.chip_words.specs.declared.seals.Seal.{Seal}
use Rattle.chip_words.specs.declared.unit_names.UnitName.{UnitName}
use Rattle.chip_words.specs.declared.unit_names.UnitName.TheVariants as of
use Rattle.chip_words.specs.Access.{Accessed, access, access_present, as_listed}
use Rattle.chip_words.specs.Addresses.{PBIN, unit_at}
use Rattle.chip_words.specs.BusPart.{BusPart}
use Rattle.chip_words.specs.Encap.{Encap, is_sealing, kept_after}
use Rattle.chip_words.specs.Map.{aligned}
use Rattle.chip_words.specs.Ports.{ports_touched}
use Rattle.chip_words.specs.Public.{hidden, public_part}
use Rattle.chip_words.specs.Script.{Ask, Return, Script, run}
use Rattle.chip_words.specs.Seals.{is_in}
use Rattle.chip_words.specs.Units.{Units, periph, touched_in, units_touched}
use Rattle.access_laws.specs.Locality.{is_absent}
use Rattle.access_laws.specs.Replay.{anyone, is_released, released, replay, replayed, told}
use Rattle.access_laws.proofs.Courses.{BeyondBoot, Course, LowStart, Refused, ToMemory, ToNothing, ToRegister, access_present-course, course_of, on_course, unchosen}
use Rattle.access_laws.proofs.Masks.{hidden-twice}
use Rattle.access_laws.proofs.Replaying.{released-append}
use Rattle.access_laws.proofs.Staying.{access-list}
use Rattle.step_laws.specs.Accesses.{IsOrderly, rank}
use Rattle.step_laws.proofs.Shapes.{either_holds}
use Rattle.chip_core.specs.State.{State}
use Rattle.stage_laws.specs.Cuts.{Lasting, lasting}

-- ---- lists in the order of an instruction

-- each access has at least the rank of the one before it
abbrev pub AreOrderly : ℕ → List Access → Type 0
AreOrderly low [] = Unit {0}
AreOrderly low (entry ∷ entries) = (low ≤ rank entry.kind) × AreOrderly (rank entry.kind) entries

abbrev AreWithin : ℕ → List Access → Type 0
AreWithin high [] = Unit {0}
AreWithin high (entry ∷ entries) = (rank entry.kind ≤ high) × AreWithin high entries

-- no write is among them
abbrev pub AreReads : List Access → Type 0
AreReads entries = AreWithin 1 entries

orderly-lower : (low lower : ℕ) (entries : List Access) → lower ≤ low → AreOrderly low entries → AreOrderly lower entries
orderly-lower low lower [] l are = tt
orderly-lower low lower (entry ∷ entries) l are = (omega (arith, are.0), are.1)

within-higher : (high higher : ℕ) (entries : List Access) → high ≤ higher → AreWithin high entries → AreWithin higher entries
within-higher high higher [] l are = tt
within-higher high higher (entry ∷ entries) l are = (omega (arith, are.0), within-higher high higher entries l are.1)

within-append : (high : ℕ) (xs ys : List Access) → AreWithin high xs → AreWithin high ys → AreWithin high (xs ++ ys)
within-append high [] ys p q = q
within-append high (x ∷ xs) ys p q = (p.0, within-append high xs ys p.1 q)

orderly-append :
    (low high : ℕ) (xs ys : List Access) → low ≤ high → AreOrderly low xs → AreWithin high xs → AreOrderly high ys →
    AreOrderly low (xs ++ ys)
orderly-append low high [] ys l are within more = orderly-lower high low ys l more
orderly-append low high (x ∷ xs) ys l are within more =
    (are.0, orderly-append (rank x.kind) high xs ys within.0 are.1 within.1 more)

listed-orderly :
    (who : Agent) (kind : Kind) (at : ℕ) (size : Size) (value : ℕ) (done : Bool) (low : ℕ) → low ≤ rank kind →
    AreOrderly low (as_listed who kind at size value done)
listed-orderly Debug kind at size value done low l = tt
listed-orderly (Cpu ia) kind at size value done low l = (l, tt)
listed-orderly Entry kind at size value done low l = (l, tt)
listed-orderly Dma kind at size value done low l = (l, tt)
listed-orderly Boot kind at size value done low l = (l, tt)

listed-within :
    (who : Agent) (kind : Kind) (at : ℕ) (size : Size) (value : ℕ) (done : Bool) →
    AreWithin (rank kind) (as_listed who kind at size value done)
listed-within Debug kind at size value done = tt
listed-within (Cpu ia) kind at size value done = (omega arith, tt)
listed-within Entry kind at size value done = (omega arith, tt)
listed-within Dma kind at size value done = (omega arith, tt)
listed-within Boot kind at size value done = (omega arith, tt)

pub run-orderly :
    {A : Type 0} (who : Agent) (step : Script A) (part : BusPart) (low : ℕ) → IsOrderly low step →
    AreOrderly 0 part.accesses → AreWithin low part.accesses → AreOrderly 0 (run who step part).part.accesses
run-orderly who (Return value) part low order are within = are
run-orderly who (Ask kind at size value rest) part low order are within =
    let next : Accessed = access who kind at size value part in
    let done : Bool = not (is_absent kind part) in
    let more : List Access = as_listed who kind (aligned size at) size next.answer done in
    let list : next.part.accesses ≡ part.accesses ++ more = access-list who kind at size value part in
    let few : AreWithin (rank kind) (part.accesses ++ more) =
    within-append (rank kind) part.accesses more (within-higher low (rank kind) part.accesses order.0 within)
    (listed-within who kind (aligned size at) size next.answer done) in
    let all : AreOrderly 0 (part.accesses ++ more) =
    orderly-append 0 low part.accesses more (omega arith) are within
    (listed-orderly who kind (aligned size at) size next.answer done low order.0) in
    run-orderly who (rest next.answer) next.part (rank kind) (order.1 next.answer)
    (subst (AreOrderly 0) (sym list) all) (subst (AreWithin (rank kind)) (sym list) few)

pub released-orderly :
    (seal : Seal) (low : ℕ) (entries : List Access) → AreOrderly low entries → AreOrderly low (released seal entries)
released-orderly seal low [] are = tt
released-orderly seal low (entry ∷ entries) are =
    by_test (is_released seal entry)
    (orderly-lower (rank entry.kind) low (released seal entries) are.0 (released-orderly seal (rank entry.kind) entries are.1))
    (released-orderly seal (rank entry.kind) entries are.1)
  where
    kept : List Access
    kept = filter (is_released seal) entries

    by_test :
        (v : Bool) → AreOrderly low (map told kept) → AreOrderly (rank entry.kind) (map told kept) →
        AreOrderly low (map told (if v then entry ∷ kept else kept))
    by_test true p q = (are.0, q)
    by_test false p q = p

-- ---- lists that end in a read

-- the last access reads
pub record EndsInRead (entries : List Access) : Type 0 where
  pub front : List Access
  pub last : Access
  pub list : entries ≡ front ++ last ∷ []
  pub read : rank last.kind ≤ 1

orderly-last : (low : ℕ) (xs : List Access) (last : Access) → AreOrderly low (xs ++ last ∷ []) → low ≤ rank last.kind
orderly-last low [] last are = are.0
orderly-last low (x ∷ xs) last are =
    let l : rank x.kind ≤ rank last.kind = orderly-last (rank x.kind) xs last are.1 in
    omega (arith, are.0)

reads-last :
    (low : ℕ) (xs : List Access) (last : Access) → AreOrderly low (xs ++ last ∷ []) → rank last.kind ≤ 1 →
    AreReads (xs ++ last ∷ [])
reads-last low [] last are l = (l, tt)
reads-last low (x ∷ xs) last are l =
    let m : rank x.kind ≤ rank last.kind = orderly-last (rank x.kind) xs last are.1 in
    (omega arith, reads-last (rank x.kind) xs last are.1 l)

-- a list in order that ends in a read has no write
pub both-reads : (entries : List Access) → AreOrderly 0 entries → EndsInRead entries → AreReads entries
both-reads entries are ends =
    subst AreReads (sym ends.list) (reads-last 0 ends.front ends.last (subst (AreOrderly 0) ends.list are) ends.read)

-- the release of a read that no seal holds
released-one :
    (seal : Seal) (entry : Access) → is_in seal entry.at ≡ false → entry.done ≡ true →
    released seal (entry ∷ []) ≡ told entry ∷ []
released-one seal entry outside done =
    ap (λ v. map told (if not v && entry.done then entry ∷ [] else [])) outside
    ∙ ap (λ d. map told (if d then entry ∷ [] else [])) done

pub released-last :
    (seal : Seal) (front : List Access) (last : Access) → is_in seal last.at ≡ false → last.done ≡ true →
    rank last.kind ≤ 1 → EndsInRead (released seal (front ++ last ∷ []))
released-last seal front last outside done read = record {
  front = released seal front;
  last = told last;
  list =
      released-append seal front (last ∷ [])
      ∙ ap (λ more. released seal front ++ more) (released-one seal last outside done);
  read = read;
}

-- ---- what a read leaves

-- what outlasts, of a chip with this bus part
abbrev pub lasts : State → BusPart → Lasting
lasts chip part = lasting (record chip { bus = part })

-- the kept set, memory, fill and levels are the same
pub record LeavesLasting (before after : BusPart) : Type 0 where
  pub kept : after.kept ≡ before.kept
  pub memory : after.memory ≡ before.memory
  pub fill : after.fill ≡ before.fill
  pub first : (((after.units).ports).first).levels ≡ (((before.units).ports).first).levels
  pub second : (((after.units).ports).second).levels ≡ (((before.units).ports).second).levels

pub leaves-lasts : (chip : State) (before after : BusPart) → LeavesLasting before after → lasts chip after ≡ lasts chip before
leaves-lasts chip before after leaves =
    let made : Seal → List ℕ → ℕ → ℕ → ℕ → Lasting = λ kept memory fill first second. record {
      kept = kept;
      memory = hidden kept memory;
      fill = fill;
      keep = chip.keep;
      first_levels = first;
      second_levels = second;
      tick = chip.tick;
    } in
    let levels : BusPart → ℕ = λ part. (((part.units).ports).first).levels in
    let others : BusPart → ℕ = λ part. (((part.units).ports).second).levels in
    ap (λ kept. made kept after.memory after.fill (levels after) (others after)) leaves.kept
    ∙ ap (λ memory. made before.kept memory after.fill (levels after) (others after)) leaves.memory
    ∙ ap (λ fill. made before.kept before.memory fill (levels after) (others after)) leaves.fill
    ∙ ap (λ first. made before.kept before.memory before.fill first (others after)) leaves.first
    ∙ ap (made before.kept before.memory before.fill (levels before)) leaves.second

leaves-same : (part : BusPart) → LeavesLasting part part
leaves-same part = record { kept = refl; memory = refl; fill = refl; first = refl; second = refl }

not_sealing : (encap : Encap) → is_sealing encap encap ≡ false
not_sealing encap = grind (arith, nat_tests)

kept_after-same : (kept : Seal) (encap : Encap) → kept_after kept encap encap ≡ kept
kept_after-same kept encap = unchosen (is_sealing encap encap) _ _ (not_sealing encap)

-- a read leaves the registers of the encapsulation, and the external levels
record TouchesNone (before after : Units) : Type 0 where
  pub encap : after.encap ≡ before.encap
  pub first : ((after.ports).first).levels ≡ ((before.ports).first).levels
  pub second : ((after.ports).second).levels ≡ ((before.ports).second).levels

ports-TouchesNone : (units : Units) (at : ℕ) → TouchesNone units (record units { ports = ports_touched units.ports at })
unfolding ports_touched
ports-TouchesNone units at = record {
  encap = refl;
  first =
      either_holds (λ pair. pair.levels ≡ (units.ports).first.levels) (nat_lt at PBIN) _ (units.ports).first refl refl;
  second =
      either_holds (λ pair. pair.levels ≡ (units.ports).second.levels) (nat_lt at PBIN) (units.ports).second _ refl refl;
}

touched-TouchesNone : (unit : Option UnitName) (units : Units) (at : ℕ) → TouchesNone units (touched_in unit units at)
touched-TouchesNone (Some of.Sys) units at = record { encap = refl; first = refl; second = refl }
touched-TouchesNone (Some of.Timers) units at = record { encap = refl; first = refl; second = refl }
touched-TouchesNone (Some of.Ports) units at = ports-TouchesNone units at
touched-TouchesNone (Some of.Dma) units at = record { encap = refl; first = refl; second = refl }
touched-TouchesNone (Some of.Fram) units at = record { encap = refl; first = refl; second = refl }
touched-TouchesNone (Some of.Mpu) units at = record { encap = refl; first = refl; second = refl }
touched-TouchesNone (Some of.Encap) units at = record { encap = refl; first = refl; second = refl }
touched-TouchesNone None units at = record { encap = refl; first = refl; second = refl }

register-read :
    (who : Agent) (kind : Kind) (at : ℕ) (size : Size) (value : ℕ) (part : BusPart) → rank kind ≤ 1 →
    LeavesLasting part (on_course ToRegister who kind at size value part).part
unfolding periph units_touched
register-read who Write at size value part reads = absurd (omega arith)
register-read who Read at size value part reads =
    let none = touched-TouchesNone (unit_at at) part.units at in
    record {
      kept = ap (kept_after part.kept part.units.encap) none.encap ∙ kept_after-same part.kept part.units.encap;
      memory = refl;
      fill = refl;
      first = none.first;
      second = none.second;
    }
register-read who Fetch at size value part reads =
    let none = touched-TouchesNone (unit_at at) part.units at in
    record {
      kept = ap (kept_after part.kept part.units.encap) none.encap ∙ kept_after-same part.kept part.units.encap;
      memory = refl;
      fill = refl;
      first = none.first;
      second = none.second;
    }

course-read :
    (course : Course) (who : Agent) (kind : Kind) (at : ℕ) (size : Size) (value : ℕ) (part : BusPart) → rank kind ≤ 1 →
    LeavesLasting part (on_course course who kind at size value part).part
course-read LowStart who kind at size value part reads =
    record { kept = refl; memory = refl; fill = refl; first = refl; second = refl }
course-read (Refused place) who kind at size value part reads =
    record { kept = refl; memory = refl; fill = refl; first = refl; second = refl }
course-read BeyondBoot who kind at size value part reads = leaves-same part
course-read ToRegister who kind at size value part reads = register-read who kind at size value part reads
course-read ToMemory who Write at size value part reads = absurd (omega arith)
course-read ToMemory who Read at size value part reads = leaves-same part
course-read ToMemory who Fetch at size value part reads = leaves-same part
course-read (ToNothing read) who kind at size value part reads = leaves-same part

present-read :
    (who : Agent) (kind : Kind) (at : ℕ) (size : Size) (value : ℕ) (part : BusPart) → rank kind ≤ 1 →
    LeavesLasting part (access_present who kind at size value part).part
present-read who kind at size value part reads =
    let course = course_of part.units who kind at size in
    let leaves = course-read course who kind at size value part reads in
    subst (λ (o : Accessed). LeavesLasting part o.part) (sym (access_present-course who kind at size value part))
    (record {
      kept = leaves.kept;
      memory = leaves.memory;
      fill = leaves.fill;
      first = leaves.first;
      second = leaves.second;
    })

pub lasts-public : (chip : State) (part : BusPart) → lasts chip (public_part part) ≡ lasts chip part
lasts-public chip part =
    ap (λ memory. record (lasts chip part) { memory = memory }) (hidden-twice part.kept part.memory)

-- reads that are made again leave what outlasts
pub replay-reads :
    (chip : State) (who : Agent) (part : BusPart) (entries : List Access) → AreReads entries →
    lasts chip (replay who part entries) ≡ lasts chip part
replay-reads chip who part [] reads = refl
replay-reads chip who part (entry ∷ entries) reads =
    let behind : BusPart =
    (access_present (anyone who) entry.kind entry.at entry.size entry.value part).part in
    replay-reads chip who (replayed who part entry) entries reads.1
    ∙ lasts-public chip behind
    ∙ leaves-lasts chip part behind (present-read (anyone who) entry.kind entry.at entry.size entry.value part reads.0)
