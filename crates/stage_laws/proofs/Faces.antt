-- A chip without what is hidden of its bus part. Two chips in public phase look alike exactly where this is equal.
use Rattle.std.proofs.Common.{◌≡◌, ℕ, List, Option, [], Bool, true, false, refl, ap, sym, ◌∙◌, if◌then◌else◌}
use Rattle.chip_words.specs.declared.segments.Segment.{Segment}
use Rattle.chip_words.specs.declared.segments.Segment.TheVariants.{One, Two, Three, Info, Sealed}
use Rattle.chip_words.specs.Bits.{has_bit}
use Rattle.chip_words.specs.BusPart.{BusPart}
use Rattle.chip_words.specs.Causes.{no_causes}
use Rattle.chip_words.specs.Encap.{seal}
use Rattle.chip_words.specs.Public.{IsSettled}
use Rattle.chip_words.specs.Segments.{flag_of}
use Rattle.chip_words.specs.Steps.{ended_at, ended_with, step_ended, violation_ended}
use Rattle.access_laws.proofs.Masks.{hidden-twice}
use Rattle.access_laws.proofs.Seen.{seen}
use Rattle.chip_core.specs.Items.{power_bits}
use Rattle.chip_core.specs.Phase.{is_private}
use Rattle.chip_core.specs.State.{State}
use Rattle.stage_laws.specs.Alike.{LookAlike}
use Rattle.stage_laws.specs.Seen.{Seen, always_public, seen as seen_chip}

-- ---- the end of a step

violation_ended-alike :
    (place : Segment) (a b : BusPart) → seen a ≡ seen b →
    seen (violation_ended place a) ≡ seen (violation_ended place b)
violation_ended-alike place a b same =
    ap (λ part. record (violation_ended place part) { causes = no_causes }) same

ended_at-alike :
    (noted : ℕ) (place : Segment) (a b : BusPart) → seen a ≡ seen b →
    seen (ended_at noted place a) ≡ seen (ended_at noted place b)
ended_at-alike noted place a b same =
    elim (has_bit noted (flag_of place)) as
    (λ test. seen (if test then violation_ended place a else a) ≡ seen (if test then violation_ended place b else b)) [
      | true ↦ violation_ended-alike place a b same
      | false ↦ same
    ]

ended_with-alike :
    (noted : ℕ) (a b : BusPart) → seen a ≡ seen b → seen (ended_with noted a) ≡ seen (ended_with noted b)
unfolding ended_with
ended_with-alike noted a b same =
    ended_at-alike noted Three _ _
    (ended_at-alike noted Two _ _
    (ended_at-alike noted One _ _
    (ended_at-alike noted Info _ _ (ended_at-alike noted Sealed a b same))))

pub step_ended-alike : (a b : BusPart) → seen a ≡ seen b → seen (step_ended a) ≡ seen (step_ended b)
step_ended-alike a b same =
    let quiet : BusPart → BusPart = λ part. record part { noted = 0 } in
    let noted : a.noted ≡ b.noted = ap (λ (part : BusPart). part.noted) same in
    ended_with-alike a.noted (quiet a) (quiet b) (ap quiet same)
    ∙ ap (λ noted. seen (ended_with noted (quiet b))) noted

-- ---- a chip

abbrev pub with_bus : BusPart → State → State
with_bus part chip = record chip { bus = part }

abbrev pub face : State → State
face chip = with_bus (seen chip.bus) chip

pub private-face : (chip : State) → is_private chip ≡ is_private (face chip)
unfolding is_private
private-face chip = refl

-- ---- two chips that look alike

-- what is public in either phase, and the counts
abbrev pub outer : State → State
outer chip = record (face chip) { registers = []; busy = 0 }

pub LookAlike-phase : (a b : State) → LookAlike a b → is_private a ≡ is_private b
LookAlike-phase a b alike = ap (λ (part : Seen). part.private) alike.public

pub LookAlike-power : (a b : State) → LookAlike a b → power_bits a ≡ power_bits b
LookAlike-power a b alike = ap (λ (part : Seen). part.power) alike.public

pub LookAlike-outer : (a b : State) → LookAlike a b → outer a ≡ outer b
LookAlike-outer a b alike =
    let made : State → Option ℕ → ℕ → ℕ → State = λ chip budget writes noted. record chip {
      bus = record (chip.bus) { budget = budget; writes = writes; noted = noted };
    } in
    ap (λ (part : Seen). made part.chip a.bus.budget a.bus.writes a.bus.noted) alike.public
    ∙ ap (λ budget. made (always_public b) budget a.bus.writes a.bus.noted) alike.budget
    ∙ ap (λ writes. made (always_public b) b.bus.budget writes a.bus.noted) alike.writes
    ∙ ap (made (always_public b) b.bus.budget b.bus.writes) alike.noted

-- where the kept set of the one is its seal, so is that of the other: both are public
pub outer-settled : (a b : State) → outer a ≡ outer b → IsSettled a.bus → IsSettled b.bus
outer-settled a b same settled =
    ap (λ (chip : State). chip.bus.kept) (sym same)
    ∙ settled
    ∙ ap (λ (chip : State). seal chip.bus.units.encap) same

-- a part that is hidden in private phase
open_same :
    {A : Type 0} (one other : Bool) (x y hidden : A) → one ≡ false → other ≡ false →
    (if one then hidden else x) ≡ (if other then hidden else y) → x ≡ y
open_same true other x y hidden public public_other same = cc
open_same false true x y hidden public public_other same = cc
open_same false false x y hidden public public_other same = same

pub LookAlike-face : (a b : State) → is_private a ≡ false → LookAlike a b → face a ≡ face b
LookAlike-face a b public alike =
    let public_b : is_private b ≡ false = sym (LookAlike-phase a b alike) ∙ public in
    let registers : a.registers ≡ b.registers =
    open_same (is_private a) (is_private b) a.registers b.registers [] public public_b
    (ap (λ (part : Seen). part.registers) alike.public) in
    let busy : a.busy ≡ b.busy =
    open_same (is_private a) (is_private b) a.busy b.busy 0 public public_b
    (ap (λ (part : Seen). part.busy) alike.public) in
    ap (λ (chip : State). record chip { registers = a.registers; busy = a.busy }) (LookAlike-outer a b alike)
    ∙ ap (λ registers. record (face b) { registers = registers; busy = a.busy }) registers
    ∙ ap (λ busy. record (face b) { busy = busy }) busy

-- ---- chips whose faces are equal, or what is public in either phase, look alike

abbrev with_memory : State → List ℕ → State
with_memory chip memory = record chip { bus = record (chip.bus) { memory = memory } }

-- what is hidden is hidden once
always-outer : (chip : State) → always_public chip ≡ always_public (outer chip)
always-outer chip = ap (with_memory (always_public chip)) (sym (hidden-twice chip.bus.kept chip.bus.memory))

always-face : (chip : State) → always_public chip ≡ always_public (face chip)
always-face chip = ap (with_memory (always_public chip)) (sym (hidden-twice chip.bus.kept chip.bus.memory))

seen-face : (chip : State) → seen_chip chip ≡ seen_chip (face chip)
unfolding is_private
seen-face chip = ap (λ public. record (seen_chip chip) { chip = public }) (always-face chip)

pub face-LookAlike : (a b : State) → face a ≡ face b → LookAlike a b
face-LookAlike a b same = record {
  public = seen-face a ∙ ap seen_chip same ∙ sym (seen-face b);
  budget = ap (λ (chip : State). chip.bus.budget) same;
  writes = ap (λ (chip : State). chip.bus.writes) same;
  noted = ap (λ (chip : State). chip.bus.noted) same;
}

-- in private phase
abbrev closed : State → ℕ → Seen
closed chip power = record { private = true; chip = chip; power = power; registers = []; busy = 0 }

seen-closed : (chip : State) → is_private chip ≡ true → seen_chip chip ≡ closed (always_public chip) (power_bits chip)
seen-closed chip private =
    let made : Bool → Seen = λ private. record {
      private = private;
      chip = always_public chip;
      power = power_bits chip;
      registers = (if private then [] else chip.registers);
      busy = (if private then 0 else chip.busy);
    } in
    ap made private

pub private-LookAlike :
    (a b : State) → is_private a ≡ true → is_private b ≡ true → outer a ≡ outer b → power_bits a ≡ power_bits b →
    LookAlike a b
private-LookAlike a b private private_b same power =
    let chips : always_public a ≡ always_public b = always-outer a ∙ ap always_public same ∙ sym (always-outer b) in
    record {
      public =
          seen-closed a private
          ∙ ap (λ chip. closed chip (power_bits a)) chips
          ∙ ap (closed (always_public b)) power
          ∙ sym (seen-closed b private_b);
      budget = ap (λ (chip : State). chip.bus.budget) same;
      writes = ap (λ (chip : State). chip.bus.writes) same;
      noted = ap (λ (chip : State). chip.bus.noted) same;
    }
