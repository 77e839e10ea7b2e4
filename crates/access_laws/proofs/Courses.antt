-- Which course an access takes. It goes by the registers, the agent and the address, and by neither memory nor the
-- value: so a fact about accesses has a case for each course, and no test is left in it.
use Rattle.std.proofs.Common.{◌≡◌, ℕ, Bool, true, false, Some, refl, ap, if◌then◌else◌}
use Rattle.chip_words.specs.declared.sizes.Size.{Size}
use Rattle.chip_words.specs.declared.accesses.Agent.{Agent}
use Rattle.chip_words.specs.declared.accesses.Kind.{Kind}
use Rattle.chip_words.specs.declared.accesses.Kind.TheVariants.{Fetch, Read, Write}
use Rattle.chip_words.specs.declared.regions.Region.{Region}
use Rattle.chip_words.specs.declared.regions.Region.TheVariants.{Periph, Info, Descriptor, Sram, Main, Vacant}
use Rattle.chip_words.specs.declared.segments.Right.{Right}
use Rattle.chip_words.specs.declared.segments.Right.TheVariants.{Yes, No}
use Rattle.chip_words.specs.declared.segments.Segment.{Segment}
use Rattle.chip_words.specs.Access.{Accessed, access, access_allowed, access_by_right, access_memory, access_nothing, access_present, access_refused, access_region, access_register, blank, is_beyond_boot, is_low_start, listed, numbered, ones, requested, write_absent}
use Rattle.chip_words.specs.BusPart.{BusPart}
use Rattle.chip_words.specs.Causes.{PERIPHERAL_FETCH}
use Rattle.chip_words.specs.Map.{aligned, region_at}
use Rattle.chip_words.specs.Right.{right_of}
use Rattle.chip_words.specs.Units.{Units}
use Rattle.access_laws.specs.Locality.{is_absent}

pub chosen : {A : Type 0} (test : Bool) (x y : A) → test ≡ true → (if test then x else y) ≡ x
chosen true x y e = refl
chosen false x y e = cc

pub unchosen : {A : Type 0} (test : Bool) (x y : A) → test ≡ false → (if test then x else y) ≡ y
unchosen true x y e = cc
unchosen false x y e = refl

-- ---- an access that is present

pub data Course : Type 0 where
  -- an instruction begins in the peripherals
  LowStart : Course
  -- a place refuses it
  Refused : Segment → Course
  -- the boot reads off FRAM
  BeyondBoot : Course
  -- it is to a register, to bytes of memory, or to nothing, where so much is read
  ToRegister : Course
  ToMemory : Course
  ToNothing : ℕ → Course

abbrev pub region_course : Region → Size → Course
region_course Periph size = ToRegister
region_course Descriptor size = ToNothing (ones size)
region_course Vacant size = ToNothing (blank size)
region_course memory size = ToMemory

abbrev pub right_course : Right → Agent → Kind → ℕ → Size → Course
right_course (No place) who kind at size = Refused place
right_course Yes who kind at size =
    if is_beyond_boot who kind at then BeyondBoot else region_course (region_at at) size

abbrev pub course_of : Units → Agent → Kind → ℕ → Size → Course
course_of units who kind at size =
    if is_low_start who kind at then LowStart else right_course (right_of units who kind at) who kind at size

-- what an access comes to on its course
abbrev pub on_course : Course → Agent → Kind → ℕ → Size → ℕ → BusPart → Accessed
on_course LowStart who kind at size value part =
    record { answer = blank size; part = requested (Some PERIPHERAL_FETCH) part }
on_course (Refused place) who kind at size value part = access_refused who place kind size value part
on_course BeyondBoot who kind at size value part = record { answer = blank size; part = part }
on_course ToRegister who kind at size value part = access_register kind at size value part
on_course ToMemory who kind at size value part = access_memory kind at size value part
on_course (ToNothing read) who kind at size value part = access_nothing kind read value part

access_region-course :
    (region : Region) (who : Agent) (kind : Kind) (at : ℕ) (size : Size) (value : ℕ) (part : BusPart) →
    access_region region kind at size value part ≡ on_course (region_course region size) who kind at size value part
access_region-course Periph who kind at size value part = refl
access_region-course Info who kind at size value part = refl
access_region-course Descriptor who kind at size value part = refl
access_region-course Sram who kind at size value part = refl
access_region-course Main who kind at size value part = refl
access_region-course Vacant who kind at size value part = refl

access_by_right-course :
    (right : Right) (who : Agent) (kind : Kind) (at : ℕ) (size : Size) (value : ℕ) (part : BusPart) →
    access_by_right right who kind at size value part
    ≡ on_course (right_course right who kind at size) who kind at size value part
access_by_right-course (No place) who kind at size value part = refl
access_by_right-course Yes who kind at size value part =
    elim (is_beyond_boot who kind at) as
    (λ b. (if b then record { answer = blank size; part = part }
    else access_region (region_at at) kind at size value part)
    ≡ on_course (if b then BeyondBoot else region_course (region_at at) size) who kind at size value part) [
      | true ↦ refl
      | false ↦ access_region-course (region_at at) who kind at size value part
    ]

access_allowed-course :
    (who : Agent) (kind : Kind) (at : ℕ) (size : Size) (value : ℕ) (part : BusPart) →
    access_allowed who kind at size value part
    ≡ on_course (course_of part.units who kind at size) who kind at size value part
access_allowed-course who kind at size value part =
    let right = right_of part.units who kind at in
    elim (is_low_start who kind at) as
    (λ b. (if b then record { answer = blank size; part = requested (Some PERIPHERAL_FETCH) part }
    else access_by_right right who kind at size value part)
    ≡ on_course (if b then LowStart else right_course right who kind at size) who kind at size value part) [
      | true ↦ refl
      | false ↦ access_by_right-course right who kind at size value part
    ]

-- what a present access comes to
abbrev pub present_on : Course → Agent → Kind → ℕ → Size → ℕ → BusPart → Accessed
present_on course who kind at size value part =
    listed who kind at size true (on_course course who kind at size value part)

pub access_present-course :
    (who : Agent) (kind : Kind) (at : ℕ) (size : Size) (value : ℕ) (part : BusPart) →
    access_present who kind at size value part
    ≡ present_on (course_of part.units who kind at size) who kind at size value part
access_present-course who kind at size value part =
    ap (listed who kind at size true) (access_allowed-course who kind at size value part)

-- ---- every access is absent or present

-- an access takes its number, if it is a write
abbrev pub counted : Kind → BusPart → BusPart
counted Write part = numbered part
counted kind part = part

pub access-absent :
    (who : Agent) (kind : Kind) (at : ℕ) (size : Size) (value : ℕ) (part : BusPart) → is_absent kind part ≡ true →
    access who kind at size value part ≡ write_absent who (aligned size at) size value (numbered part)
unfolding access
access-absent who Write at size value part absent = chosen (is_absent Write part) _ _ absent
access-absent who Read at size value part absent = cc
access-absent who Fetch at size value part absent = cc

pub access-present :
    (who : Agent) (kind : Kind) (at : ℕ) (size : Size) (value : ℕ) (part : BusPart) → is_absent kind part ≡ false →
    access who kind at size value part ≡ access_present who kind (aligned size at) size value (counted kind part)
unfolding access
access-present who Write at size value part present = unchosen (is_absent Write part) _ _ present
access-present who Read at size value part present = refl
access-present who Fetch at size value part present = refl
