-- What every access keeps of the memory protection unit, of the encapsulation, and of the addresses that stay secret.
use Rattle.std.proofs.Common.{◌≡◌, ◌≢◌, ℕ, ◌==◌, ◌&&◌, not, Bool, true, false, Option, Some, None, arith, refl, ap, sym, subst, ◌∙◌, if◌then◌else◌, bit_and}
use Rattle.std.proofs.lemmas.Bool.Decides.{nat_tests}
use Rattle.chip_words.specs.declared.sizes.Size.{Size}
use Rattle.chip_words.specs.declared.regions.Region.{Region}
use Rattle.chip_words.specs.declared.regions.Region.TheVariants.{Periph, Info, Descriptor, Sram, Main, Vacant}
use Rattle.chip_words.specs.declared.accesses.Agent.{Agent}
use Rattle.chip_words.specs.declared.accesses.Kind.{Kind}
use Rattle.chip_words.specs.declared.accesses.Kind.TheVariants.{Fetch, Read, Write}
use Rattle.chip_words.specs.declared.seals.Seal.{Seal}
use Rattle.chip_words.specs.declared.segments.Right.{Right}
use Rattle.chip_words.specs.declared.segments.Right.TheVariants.{Yes, No}
use Rattle.chip_words.specs.declared.unit_names.UnitName.{UnitName}
use Rattle.chip_words.specs.declared.unit_names.UnitName.TheVariants as of
use Rattle.chip_words.specs.Access.{access, access_allowed, access_by_right, access_present, access_region, blank, is_beyond_boot, is_low_start, is_over, numbered, requested, write_absent}
use Rattle.chip_words.specs.Addresses.{MPUCTL1, SYSSNIV, register_address, unit_at}
use Rattle.chip_words.specs.Bits.{with_part}
use Rattle.chip_words.specs.BusPart.{BusPart}
use Rattle.chip_words.specs.Causes.{PERIPHERAL_FETCH}
use Rattle.chip_words.specs.Encap.{Encap, encap_written, is_enabled, is_locked, kept_after, seal}
use Rattle.chip_words.specs.Map.{aligned, region_at}
use Rattle.chip_words.specs.Mpu.{Mpu, first_violation, mpu_touched, mpu_written, without_violation}
use Rattle.chip_words.specs.Right.{right_of}
use Rattle.chip_words.specs.Units.{Units, periph, touched_in, units_touched, units_written, written_in}
use Rattle.right_laws.specs.Ends.{AccessesKeepFlags}
use Rattle.right_laws.specs.Locks.{AccessesKeepLocked, KeepsRegisters, Touched, Written}
use Rattle.right_laws.proofs.Locking.{event_keeps, same_registers}

-- a fact of the two units and of the addresses that stay secret
abbrev pub Fact : Type 1
Fact = Mpu → Encap → Seal → Type 0

-- it holds of them as they are, and behind each way in which an access at an address changes them
pub record Covers (Q : Fact) (at : ℕ) (size : Size) (value : ℕ) (mpu : Mpu) (encap : Encap) (kept : Seal) : Type 0 where
  pub same : Q mpu encap kept
  pub read : Q (mpu_touched mpu at) encap kept
  pub write : Q (mpu_written mpu at size value) encap kept
  pub encap_write :
      Q mpu (encap_written encap mpu.is_open at size value)
      (kept_after kept encap (encap_written encap mpu.is_open at size value))

-- so of those of a bus part
abbrev pub CoversIn : Fact → ℕ → Size → ℕ → BusPart → Type 0
CoversIn Q at size value part = Covers Q at size value (part.units).mpu (part.units).encap part.kept

abbrev pub Within : Fact → BusPart → Type 0
Within Q part = Q (part.units).mpu (part.units).encap part.kept

-- an encapsulation that stays as it is sets nothing
not_sealing : (locked enabled : Bool) → (not locked && locked && enabled) ≡ false
not_sealing true enabled = refl
not_sealing false enabled = refl

pub same_kept : (kept : Seal) (encap : Encap) → kept_after kept encap encap ≡ kept
same_kept kept encap =
    ap (λ b. if b then seal encap else kept) (not_sealing (is_locked encap) (is_enabled encap))

-- it holds of the units behind an access that are a unit's reply
abbrev Behind : Fact → Seal → Encap → Units → Type 0
Behind Q kept before after = Q after.mpu after.encap (kept_after kept before after.encap)

with_kept :
    (Q : Fact) (kept : Seal) (mpu : Mpu) (encap : Encap) → Q mpu encap kept →
    Q mpu encap (kept_after kept encap encap)
with_kept Q kept mpu encap is = subst (Q mpu encap) (sym (same_kept kept encap)) is

touched_covered :
    (Q : Fact) (at : ℕ) (size : Size) (value : ℕ) (kept : Seal) (units : Units) →
    Covers Q at size value units.mpu units.encap kept → (unit : Option UnitName) →
    Behind Q kept units.encap (touched_in unit units at)
touched_covered Q at size value kept units covers (Some of.Sys) = with_kept Q kept units.mpu units.encap covers.same
touched_covered Q at size value kept units covers (Some of.Timers) = with_kept Q kept units.mpu units.encap covers.same
touched_covered Q at size value kept units covers (Some of.Ports) = with_kept Q kept units.mpu units.encap covers.same
touched_covered Q at size value kept units covers (Some of.Dma) = with_kept Q kept units.mpu units.encap covers.same
touched_covered Q at size value kept units covers (Some of.Fram) = with_kept Q kept units.mpu units.encap covers.same
touched_covered Q at size value kept units covers (Some of.Mpu) =
    with_kept Q kept (mpu_touched units.mpu at) units.encap covers.read
touched_covered Q at size value kept units covers (Some of.Encap) = with_kept Q kept units.mpu units.encap covers.same
touched_covered Q at size value kept units covers None = with_kept Q kept units.mpu units.encap covers.same

written_covered :
    (Q : Fact) (at : ℕ) (size : Size) (value : ℕ) (kept : Seal) (units : Units) →
    Covers Q at size value units.mpu units.encap kept → (unit : Option UnitName) →
    Behind Q kept units.encap (written_in unit units at size value)
written_covered Q at size value kept units covers (Some of.Sys) = with_kept Q kept units.mpu units.encap covers.same
written_covered Q at size value kept units covers (Some of.Timers) = with_kept Q kept units.mpu units.encap covers.same
written_covered Q at size value kept units covers (Some of.Ports) = with_kept Q kept units.mpu units.encap covers.same
written_covered Q at size value kept units covers (Some of.Dma) = with_kept Q kept units.mpu units.encap covers.same
written_covered Q at size value kept units covers (Some of.Fram) = with_kept Q kept units.mpu units.encap covers.same
written_covered Q at size value kept units covers (Some of.Mpu) =
    with_kept Q kept (mpu_written units.mpu at size value) units.encap covers.write
written_covered Q at size value kept units covers (Some of.Encap) = covers.encap_write
written_covered Q at size value kept units covers None = with_kept Q kept units.mpu units.encap covers.same

periph_covered :
    (Q : Fact) (kind : Kind) (at : ℕ) (size : Size) (value : ℕ) (kept : Seal) (units : Units) →
    Covers Q at size value units.mpu units.encap kept →
    Behind Q kept units.encap (periph units kind at size value).units
unfolding periph units_touched units_written
periph_covered Q Fetch at size value kept units covers = touched_covered Q at size value kept units covers (unit_at at)
periph_covered Q Read at size value kept units covers = touched_covered Q at size value kept units covers (unit_at at)
periph_covered Q Write at size value kept units covers = written_covered Q at size value kept units covers (unit_at at)

region_covered :
    (Q : Fact) (region : Region) (kind : Kind) (at : ℕ) (size : Size) (value : ℕ) (part : BusPart) →
    CoversIn Q at size value part → Within Q (access_region region kind at size value part).part
region_covered Q Periph kind at size value part covers =
    periph_covered Q kind at size value part.kept part.units covers
region_covered Q Descriptor kind at size value part covers = covers.same
region_covered Q Vacant kind at size value part covers = covers.same
region_covered Q Info Fetch at size value part covers = covers.same
region_covered Q Info Read at size value part covers = covers.same
region_covered Q Info Write at size value part covers = covers.same
region_covered Q Sram Fetch at size value part covers = covers.same
region_covered Q Sram Read at size value part covers = covers.same
region_covered Q Sram Write at size value part covers = covers.same
region_covered Q Main Fetch at size value part covers = covers.same
region_covered Q Main Read at size value part covers = covers.same
region_covered Q Main Write at size value part covers = covers.same

right_covered :
    (Q : Fact) (right : Right) (who : Agent) (kind : Kind) (at : ℕ) (size : Size) (value : ℕ) (part : BusPart) →
    CoversIn Q at size value part → Within Q (access_by_right right who kind at size value part).part
right_covered Q (No place) who kind at size value part covers = covers.same
right_covered Q Yes who kind at size value part covers =
    elim (is_beyond_boot who kind at) as
    (λ b. Within Q
    (if b then record { answer = blank size; part = part }
    else access_region (region_at at) kind at size value part).part) [
      | true ↦ covers.same
      | false ↦ region_covered Q (region_at at) kind at size value part covers
    ]

allowed_covered :
    (Q : Fact) (who : Agent) (kind : Kind) (at : ℕ) (size : Size) (value : ℕ) (part : BusPart) →
    CoversIn Q at size value part → Within Q (access_allowed who kind at size value part).part
allowed_covered Q who kind at size value part covers =
    elim (is_low_start who kind at) as
    (λ b. Within Q
    (if b then record { answer = blank size; part = requested (Some PERIPHERAL_FETCH) part }
    else access_by_right (right_of part.units who kind at) who kind at size value part).part) [
      | true ↦ covers.same
      | false ↦ right_covered Q (right_of part.units who kind at) who kind at size value part covers
    ]

pub access_covered :
    (Q : Fact) (who : Agent) (kind : Kind) (at : ℕ) (size : Size) (value : ℕ) (part : BusPart) →
    CoversIn Q (aligned size at) size value part → Within Q (access who kind at size value part).part
unfolding access
access_covered Q who Fetch at size value part covers =
    allowed_covered Q who Fetch (aligned size at) size value part covers
access_covered Q who Read at size value part covers =
    allowed_covered Q who Read (aligned size at) size value part covers
access_covered Q who Write at size value part covers =
    let next = numbered part in
    elim (is_over next.budget next.writes) as
    (λ b. Within Q
    (if b then write_absent who (aligned size at) size value next
    else access_present who Write (aligned size at) size value next).part) [
      | true ↦ covers.same
      | false ↦ allowed_covered Q who Write (aligned size at) size value next covers
    ]

-- ---- flags

touched_flags : (at : ℕ) (mpu : Mpu) → register_address at ≢ SYSSNIV → (mpu_touched mpu at).mpuctl1 ≡ mpu.mpuctl1
unfolding mpu_touched
touched_flags at mpu other =
    let off : (register_address at == SYSSNIV) ≡ false = grind (arith, nat_tests) in
    ap (λ b. if b then without_violation (first_violation mpu.mpuctl1) mpu.mpuctl1 else mpu.mpuctl1) off

written_flags :
    (at : ℕ) (size : Size) (value : ℕ) (mpu : Mpu) → register_address at ≢ MPUCTL1 → register_address at ≢ SYSSNIV →
    (mpu_written mpu at size value).mpuctl1 ≡ mpu.mpuctl1
unfolding mpu_written
written_flags at size value mpu apart other =
    let off : (register_address at == MPUCTL1) ≡ false = grind (arith, nat_tests) in
    ap
    (λ b. if b && mpu.is_open then bit_and mpu.mpuctl1 (with_part size at mpu.mpuctl1 value)
    else (mpu_touched mpu at).mpuctl1)
    off
    ∙ touched_flags at mpu other

pub accesses_keep_flags : AccessesKeepFlags
accesses_keep_flags who kind at size value part apart other =
    let old = (part.units).mpu in
    access_covered (λ mpu encap kept. mpu.mpuctl1 ≡ old.mpuctl1) who kind at size value part (record {
      same = refl;
      read = touched_flags (aligned size at) old other;
      write = written_flags (aligned size at) size value old apart other;
      encap_write = refl;
    })

-- ---- MPULOCK

pub accesses_keep_locked : AccessesKeepLocked
accesses_keep_locked who kind at size value part is locked =
    let old = (part.units).mpu in
    access_covered (λ mpu encap kept. KeepsRegisters old mpu) who kind at size value part (record {
      same = same_registers old;
      read = event_keeps (Touched (aligned size at)) old is locked;
      write = event_keeps (Written (aligned size at) size value) old is locked;
      encap_write = same_registers old;
    })
