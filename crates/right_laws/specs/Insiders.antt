-- Whom the area of the encapsulation refuses, and whom it leaves to the segments.
use Rattle.std.specs.Prelude.{◌≡◌, ◌≢◌, ◌<◌, ◌≤◌, ◌⊎◌, ℕ, ◌+◌, true, false}
use Rattle.chip_words.specs.declared.accesses.Agent.{Agent}
use Rattle.chip_words.specs.declared.accesses.Agent.TheVariants.{Cpu, Entry, Dma, Debug}
use Rattle.chip_words.specs.declared.accesses.Kind.{Kind}
use Rattle.chip_words.specs.declared.accesses.Kind.TheVariants.{Fetch}
use Rattle.chip_words.specs.declared.segments.Right.TheVariants.{No}
use Rattle.chip_words.specs.declared.segments.Segment.TheVariants.{Sealed}
use Rattle.chip_words.specs.Encap.{Encap, area}
use Rattle.chip_words.specs.Right.{right_of}
use Rattle.chip_words.specs.Seals.{is_in}
use Rattle.chip_words.specs.Units.{Units}
use Rattle.right_laws.specs.Areas.{area_begin}

-- the instruction at an address has the area's right to a kind of access: it fetches where it stands in the area, and
-- reads and writes where it stands there behind the first eight bytes
abbrev pub IsInsider : Encap → ℕ → Kind → Type 0
IsInsider encap ia Fetch = is_in (area encap) ia ≡ true
IsInsider encap ia kind = (is_in (area encap) ia ≡ true) × (area_begin encap + 8 ≤ ia)

-- an access that the area doesn't refuse, since it is off the area or an insider's
abbrev pub IsLeftToSegments : Encap → Agent → Kind → ℕ → Type 0
IsLeftToSegments encap (Cpu ia) kind at = (is_in (area encap) at ≡ false) ⊎ IsInsider encap ia kind
IsLeftToSegments encap who kind at = is_in (area encap) at ≡ false

-- the area refuses an agent every access to its addresses
abbrev pub IsKeptOut : Units → Agent → Type 0
IsKeptOut units who =
    (kind : Kind) (at : ℕ) → is_in (area units.encap) at ≡ true → right_of units who kind at ≡ No Sealed

-- whatever the segments would say, the area refuses these: all code outside it, code in its first eight bytes where it
-- reads or writes, an entry, DMA and the debugger
pub record AreaRefusesOthers : Type 0 where
  pub code : (units : Units) (ia : ℕ) → is_in (area units.encap) ia ≡ false → IsKeptOut units (Cpu ia)
  pub first_bytes :
      (units : Units) (ia : ℕ) (kind : Kind) (at : ℕ) → ia < area_begin units.encap + 8 → kind ≢ Fetch →
      is_in (area units.encap) at ≡ true → right_of units (Cpu ia) kind at ≡ No Sealed
  pub entry : (units : Units) → IsKeptOut units Entry
  pub dma : (units : Units) → IsKeptOut units Dma
  pub debug : (units : Units) → IsKeptOut units Debug

-- the area never refuses the fetch of an instruction's first word, so all code may jump into it
abbrev pub JumpsInAreAllowed : Type 0
JumpsInAreAllowed = (units : Units) (ia : ℕ) → right_of units (Cpu ia) Fetch ia ≢ No Sealed
