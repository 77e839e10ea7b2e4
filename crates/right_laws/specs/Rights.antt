-- By which bit of MPUSAM an access is judged.
use Rattle.std.specs.Prelude.{◌≡◌, ℕ, Bool, true, false, if◌then◌else◌}
use Rattle.chip_words.specs.declared.accesses.Agent.TheVariants.{Cpu, Dma}
use Rattle.chip_words.specs.declared.accesses.Kind.{Kind}
use Rattle.chip_words.specs.declared.accesses.Kind.TheVariants.{Fetch, Read, Write}
use Rattle.chip_words.specs.declared.segments.Right.{Right}
use Rattle.chip_words.specs.declared.segments.Right.TheVariants.{Yes, No}
use Rattle.chip_words.specs.declared.segments.Segment.{Segment}
use Rattle.chip_words.specs.declared.segments.Segment.TheVariants.{One, Two, Three, Info, Sealed}
use Rattle.chip_words.specs.Bits.{has_bit}
use Rattle.chip_words.specs.Map.{is_fram}
use Rattle.chip_words.specs.Mpu.{MPUENA, Mpu, segment_at}
use Rattle.chip_words.specs.Right.{right_of}
use Rattle.chip_words.specs.Units.{Units}
use Rattle.right_laws.specs.Insiders.{IsLeftToSegments}

-- MPUSAM gives a segment the right to a kind of access; the area has no right there
abbrev pub has_right : Segment → Kind → ℕ → Bool
has_right One Read rights = has_bit rights 0
has_right One Write rights = has_bit rights 1
has_right One Fetch rights = has_bit rights 2
has_right Two Read rights = has_bit rights 4
has_right Two Write rights = has_bit rights 5
has_right Two Fetch rights = has_bit rights 6
has_right Three Read rights = has_bit rights 8
has_right Three Write rights = has_bit rights 9
has_right Three Fetch rights = has_bit rights 10
has_right Info Read rights = has_bit rights 12
has_right Info Write rights = has_bit rights 13
has_right Info Fetch rights = has_bit rights 14
has_right Sealed kind rights = false

-- the right by the bit of the address's segment, which is the one that refuses
abbrev pub right_by_bit : Mpu → Kind → ℕ → Right
right_by_bit mpu kind at =
    if has_right (segment_at mpu at) kind mpu.mpusam then Yes else No (segment_at mpu at)

-- with MPUENA set the processor and DMA are judged so in FRAM, where the area leaves the access to the segments
pub record RightsGoByBits : Type 0 where
  pub processor :
      (units : Units) (ia : ℕ) (kind : Kind) (at : ℕ) → has_bit (units.mpu).mpuctl0 MPUENA ≡ true →
      is_fram at ≡ true → IsLeftToSegments units.encap (Cpu ia) kind at →
      right_of units (Cpu ia) kind at ≡ right_by_bit units.mpu kind at
  pub dma :
      (units : Units) (kind : Kind) (at : ℕ) → has_bit (units.mpu).mpuctl0 MPUENA ≡ true → is_fram at ≡ true →
      IsLeftToSegments units.encap Dma kind at → right_of units Dma kind at ≡ right_by_bit units.mpu kind at
