-- The numbers of the places, written once more, so that the laws don't go by the tables that they are about.
use Rattle.std.specs.Prelude.{ℕ}
use Rattle.chip_words.specs.declared.segments.Segment.{Segment}
use Rattle.chip_words.specs.declared.segments.Segment.TheVariants.{One, Two, Three, Info, Sealed}

-- the bit of a place in MPUCTL1
abbrev pub place_flag : Segment → ℕ
place_flag One = 0
place_flag Two = 1
place_flag Three = 2
place_flag Info = 3
place_flag Sealed = 4

-- the cause of a reset by a place
abbrev pub place_cause : Segment → ℕ
place_cause Sealed = 0x26
place_cause Info = 0x28
place_cause One = 0x2A
place_cause Two = 0x2C
place_cause Three = 0x2E
