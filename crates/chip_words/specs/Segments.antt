-- The places whose rights are judged, by their numbers in the registers of memory protection (SLAU367, MPU).
use Rattle.std.specs.Prelude.{ℕ, ◌/◌, ◌*◌}
use Rattle.chip_words.specs.declared.segments.Segment.{Segment}
use Rattle.chip_words.specs.declared.segments.Segment.TheVariants.{One, Two, Three, Info, Sealed}
use Rattle.chip_words.specs.Causes.{INFO_VIOLATION, SEALED_VIOLATION, SEGMENT_1_VIOLATION, SEGMENT_2_VIOLATION, SEGMENT_3_VIOLATION}

-- the bit of a place's flag in MPUCTL1
abbrev pub flag_of : Segment → ℕ
flag_of One = 0
flag_of Two = 1
flag_of Three = 2
flag_of Info = 3
flag_of Sealed = 4

-- where the rights of a segment begin in MPUSAM; the area has none there
abbrev pub rights_of : Segment → ℕ
rights_of One = 0
rights_of Two = 4
rights_of Three = 8
rights_of Info = 12
rights_of Sealed = 16

-- the number by which SYSSNIV tells a violation
abbrev pub number_of : Segment → ℕ
number_of Sealed = 0x08
number_of Info = 0x0A
number_of One = 0x0C
number_of Two = 0x0E
number_of Three = 0x10

-- the cause of the reset that a violation asks for
abbrev pub cause_of_violation : Segment → ℕ
cause_of_violation Sealed = SEALED_VIOLATION
cause_of_violation Info = INFO_VIOLATION
cause_of_violation One = SEGMENT_1_VIOLATION
cause_of_violation Two = SEGMENT_2_VIOLATION
cause_of_violation Three = SEGMENT_3_VIOLATION

-- where main FRAM begins; information FRAM lies below
abbrev pub MAIN_FRAM : ℕ
MAIN_FRAM = 0x4400

-- the address of a border, of whose register bits 15:6 count
abbrev pub border : ℕ → ℕ
border register = register / 64 * 64 * 16

-- what a register of a border keeps of a word: bits 15:6
abbrev pub border_bits : ℕ → ℕ
border_bits word = word / 64 * 64
