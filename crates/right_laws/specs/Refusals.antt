-- What a refused access changes.
use Rattle.std.specs.Prelude.{◌≡◌, ℕ, ◌+◌, ◌==◌, ◌||◌, ◌++◌, min, true, false}
use Rattle.chip_words.specs.declared.sizes.Size.{Size}
use Rattle.chip_words.specs.declared.sizes.Size.TheVariants.{Byte}
use Rattle.chip_words.specs.declared.accesses.Agent.{Agent}
use Rattle.chip_words.specs.declared.accesses.Agent.TheVariants.{Debug, Boot}
use Rattle.chip_words.specs.declared.accesses.Kind.{Kind}
use Rattle.chip_words.specs.declared.accesses.Kind.TheVariants.{Write}
use Rattle.chip_words.specs.declared.segments.Right.TheVariants.{No}
use Rattle.chip_words.specs.declared.segments.Segment.{Segment}
use Rattle.chip_words.specs.Access.{Accessed, access, access_by_right, as_listed, is_over}
use Rattle.chip_words.specs.Bits.{has_bit}
use Rattle.chip_words.specs.BusPart.{BusPart}
use Rattle.chip_words.specs.Map.{aligned}
use Rattle.chip_words.specs.Right.{right_of}
use Rattle.right_laws.specs.Numbers.{place_flag}

-- the number of writes behind an access
abbrev pub writes_behind : Kind → ℕ → ℕ
writes_behind Write writes = min (writes + 1) 0xFFFFFFFF
writes_behind kind writes = writes

-- no cut of power makes the access absent
abbrev pub IsPresent : Kind → BusPart → Type 0
IsPresent kind part = is_over part.budget (writes_behind kind part.writes) ≡ false

-- what a refused access answers; a write the value that it was given
abbrev pub refused_answer : Kind → Size → ℕ → ℕ
refused_answer Write size value = value
refused_answer kind Byte value = 0xFF
refused_answer kind size value = 0x3FFF

-- the bit of the place's flag is set, and no other bit changes
abbrev pub AddsFlag : Segment → ℕ → ℕ → Type 0
AddsFlag place before after = (k : ℕ) → has_bit after k ≡ (has_bit before k || k == place_flag place)

-- the places noted before and behind a refusal: the debugger and the boot leave them
abbrev pub NotesPlace : Agent → Segment → ℕ → ℕ → Type 0
NotesPlace Debug place before after = after ≡ before
NotesPlace Boot place before after = after ≡ before
NotesPlace who place before after = AddsFlag place before after

-- a refused access changes nothing but the number of writes, the places noted, and the list of accesses
pub record ChangesLittle
    (who : Agent) (kind : Kind) (at : ℕ) (size : Size) (value : ℕ) (place : Segment)
    (before : BusPart) (after : Accessed) : Type 0 where
  pub answer : after.answer ≡ refused_answer kind size value
  pub rest :
      after.part
      ≡ record before {
        writes = (after.part).writes;
        noted = (after.part).noted;
        accesses = (after.part).accesses;
      }
  pub writes : (after.part).writes ≡ writes_behind kind before.writes
  pub noted : NotesPlace who place before.noted (after.part).noted
  pub list :
      (after.part).accesses
      ≡ before.accesses ++ as_listed who kind (aligned size at) size (refused_answer kind size value) true

-- so each access that a place refuses and that is present
abbrev pub RefusedChangeLittle : Type 0
RefusedChangeLittle =
    (who : Agent) (kind : Kind) (at : ℕ) (size : Size) (value : ℕ) (part : BusPart) (place : Segment) →
    right_of part.units who kind (aligned size at) ≡ No place → IsPresent kind part →
    ChangesLittle who kind at size value place part (access who kind at size value part)

-- a refusal notes at most its place, and changes nothing else
pub record NotesAlone
    (who : Agent) (kind : Kind) (size : Size) (value : ℕ) (place : Segment)
    (before : BusPart) (after : Accessed) : Type 0 where
  pub answer : after.answer ≡ refused_answer kind size value
  pub rest : after.part ≡ record before { noted = (after.part).noted }
  pub noted : NotesPlace who place before.noted (after.part).noted

-- so for every agent, also the boot, which no place refuses
abbrev pub RefusalsNoteAlone : Type 0
RefusalsNoteAlone =
    (who : Agent) (kind : Kind) (at : ℕ) (size : Size) (value : ℕ) (part : BusPart) (place : Segment) →
    NotesAlone who kind size value place part (access_by_right (No place) who kind at size value part)
