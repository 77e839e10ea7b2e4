-- One access to the bus: what it answers, and the bus part of the chip behind it. Its rules come in this order: the
-- address of a word, the number of a write and whether it is absent, the first word of an instruction,
-- the right, and the region.
use Rattle.std.specs.Prelude.{ℕ, ◌+◌, ◌^◌, bit_or, min, ◌==◌, ◌&&◌, not, nat_lt, Bool, true, false, if◌then◌else◌, List, [], ◌∷◌, ◌++◌, Option, Some, None}
use Rattle.chip_words.specs.declared.sizes.Size.{Size}
use Rattle.chip_words.specs.declared.sizes.Size.TheVariants.{Byte}
use Rattle.chip_words.specs.declared.accesses.Kind.{Kind}
use Rattle.chip_words.specs.declared.accesses.Kind.TheVariants.{Fetch, Read, Write}
use Rattle.chip_words.specs.declared.accesses.Agent.{Agent}
use Rattle.chip_words.specs.declared.accesses.Agent.TheVariants.{Cpu, Entry, Dma, Debug, Boot}
use Rattle.chip_words.specs.declared.accesses.Access.{Access}
use Rattle.chip_words.specs.declared.regions.Region.{Region}
use Rattle.chip_words.specs.declared.regions.Region.TheVariants.{Periph, Descriptor, Vacant}
use Rattle.chip_words.specs.Map.{region_at, is_fram, aligned}
use Rattle.chip_words.specs.Memory.{loaded, stored}
use Rattle.chip_words.specs.Causes.{PERIPHERAL_FETCH, with_cause}
use Rattle.chip_words.specs.declared.segments.Segment.{Segment}
use Rattle.chip_words.specs.declared.segments.Right.{Right}
use Rattle.chip_words.specs.declared.segments.Right.TheVariants.{Yes, No}
use Rattle.chip_words.specs.Segments.{flag_of}
use Rattle.chip_words.specs.Encap.{kept_after}
use Rattle.chip_words.specs.Right.{right_of}
use Rattle.chip_words.specs.Sys.{sys_requested}
use Rattle.chip_words.specs.Units.{Reply, Units, periph}
use Rattle.chip_words.specs.BusPart.{BusPart}

-- what an access answers, and the bus part behind it
pub record Accessed : Type 0 where
  pub answer : ℕ
  pub part : BusPart

-- what is read where nothing answers
abbrev pub blank : Size → ℕ
blank Byte = 0xFF
blank size = 0x3FFF

-- what is read of the descriptor
abbrev pub ones : Size → ℕ
ones Byte = 0xFF
ones size = 0xFFFF

-- a reset was asked for, if there is a cause
abbrev pub sys_asked : Option ℕ → Units → Units
sys_asked cause units = record units { sys = sys_requested cause units.sys }

-- and by an access of the step
abbrev pub requested : Option ℕ → BusPart → BusPart
requested cause part = record part {
  units = sys_asked cause part.units;
  causes = with_cause cause part.causes;
}

-- the peripherals' reply; a write that sets the seal makes it the addresses that stay secret
abbrev pub replied : Reply → BusPart → Accessed
replied reply part = record {
  answer = reply.value;
  part = requested reply.cause (record part {
    units = reply.units;
    kept = kept_after part.kept (part.units).encap (reply.units).encap;
  });
}

-- an access to a register
abbrev pub access_register : Kind → ℕ → Size → ℕ → BusPart → Accessed
access_register kind at size value part = replied (periph part.units kind at size value) part

-- an access to bytes of memory
abbrev pub access_memory : Kind → ℕ → Size → ℕ → BusPart → Accessed
access_memory Write at size value part =
    record { answer = value; part = record part { memory = stored part.memory at size value } }
access_memory kind at size value part = record { answer = loaded part.memory at size; part = part }

-- what an access answers that changes nothing: a read what is to be read, and a write the value that it was given
abbrev pub unchanged_answer : Kind → ℕ → ℕ → ℕ
unchanged_answer Write read value = value
unchanged_answer kind read value = read

abbrev pub access_nothing : Kind → ℕ → ℕ → BusPart → Accessed
access_nothing kind read value part = record { answer = unchanged_answer kind read value; part = part }

-- an access that has its right, by the region of its address
abbrev pub access_region : Region → Kind → ℕ → Size → ℕ → BusPart → Accessed
access_region Periph kind at size value part = access_register kind at size value part
access_region Descriptor kind at size value part = access_nothing kind (ones size) value part
access_region Vacant kind at size value part = access_nothing kind (blank size) value part
access_region memory kind at size value part = access_memory kind at size value part

-- a boot reads FRAM alone
abbrev pub is_beyond_boot : Agent → Kind → ℕ → Bool
is_beyond_boot Boot Read at = not (is_fram at)
is_beyond_boot who kind at = false

-- the agents whose violations are noted
abbrev pub is_watched : Agent → Bool
is_watched (Cpu ia) = true
is_watched Entry = true
is_watched Dma = true
is_watched who = false

-- a place refuses an access of an agent
abbrev pub violated : Agent → Segment → BusPart → BusPart
violated who place part =
    record part { noted = (if is_watched who then bit_or part.noted (2 ^ flag_of place) else part.noted) }

-- an access without its right changes nothing, but that its place is noted
abbrev pub access_refused : Agent → Segment → Kind → Size → ℕ → BusPart → Accessed
access_refused who place kind size value part = access_nothing kind (blank size) value (violated who place part)

-- an access by its right
abbrev pub access_by_right : Right → Agent → Kind → ℕ → Size → ℕ → BusPart → Accessed
access_by_right (No place) who kind at size value part = access_refused who place kind size value part
access_by_right Yes who kind at size value part =
    if is_beyond_boot who kind at then record { answer = blank size; part = part }
    else access_region (region_at at) kind at size value part

-- the processor takes the first word of its instruction from the peripherals
abbrev pub is_low_start : Agent → Kind → ℕ → Bool
is_low_start (Cpu ia) Fetch at = at == ia && nat_lt at 0x1000
is_low_start who kind at = false

-- which asks for a reset, and is taken as a word that jumps to itself
abbrev pub access_allowed : Agent → Kind → ℕ → Size → ℕ → BusPart → Accessed
access_allowed who kind at size value part =
    if is_low_start who kind at then record { answer = blank size; part = requested (Some PERIPHERAL_FETCH) part }
    else access_by_right (right_of part.units who kind at) who kind at size value part

-- an access as the step's list has it; that of the debugger is in no list
abbrev pub as_listed : Agent → Kind → ℕ → Size → ℕ → Bool → List Access
as_listed Debug kind at size value done = []
as_listed who kind at size value done =
    record { kind = kind; at = at; size = size; value = value; done = done } ∷ []

abbrev pub with_listed : Agent → Kind → ℕ → Size → ℕ → Bool → BusPart → BusPart
with_listed who kind at size value done part =
    record part { accesses = part.accesses ++ as_listed who kind at size value done }

abbrev pub listed : Agent → Kind → ℕ → Size → Bool → Accessed → Accessed
listed who kind at size done accessed = record {
  answer = accessed.answer;
  part = with_listed who kind at size accessed.answer done accessed.part;
}

-- an access that is present
abbrev pub access_present : Agent → Kind → ℕ → Size → ℕ → BusPart → Accessed
access_present who kind at size value part = listed who kind at size true (access_allowed who kind at size value part)

-- an absent write is listed and does nothing else
abbrev pub write_absent : Agent → ℕ → Size → ℕ → BusPart → Accessed
write_absent who at size value part = listed who Write at size false (record { answer = value; part = part })

-- the number of the next write of a tick; the count stands still at the end of its type
abbrev pub next_number : ℕ → ℕ
next_number writes = min (writes + 1) 0xFFFFFFFF

abbrev pub numbered : BusPart → BusPart
numbered part = record part { writes = next_number part.writes }

-- a tick whose power is cut has only so many writes
abbrev pub is_over : Option ℕ → ℕ → Bool
is_over (Some budget) number = nat_lt budget number
is_over None number = false

-- a write by its number
abbrev pub write_by_number : Agent → ℕ → Size → ℕ → BusPart → Accessed
write_by_number who at size value part =
    if is_over part.budget part.writes then write_absent who at size value part
    else access_present who Write at size value part

unfoldable pub access : Agent → Kind → ℕ → Size → ℕ → BusPart → Accessed
access who Write at size value part = write_by_number who (aligned size at) size value (numbered part)
access who kind at size value part = access_present who kind (aligned size at) size value part
