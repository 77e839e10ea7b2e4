-- What the answers of the machine mean to a shelf and to a sink, and which of them count as faults.
use Rattle.std.specs.Prelude.{ℕ, if◌then◌else◌, ◌==◌, ◌&&◌, nat_lt, List, Option, Result, Ok, Err, option_and_then}
use Rattle.std.specs.List.{slice_get}
use Rattle.std.specs.declared.io.ErrorKind.{ErrorKind}
use Rattle.std.specs.declared.io.ErrorKind.TheVariants.{NotFound, OutOfMemory}
use Rattle.bench_io.specs.Faults.{raised}
use Rattle.bench_io.specs.declared.shelves.Found.{Found}
use Rattle.bench_io.specs.declared.shelves.Found.TheVariants.{Absent, NoMemory, Failed as FindFailed}
use Rattle.bench_io.specs.declared.shelves.Got.{Got}
use Rattle.bench_io.specs.declared.shelves.Got.TheVariants.{Count as ReadCount, Failed as ReadFailed}
use Rattle.bench_io.specs.declared.sinks.Took.{Took}
use Rattle.bench_io.specs.declared.sinks.Took.TheVariants.{Count as WriteCount, Failed as WriteFailed}

-- what a read answered
abbrev pub got_of : {E : Type 0} → Result ℕ E → Got
got_of (Ok n) = ReadCount n
got_of (Err error) = ReadFailed

-- the count of faults after it
abbrev pub faults_after_read : Got → ℕ → ℕ
faults_after_read (ReadCount n) faults = faults
faults_after_read ReadFailed faults = raised faults

-- what a write answered
abbrev pub took_of : {E : Type 0} → Result ℕ E → Took
took_of (Ok n) = WriteCount n
took_of (Err error) = WriteFailed

-- the count of faults after it, where the piece had so many bytes
abbrev pub faults_after_write : ℕ → Took → ℕ → ℕ
faults_after_write size (WriteCount n) faults =
    if nat_lt 0 size && (n == 0) then raised faults else faults
faults_after_write size WriteFailed faults = raised faults

-- what an error of opening a file means: every one but two is a fault
abbrev pub found_of : ErrorKind → Found
found_of NotFound = Absent
found_of OutOfMemory = NoMemory
found_of kind = FindFailed

-- the count of faults after it
abbrev pub faults_after_find : Found → ℕ → ℕ
faults_after_find FindFailed faults = raised faults
faults_after_find found faults = faults

-- what the file at a place has left to read, where it tells
abbrev pub left_at : {F : Type 0} → (F → Option (List ℕ)) → List F → ℕ → Option (List ℕ)
left_at remaining files place = option_and_then remaining (slice_get files place)
