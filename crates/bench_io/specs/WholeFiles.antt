-- Reading a file whole: what the shelf shows behind it, and why it wasn't read.
use Rattle.std.specs.Prelude.{◌≡◌, ℕ, ◌+◌, ◌<◌, ◌≤◌, List, [], ◌∷◌, ◌++◌, length, Option, Some, None, ◌⊎◌, IfSome, IsSomeAnd}
use Rattle.bench_io.specs.Faults.{Rose}
use Rattle.bench_io.specs.Shelves.{Files, Find}
use Rattle.bench_io.specs.declared.whole_file.FileRefused.{FileRefused}
use Rattle.bench_io.specs.declared.whole_file.FileRefused.TheVariants.{Absent, ReadFault, TooLong, NoMemory}

-- what a shelf shows: its files, where it tells them, its finds, and how many of its calls failed
pub record ShelfView : Type 0 where
  pub files : Option Files
  pub finds : List Find
  pub faults : ℕ

abbrev pub shelf_view : Option Files → List Find → ℕ → ShelfView
shelf_view files finds faults = record { files = files; finds = finds; faults = faults }

-- one find was added behind the others, of this name, and so many bytes were read under it
pub record AddsFind (before after : ShelfView) (name : List ℕ) (place : ℕ) : Type 0 where
  pub id : ℕ
  pub last : after.finds ≡ before.finds ++ record { id = id; name = name; place = place } ∷ []

-- A file was read to its end: its find stands there. It is within its limit.
pub record IsRead (before after : ShelfView) (name : List ℕ) (limit : ℕ) (bytes : List ℕ) : Type 0 where
  pub find : AddsFind before after name (length bytes)
  pub told : IfSome before.files (λ all. all name ≡ Some bytes)
  pub within : length bytes ≤ limit
  pub same : after.files ≡ before.files
  pub uncounted : after.faults ≡ before.faults

-- There is no file of the name. Nothing changed.
pub record IsAbsent (before after : ShelfView) (name : List ℕ) : Type 0 where
  pub told : IfSome before.files (λ all. all name ≡ None)
  pub nothing : after ≡ before

-- A file is longer than its limit. It was read one byte past it, and no further.
pub record IsTooLong (before after : ShelfView) (name : List ℕ) (limit : ℕ) : Type 0 where
  pub find : AddsFind before after name (limit + 1)
  pub told : IfSome before.files (λ all. IsSomeAnd (all name) (λ bytes. limit < length bytes))
  pub same : after.files ≡ before.files
  pub uncounted : after.faults ≡ before.faults

-- A file wasn't found, or was read in part, within its limit.
pub record BreaksOff (before after : ShelfView) (name : List ℕ) (limit : ℕ) : Type 0 where
  pub find : (after.finds ≡ before.finds) ⊎ ((place : ℕ) × (place ≤ limit) × AddsFind before after name place)
  pub same : after.files ≡ before.files

-- why a file wasn't read to its end, and what the shelf shows behind it
abbrev pub IsRefused : ShelfView → ShelfView → List ℕ → ℕ → FileRefused → Type 0
IsRefused before after name limit Absent = IsAbsent before after name
IsRefused before after name limit ReadFault = BreaksOff before after name limit × Rose before.faults after.faults
IsRefused before after name limit TooLong = IsTooLong before after name limit
IsRefused before after name limit NoMemory = BreaksOff before after name limit × (after.faults ≡ before.faults)
