-- What a shelf in memory is.
use Rattle.std.specs.Prelude.{ℕ, if◌then◌else◌, List, [], ◌∷◌, map, Option, Some, None, String, Vec, string_bytes, bytes_eq}
use Rattle.std.specs.Global.{Global}
use Rattle.bench_io.specs.Shelves.{Find, Files, rest_of}

-- a file under its name
pub record NamedFile : Type 0 where
  pub name : List ℕ
  pub bytes : List ℕ

-- what a name stands for
abbrev pub file_named : List NamedFile → Files
file_named [] name = None
file_named (file ∷ files) name =
    if bytes_eq name file.name then Some file.bytes else file_named files name

-- the files of a map's entries
abbrev pub named_files : List (String Global × Vec ℕ Global) → List NamedFile
named_files entries =
    map (λ entry. record { name = string_bytes entry.0; bytes = entry.1.items }) entries

-- the files, the finds, the numbers of the calls that are to fail, and the counts of calls and of
-- faults
pub record MemShelfState : Type 0 where
  pub files : List NamedFile
  pub finds : List Find
  pub failing : List ℕ
  pub calls : ℕ
  pub faults : ℕ

-- a shelf that has no file yet
abbrev pub empty_shelf : MemShelfState
empty_shelf = record {
  files = [];
  finds = [];
  failing = [];
  calls = 0;
  faults = 0;
}

-- what is left to read under an id
abbrev pub rest_in : MemShelfState → ℕ → Option (List ℕ)
rest_in shelf id = rest_of (Some (file_named shelf.files)) shelf.finds id
