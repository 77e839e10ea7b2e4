-- What a shelf means: what its names stand for, and how far each file that was found was read.
use Rattle.std.specs.Prelude.{ℕ, ◌+◌, ◌-◌, ◌^◌, min, Bool, if◌then◌else◌, ◌==◌, List, [], ◌∷◌, drop, Option, Some, None, option_map}
use Rattle.std.specs.List.{list_any}
use Rattle.bench_io.specs.declared.shelves.Found.{Found}
use Rattle.bench_io.specs.declared.shelves.Found.TheVariants.{Here, Absent, Failed}
use Rattle.bench_io.specs.declared.shelves.Got.{Got}
use Rattle.bench_io.specs.declared.shelves.Got.TheVariants.{Count}

-- a find that answered Here: its id, its name, and how many bytes were read under it
pub record Find : Type 0 where
  pub id : ℕ
  pub name : List ℕ
  pub place : ℕ

-- how many ids a shelf can give: a `u32` counts them
abbrev pub most_finds : ℕ
most_finds = 2 ^ 32 - 1

-- what each name stands for
abbrev pub Files : Type 0
Files = List ℕ → Option (List ℕ)

-- one of the finds has this id
abbrev pub is_given : ℕ → List Find → Bool
is_given id finds = list_any (λ find. find.id == id) finds

-- the find of an id
abbrev pub find_of : ℕ → List Find → Option Find
find_of id [] = None
find_of id (find ∷ finds) = if find.id == id then Some find else find_of id finds

-- the finds after n more bytes were read under an id
abbrev pub moved : ℕ → ℕ → List Find → List Find
moved id n [] = []
moved id n (find ∷ finds) =
    record find { place = if find.id == id then min (find.place + n) (2 ^ 64 - 1) else find.place }
    ∷ moved id n finds

-- what is left to read of a find's file
abbrev pub rest_at : Files → Option Find → Option (List ℕ)
rest_at files None = None
rest_at files (Some find) = option_map (drop find.place) (files find.name)

-- what is left to read under an id, where the files are told
abbrev pub rest_of : Option Files → List Find → ℕ → Option (List ℕ)
rest_of None finds id = None
rest_of (Some files) finds id = rest_at files (find_of id finds)

-- a fact of the id that was given, if the answer is one
abbrev pub IfHere : Found → (ℕ → Type 0) → Type 0
IfHere (Here id) P = P id
IfHere answer P = Unit {0}

-- a fact of every answer but an id
abbrev pub UnlessHere : Found → Type 0 → Type 0
UnlessHere (Here id) P = Unit {0}
UnlessHere answer P = P

abbrev pub IfAbsent : Found → Type 0 → Type 0
IfAbsent Absent P = P
IfAbsent answer P = Unit {0}

abbrev pub IfFailed : Found → Type 0 → Type 0
IfFailed Failed P = P
IfFailed answer P = Unit {0}

-- a fact of every answer but the one that counts a fault
abbrev pub UnlessFailed : Found → Type 0 → Type 0
UnlessFailed Failed P = Unit {0}
UnlessFailed answer P = P

-- a fact of how many bytes were read
abbrev pub IfCount : Got → (ℕ → Type 0) → Type 0
IfCount (Count n) P = P n
IfCount answer P = Unit {0}

-- a fact of a read that failed
abbrev pub IfNoBytes : Got → Type 0 → Type 0
IfNoBytes (Count n) P = Unit {0}
IfNoBytes answer P = P
