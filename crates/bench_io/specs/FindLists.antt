-- The finds of a list of entries.
use Rattle.std.specs.Prelude.{ℕ, ◌+◌, List, [], ◌∷◌, string_bytes}
use Rattle.bench_io.specs.Shelves.{Find}
use Rattle.bench_io.specs.declared.find_list.Entry.{Entry}

-- the entries as finds, whose ids count up
abbrev pub numbered : ℕ → List Entry → List Find
numbered id [] = []
numbered id (entry ∷ entries) =
    record { id = id; name = string_bytes entry.name; place = entry.place }
    ∷ numbered (id + 1) entries
