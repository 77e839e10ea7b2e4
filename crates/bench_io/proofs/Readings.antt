-- What a shelf shows behind a reading.
use Rattle.std.proofs.Common.{◌≡◌, ℕ, ◌<◌, List, [], ◌∷◌, ◌++◌, length, Option, Some, None, IfSome, refl, ◌∙◌, ap, arith, length-take}
use Rattle.std.specs.Prelude.{IsSomeAnd}
use Rattle.bench_io.specs.Shelves.{Files, Find}
use Rattle.bench_io.proofs.Finds.{IsReading, IsFront}
use Rattle.bench_io.specs.WholeFiles.{shelf_view}

-- the find of a reading stands at the bytes that were read
pub stands_at : (told : Option Files) (before now : List Find) (id : ℕ) (name bytes : List ℕ) (place : ℕ) → IsReading told before now id name bytes → length bytes ≡ place → now ≡ before ++ record { id = id; name = name; place = place } ∷ []
stands_at told before now id name bytes place reading at_place =
    reading.stands ∙ ap (λ n. before ++ record { id = id; name = name; place = n } ∷ []) at_place

-- a file is longer than the limit, where more was read of it
pub longer_told : (told : Option Files) (name bytes : List ℕ) (limit : ℕ) → limit < length bytes → IfSome told (λ all. IsFront all name bytes) → IfSome told (λ all. IsSomeAnd (all name) (λ file. limit < length file))
longer_told None name bytes limit long front = tt
longer_told (Some all) name bytes limit long (file, named, is_front) = rw named (omega (arith, simp length-take at (ap length is_front)))

-- a shelf of which nothing changed shows the same
pub same_view : (files told : Option Files) (finds now : List Find) (faults counted : ℕ) → told ≡ files → now ≡ finds → counted ≡ faults → shelf_view told now counted ≡ shelf_view files finds faults
same_view files told finds now faults counted same_files same_finds same_faults = rw (same_files, same_finds, same_faults) refl
