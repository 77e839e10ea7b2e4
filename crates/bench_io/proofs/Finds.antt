-- Reading one file of a shelf: its find stands at the end of the list, at the bytes that were read.
use Rattle.std.proofs.Common.{◌≡◌, ℕ, ◌+◌, ◌^◌, ◌<◌, ◌≤◌, false, List, [], ◌∷◌, ◌++◌, length, take, drop, Option, Some, None, option_map, IfSome, sym, ◌∙◌, ap, arith, append-nil, length-append}
use Rattle.std.proofs.lemmas.Bool.Decides.{nat_tests}
use Rattle.std.proofs.lemmas.List.{take-append-drop, length-take-le}
use Rattle.std.proofs.Math.Seq.{take-add}
use Rattle.bench_io.specs.Shelves.{Find, Files, is_given, find_of, moved, rest_of}

-- the find behind those before is that of its id, where none of them has it
pub find_of-last : (finds : List Find) (find : Find) → is_given find.id finds ≡ false → find_of find.id (finds ++ find ∷ []) ≡ Some find
find_of-last [] find fresh = grind (arith, nat_tests)
find_of-last (first ∷ finds) find fresh = grind (arith, nat_tests, fresh, find_of-last finds find)

-- only the last find moves, where no find before has its id
pub moved-last : (finds : List Find) (id n : ℕ) (name : List ℕ) (place : ℕ) → is_given id finds ≡ false → place + n < 2 ^ 64 → moved id n (finds ++ record { id = id; name = name; place = place } ∷ []) ≡ finds ++ record { id = id; name = name; place = place + n } ∷ []
moved-last [] id n name place fresh small = grind (arith, nat_tests)
moved-last (first ∷ finds) id n name place fresh small = grind (arith, nat_tests, fresh, moved-last finds id n name place)

-- these bytes are the front of the file of a name
abbrev pub IsFront : Files → List ℕ → List ℕ → Type 0
IsFront all name bytes = (file : List ℕ) × (all name ≡ Some file) × (bytes ≡ take (length bytes) file)

-- a find stands behind those before, at the bytes that were read, which are the front of its file
pub record IsReading (told : Option Files) (before now : List Find) (id : ℕ) (name bytes : List ℕ) : Type 0 where
  pub fresh : is_given id before ≡ false
  pub stands : now ≡ before ++ record { id = id; name = name; place = length bytes } ∷ []
  pub front : IfSome told (λ all. IsFront all name bytes)

-- how many bytes there are after n more
pub length_read : (n : ℕ) (bytes piece : List ℕ) → n ≤ length piece → length (bytes ++ take n piece) ≡ length bytes + n
length_read n bytes piece within = length-append bytes (take n piece) ∙ ap (λ k. length bytes + k) (length-take-le n piece within)

-- the front grows by what was read of the rest
front_grows : (told : Option Files) (now : List Find) (id n : ℕ) (name bytes piece : List ℕ) → find_of id now ≡ Some (record { id = id; name = name; place = length bytes }) → n ≤ length piece → IfSome told (λ all. IsFront all name bytes) → IfSome (rest_of told now id) (λ rest. take n piece ≡ take n rest) → IfSome told (λ all. IsFront all name (bytes ++ take n piece))
front_grows None now id n name bytes piece found within front read = tt
front_grows (Some all) now id n name bytes piece found within (file, named, is_front) read =
    let of_name : IfSome (option_map (drop (length bytes)) (all name)) (λ rest. take n piece ≡ take n rest) = rw found at read in
    let of_file : take n piece ≡ take n (drop (length bytes) file) = rw named at of_name in
    (file, named, rw (length_read n bytes piece within, take-add (length bytes) n file) (cc (is_front, of_file)))

-- nothing is left behind a front that is the whole file
front_ends : (told : Option Files) (now : List Find) (id : ℕ) (name bytes : List ℕ) → find_of id now ≡ Some (record { id = id; name = name; place = length bytes }) → IfSome told (λ all. IsFront all name bytes) → IfSome (rest_of told now id) (λ rest. rest ≡ []) → IfSome told (λ all. all name ≡ Some bytes)
front_ends None now id name bytes found front none = tt
front_ends (Some all) now id name bytes found (file, named, is_front) none =
    let of_name : IfSome (option_map (drop (length bytes)) (all name)) (λ rest. rest ≡ []) = rw found at none in
    let of_file : drop (length bytes) file ≡ [] = rw named at of_name in
    named ∙ ap Some (sym (take-append-drop (length bytes) file) ∙ ap (λ rest. take (length bytes) file ++ rest) of_file ∙ append-nil (take (length bytes) file) ∙ sym is_front)

module _ {told : Option Files} {before now : List Find} {id : ℕ} {name bytes : List ℕ} (reading : IsReading told before now id name bytes) where
  -- the id's find stands at the bytes that were read
  pub find_of-reading : find_of id now ≡ Some (record { id = id; name = name; place = length bytes })
  find_of-reading = rw reading.stands (find_of-last before (record { id = id; name = name; place = length bytes }) reading.fresh)

  -- the whole file was read, where nothing is left
  pub whole_file : IfSome (rest_of told now id) (λ rest. rest ≡ []) → IfSome told (λ all. all name ≡ Some bytes)
  whole_file none = front_ends told now id name bytes find_of-reading reading.front none

  -- n more bytes were read
  pub read_on : (n : ℕ) (piece : List ℕ) (after : List Find) → length bytes + n < 2 ^ 64 → n ≤ length piece → after ≡ moved id n now → IfSome (rest_of told now id) (λ rest. take n piece ≡ take n rest) → IsReading told before after id name (bytes ++ take n piece)
  read_on n piece after small within moves read = record {
    fresh = reading.fresh;
    stands = moves ∙ ap (moved id n) reading.stands ∙ moved-last before id n name (length bytes) reading.fresh small ∙ ap (λ place. before ++ record { id = id; name = name; place = place } ∷ []) (sym (length_read n bytes piece within));
    front = front_grows told now id n name bytes piece find_of-reading within reading.front read;
  }
