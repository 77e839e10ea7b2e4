-- What holds of the addresses of FRAM, and of those off it.
use Rattle.std.specs.Prelude.{◌≡◌, ℕ, false, IsTrue, List, slice_index}
use Rattle.chip_words.specs.Map.{is_fram}

-- a fact of each address of FRAM
abbrev pub OnFram : (ℕ → Type 0) → Type 0
OnFram P = (at : ℕ) → IsTrue (is_fram at) → P at

-- a fact of each other address
abbrev pub OffFram : (ℕ → Type 0) → Type 0
OffFram P = (at : ℕ) → is_fram at ≡ false → P at

-- an address keeps its byte
abbrev pub Keeps : List ℕ → List ℕ → ℕ → Type 0
Keeps old new at = slice_index new at ≡ slice_index old at
