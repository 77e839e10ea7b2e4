-- What a sink means: the bytes that were written.
use Rattle.std.specs.Prelude.{◌≡◌, ℕ, ◌≤◌, List, ◌++◌, length, take, Option, Some, None}
use Rattle.bench_io.specs.declared.sinks.Took.{Took}
use Rattle.bench_io.specs.declared.sinks.Took.TheVariants.{Count}

-- what a sink that tells its bytes holds after these more
abbrev pub appended : Option (List ℕ) → List ℕ → Option (List ℕ)
appended None bytes = None
appended (Some old) bytes = Some (old ++ bytes)

-- only a front of the text was written
abbrev pub AppendsFront : Option (List ℕ) → Option (List ℕ) → List ℕ → Type 0
AppendsFront before after text =
    (n : ℕ) × (n ≤ length text) × (after ≡ appended before (take n text))

-- a fact of how many bytes were taken
abbrev pub IfTaken : Took → (ℕ → Type 0) → Type 0
IfTaken (Count n) P = P n
IfTaken answer P = Unit {0}

-- a fact of a put that failed
abbrev pub IfRefused : Took → Type 0 → Type 0
IfRefused (Count n) P = Unit {0}
IfRefused answer P = P
