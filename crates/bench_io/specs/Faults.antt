-- Counts of calls and of faults.
use Rattle.std.specs.Prelude.{ℕ, ◌+◌, ◌-◌, ◌^◌, ◌≤◌, min}

-- one more, where a count stays at the end of its type
abbrev pub raised : ℕ → ℕ
raised count = min (count + 1) (2 ^ 64 - 1)

-- a count that never falls rose: it grew, or it stands at the end of its type
abbrev pub Rose : ℕ → ℕ → Type 0
Rose before now = raised before ≤ now
