-- Rows of masks and values over a pair of words, and the rows that a pair meets.
use Rattle.std.specs.Prelude.{ℕ, Bool, true, false, List, [], ◌∷◌, bit_and, ◌==◌, ◌&&◌, if◌then◌else◌}

-- a row of the words that are `value` under `mask`, and where the next word is `next_value` under
-- `next_mask`, with what it says of them
pub record Row (A : Type 0) : Type 0 where
  pub mask : ℕ
  pub value : ℕ
  pub next_mask : ℕ
  pub next_value : ℕ
  pub says : A

abbrev pub meets : {A : Type 0} → Row A → ℕ → ℕ → Bool
meets row w0 w1 = (bit_and w0 row.mask == row.value) && (bit_and w1 row.next_mask == row.next_value)

-- a row in front of others, where it is kept
abbrev pub kept_row : {A : Type 0} → Bool → Row A → List (Row A) → List (Row A)
kept_row true row rows = row ∷ rows
kept_row false row rows = rows

-- the rows that a pair of words meets
abbrev pub rows_met : {A : Type 0} → List (Row A) → ℕ → ℕ → List (Row A)
rows_met [] w0 w1 = []
rows_met (row ∷ rows) w0 w1 = kept_row (meets row w0 w1) row (rows_met rows w0 w1)

-- these rows, or others where there are none
abbrev pub or_else : {A : Type 0} → List (Row A) → List (Row A) → List (Row A)
or_else [] others = others
or_else (row ∷ rows) others = row ∷ rows

-- what the first of some rows says
abbrev pub first_says : {A : Type 0} → A → List (Row A) → A
first_says none [] = none
first_says none (row ∷ rows) = row.says

-- what the first row says that a pair of words meets
abbrev pub lookup : {A : Type 0} → A → List (Row A) → ℕ → ℕ → A
lookup none [] w0 w1 = none
lookup none (row ∷ rows) w0 w1 = if meets row w0 w1 then row.says else lookup none rows w0 w1
