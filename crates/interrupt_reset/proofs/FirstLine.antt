-- Where vectors fall from line to line, the first line that stands has the greatest of the standing vectors.
use Rattle.std.proofs.Common.{◌≡◌, ℕ, zero, suc, ◌+◌, ◌/◌, ◌%◌, ◌^◌, ◌<◌, ◌≤◌, Bool, true, ◌&&◌, ◌==◌, List, [], ◌∷◌, Option, Some, None, IfSome, length, refl, sym, arith}
use Rattle.std.specs.Prelude.{nat_lt, nat_le, is_some, slice_get, slice_index_or}
use Rattle.std.specs.List.{list_all}
use Rattle.std.specs.Option.{option_copied}
use Rattle.std.proofs.lemmas.Bool.Decides.{nat_tests}
use Rattle.std.proofs.lemmas.Nat.{shr-shr}
use Rattle.std.proofs.Math.Nat.{div-one}
use Rattle.std.proofs.lemmas.Option.{slice_get_past, slice_get_read}
use denote.Bor.{Bor}
use lib.Count.{count_trailing_zeros}
use Rattle.chip_words.specs.Interrupts.{standing, greatest, greater_with}

-- each number is below the one before, and the first is below this bound
abbrev pub falls_below : ℕ → List ℕ → Bool
falls_below bound [] = true
falls_below bound (n ∷ numbers) = nat_lt n bound && falls_below n numbers

greater_with-below : (n : ℕ) (others : Option ℕ) → IfSome others (λ m. m < n) → greater_with n others ≡ n
greater_with-below n (Some m) h = omega arith
greater_with-below n None h = refl

below_more : (n bound : ℕ) (o : Option ℕ) → n < bound → IfSome o (λ m. m < n) → IfSome o (λ m. m < bound)
below_more n bound (Some m) h k = omega arith
below_more n bound None h k = k

-- the standing vectors are below the bound
pub greatest-standing-below : (bound lines place : ℕ) (vectors : List ℕ) → falls_below bound vectors ≡ true → IfSome (greatest (standing lines place vectors)) (λ m. m < bound)
greatest-standing-below bound lines place [] h = tt
greatest-standing-below bound lines place (v ∷ vectors) h = by_digit (greatest-standing-below v lines (place + 1) vectors (grind (arith, nat_tests))) (lines / 2 ^ place % 2) refl
  where
    below : v < bound
    below = grind (arith, nat_tests)

    by_digit : IfSome (greatest (standing lines (place + 1) vectors)) (λ m. m < v) → (d : ℕ) → lines / 2 ^ place % 2 ≡ d → IfSome (greatest (standing lines place (v ∷ vectors))) (λ m. m < bound)
    by_digit rest zero e = rw e (below_more v bound (greatest (standing lines (place + 1) vectors)) below rest)
    by_digit rest (suc zero) e = rw (e, greater_with-below v (greatest (standing lines (place + 1) vectors)) rest) below
    by_digit rest (suc (suc d)) e = absurd (omega arith)

-- the first line that stands from a place on is the first digit 1 there
greatest-standing_from : (bound lines place width : ℕ) (vectors : List ℕ) → falls_below bound vectors ≡ true → length vectors ≤ width → greatest (standing lines place vectors) ≡ slice_get vectors (count_trailing_zeros width (lines / 2 ^ place))
unfolding count_trailing_zeros
greatest-standing_from bound lines place width [] h within = refl
greatest-standing_from bound lines place zero (v ∷ vectors) h within = absurd (omega arith)
greatest-standing_from bound lines place (suc width) (v ∷ vectors) h within = by_digit (greatest-standing_from v lines (place + 1) width vectors falls (omega arith)) (lines / 2 ^ place % 2) refl
  where
    falls : falls_below v vectors ≡ true
    falls = grind (arith, nat_tests)

    by_digit : greatest (standing lines (place + 1) vectors) ≡ slice_get vectors (count_trailing_zeros width (lines / 2 ^ (place + 1))) → (d : ℕ) → lines / 2 ^ place % 2 ≡ d → greatest (standing lines place (v ∷ vectors)) ≡ slice_get (v ∷ vectors) (count_trailing_zeros (suc width) (lines / 2 ^ place))
    by_digit rest zero e = rw (e, shr-shr lines place 1) rest
    by_digit rest (suc zero) e = rw (e, greater_with-below v (greatest (standing lines (place + 1) vectors)) (greatest-standing-below v lines (place + 1) vectors falls)) refl
    by_digit rest (suc (suc d)) e = absurd (omega arith)

-- the first line that stands is the first digit 1 of the lines
pub greatest-standing : (bound lines width : ℕ) (vectors : List ℕ) → falls_below bound vectors ≡ true → length vectors ≤ width → greatest (standing lines 0 vectors) ≡ slice_get vectors (count_trailing_zeros width lines)
greatest-standing bound lines width vectors falls within = rw div-one at (greatest-standing_from bound lines 0 width vectors falls within)

-- what `get` and `copied` give of a list
pub option_copied-get : (o : Option (Bor ℕ)) (xs : List ℕ) (i : ℕ) → is_some o ≡ nat_lt i (length xs) → IfSome o (λ x. x.now ≡ slice_index_or xs i x.now) → option_copied o ≡ slice_get xs i
option_copied-get (Some x) xs i found h = sym (slice_get_read xs (length xs) i x.now refl (grind (arith, nat_tests)) h)
option_copied-get None xs i found h = sym (slice_get_past xs i (grind (arith, nat_tests)))

-- a test that all vectors pass, the one that `slice_get` gives passes
pub slice_get-passes : (test : ℕ → Bool) (xs : List ℕ) (i : ℕ) → list_all test xs ≡ true → IfSome (slice_get xs i) (λ x. test x ≡ true)
slice_get-passes test [] i h = tt
slice_get-passes test (x ∷ xs) zero h = grind arith
slice_get-passes test (x ∷ xs) (suc i) h = slice_get-passes test xs i (grind arith)

-- even addresses in the region of the vectors
abbrev pub is_vector : ℕ → Bool
is_vector at = nat_le 0xFFD0 at && nat_lt at 0x10000 && at % 2 == 0

pub is_vector-in_range : (o : Option ℕ) → IfSome o (λ at. is_vector at ≡ true) → IfSome o (λ at. (0xFFD0 ≤ at) × (at < 0x10000))
is_vector-in_range (Some at) h = grind (arith, nat_tests)
is_vector-in_range None h = tt

pub is_vector-even : (o : Option ℕ) → IfSome o (λ at. is_vector at ≡ true) → IfSome o (λ at. at % 2 ≡ 0)
is_vector-even (Some at) h = grind (arith, nat_tests)
is_vector-even None h = tt
