-- The least of the causes that are requested, behind each change of the requests.
use Rattle.std.proofs.Common.{◌≡◌, ℕ, zero, suc, ◌+◌, ◌<◌, ◌≤◌, min, Bool, true, false, List, [], ◌∷◌, Option, Some, None, IfSome, length, slice_set, replicate, refl, ap, sym, arith}
use Rattle.chip_words.specs.Causes.{least_from, least_cause, no_causes}

-- the lesser of a number and another one, if there is one
abbrev pub lesser_with : ℕ → Option ℕ → ℕ
lesser_with n (Some m) = min m n
lesser_with n None = n

least_from-least : (n : ℕ) (requested : List Bool) → IfSome (least_from n requested) (λ m. n ≤ m)
least_from-least n [] = tt
least_from-least n (true ∷ requested) = omega arith
least_from-least n (false ∷ requested) = above (least_from (n + 1) requested) (least_from-least (n + 1) requested)
  where
    above : (o : Option ℕ) → IfSome o (λ m. n + 1 ≤ m) → IfSome o (λ m. n ≤ m)
    above (Some m) h = omega arith
    above None h = h

lesser_with-above : (n : ℕ) (o : Option ℕ) → IfSome o (λ m. n + 1 ≤ m) → lesser_with n o ≡ n
lesser_with-above n (Some m) h = omega arith
lesser_with-above n None h = refl

least_from-slice_set : (n k : ℕ) (requested : List Bool) → k < length requested → least_from n (slice_set requested k true) ≡ Some (lesser_with (n + k) (least_from n requested))
least_from-slice_set n k [] h = absurd (omega arith)
least_from-slice_set n zero (true ∷ requested) h = ap Some (omega arith)
least_from-slice_set n zero (false ∷ requested) h = let e : n + 0 ≡ n = omega arith in rw e (ap Some (sym (lesser_with-above n (least_from (n + 1) requested) (least_from-least (n + 1) requested))))
least_from-slice_set n (suc k) (true ∷ requested) h = ap Some (omega arith)
least_from-slice_set n (suc k) (false ∷ requested) h = let e : n + suc k ≡ n + 1 + k = omega arith in rw e (least_from-slice_set (n + 1) k requested (omega arith))

-- one more request
pub least_cause-slice_set : (k : ℕ) (requested : List Bool) → k < length requested → least_cause (slice_set requested k true) ≡ Some (lesser_with k (least_cause requested))
least_cause-slice_set k requested h = let e : 0 + k ≡ k = omega arith in rw e at (least_from-slice_set 0 k requested h)

least_from-none : (n : ℕ) (requested : List Bool) → least_from n requested ≡ None → requested ≡ replicate (length requested) false
least_from-none n [] h = refl
least_from-none n (true ∷ requested) h = absurd (grind arith)
least_from-none n (false ∷ requested) h = ap (λ rest. false ∷ rest) (least_from-none (n + 1) requested h)

-- where there is no least cause, none is requested
pub least_cause-none : (requested : List Bool) → length requested ≡ 65 → least_cause requested ≡ None → requested ≡ no_causes
unfolding no_causes
least_cause-none requested long none = rw long at (least_from-none 0 requested none)
