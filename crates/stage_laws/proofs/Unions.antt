-- Causes that join others.
use Rattle.std.proofs.Common.{◌≡◌, ◌<◌, ◌≤◌, ◌+◌, ℕ, List, [], ◌∷◌, Bool, true, false, ◌||◌, length, slice_set, zero, suc, arith, refl, ap, sym, ◌∙◌, replicate}
use Rattle.std.specs.Prelude.{Option, Some, None, IfSome, min}
use Rattle.std.proofs.lemmas.List.{length-set}
use Rattle.chip_words.specs.Causes.{least_cause, least_from, lesser_cause, no_causes, with_cause}

-- the causes of either of two lists of equal length
abbrev pub union : List Bool → List Bool → List Bool
union [] ys = []
union (x ∷ xs) [] = x ∷ xs
union (x ∷ xs) (y ∷ ys) = (x || y) ∷ union xs ys

or-false : (x : Bool) → (x || false) ≡ x
or-false true = refl
or-false false = refl

or-true : (x : Bool) → (x || true) ≡ true
or-true true = refl
or-true false = refl

same_cons : (x y : Bool) (xs ys : List Bool) → x ≡ y → xs ≡ ys → x ∷ xs ≡ y ∷ ys
same_cons x y xs ys e f = cc

suc-same : (m n : ℕ) → suc m ≡ suc n → m ≡ n
suc-same m n e = omega arith

union-replicate : (xs : List Bool) (n : ℕ) → union xs (replicate n false) ≡ xs
union-replicate [] n = refl
union-replicate (x ∷ xs) zero = refl
union-replicate (x ∷ xs) (suc n) = same_cons _ _ _ _ (or-false x) (union-replicate xs n)

pub union-none : (xs : List Bool) → union xs no_causes ≡ xs
unfolding no_causes
union-none xs = union-replicate xs 65

union-set : (xs ys : List Bool) (k : ℕ) → length xs ≡ length ys → slice_set (union xs ys) k true ≡ union xs (slice_set ys k true)
union-set [] [] k e = refl
union-set [] (y ∷ ys) k e = absurd (omega arith)
union-set (x ∷ xs) [] k e = absurd (omega arith)
union-set (x ∷ xs) (y ∷ ys) zero e = same_cons _ _ _ _ (sym (or-true x)) refl
union-set (x ∷ xs) (y ∷ ys) (suc k) e = same_cons _ _ _ _ refl (union-set xs ys k (suc-same _ _ e))

union-set_first : (xs ys : List Bool) (k : ℕ) → length xs ≡ length ys → slice_set (union xs ys) k true ≡ union (slice_set xs k true) ys
union-set_first [] ys k e = refl
union-set_first (x ∷ xs) [] k e = absurd (omega arith)
union-set_first (x ∷ xs) (y ∷ ys) zero e = refl
union-set_first (x ∷ xs) (y ∷ ys) (suc k) e = same_cons _ _ _ _ refl (union-set_first xs ys k (suc-same _ _ e))

pub with_cause-length : (cause : Option ℕ) (xs : List Bool) → length (with_cause cause xs) ≡ length xs
with_cause-length (Some cause) xs = length-set xs cause true
with_cause-length None xs = refl

-- a cause that joins a union joins either list
pub union-with_cause : (cause : Option ℕ) (xs ys : List Bool) → length xs ≡ length ys → with_cause cause (union xs ys) ≡ union xs (with_cause cause ys)
union-with_cause (Some cause) xs ys e = union-set xs ys cause e
union-with_cause None xs ys e = refl

pub union-with_cause_first : (cause : Option ℕ) (xs ys : List Bool) → length xs ≡ length ys → with_cause cause (union xs ys) ≡ union (with_cause cause xs) ys
union-with_cause_first (Some cause) xs ys e = union-set_first xs ys cause e
union-with_cause_first None xs ys e = refl

-- ---- the least of them

-- a least cause isn't below where the list begins
abbrev IsFrom : ℕ → Option ℕ → Type 0
IsFrom n cause = IfSome cause (λ k. n ≤ k)

IsFrom-less : (n : ℕ) (cause : Option ℕ) → IsFrom (n + 1) cause → IsFrom n cause
IsFrom-less n (Some cause) h = omega arith
IsFrom-less n None h = tt

least_from-IsFrom : (n : ℕ) (xs : List Bool) → IsFrom n (least_from n xs)
least_from-IsFrom n [] = tt
least_from-IsFrom n (true ∷ xs) = omega arith
least_from-IsFrom n (false ∷ xs) = IsFrom-less n (least_from (n + 1) xs) (least_from-IsFrom (n + 1) xs)

lesser-first : (n : ℕ) (cause : Option ℕ) → IsFrom n cause → lesser_cause (Some n) cause ≡ Some n
lesser-first n (Some cause) h = let e : min n cause ≡ n = omega arith in ap Some e
lesser-first n None h = refl

lesser-second : (n : ℕ) (cause : Option ℕ) → IsFrom n cause → lesser_cause cause (Some n) ≡ Some n
lesser-second n (Some cause) h = let e : min cause n ≡ n = omega arith in ap Some e
lesser-second n None h = refl

least_from-union : (n : ℕ) (xs ys : List Bool) → length xs ≡ length ys → least_from n (union xs ys) ≡ lesser_cause (least_from n xs) (least_from n ys)
least_from-union n [] [] e = refl
least_from-union n [] (y ∷ ys) e = absurd (omega arith)
least_from-union n (x ∷ xs) [] e = absurd (omega arith)
least_from-union n (true ∷ xs) (true ∷ ys) e = sym (lesser-first n (Some n) (omega arith))
least_from-union n (true ∷ xs) (false ∷ ys) e = sym (lesser-first n _ (IsFrom-less n _ (least_from-IsFrom (n + 1) ys)))
least_from-union n (false ∷ xs) (true ∷ ys) e = sym (lesser-second n _ (IsFrom-less n _ (least_from-IsFrom (n + 1) xs)))
least_from-union n (false ∷ xs) (false ∷ ys) e = least_from-union (n + 1) xs ys (suc-same _ _ e)

pub least_cause-union : (xs ys : List Bool) → length xs ≡ length ys → least_cause (union xs ys) ≡ lesser_cause (least_cause xs) (least_cause ys)
least_cause-union xs ys e = least_from-union 0 xs ys e

-- one more cause, of which the list has the number
least_from-set : (n : ℕ) (xs : List Bool) (k : ℕ) → k < length xs → least_from n (slice_set xs k true) ≡ lesser_cause (least_from n xs) (Some (n + k))
least_from-set n [] k l = absurd (omega arith)
least_from-set n (true ∷ xs) zero l = let e : min n (n + 0) ≡ n = omega arith in ap Some (sym e)
least_from-set n (true ∷ xs) (suc k) l = let e : min n (n + suc k) ≡ n = omega arith in ap Some (sym e)
least_from-set n (false ∷ xs) zero l = let e : n + 0 ≡ n = omega arith in rw e (sym (lesser-second n _ (IsFrom-less n _ (least_from-IsFrom (n + 1) xs))))
least_from-set n (false ∷ xs) (suc k) l = let e : n + suc k ≡ n + 1 + k = omega arith in rw e (least_from-set (n + 1) xs k (omega arith))

pub lesser-None : (cause : Option ℕ) → lesser_cause cause None ≡ cause
lesser-None (Some cause) = refl
lesser-None None = refl

pub least_cause-with_cause : (cause : Option ℕ) (xs : List Bool) → IfSome cause (λ k. k < length xs) → least_cause (with_cause cause xs) ≡ lesser_cause (least_cause xs) cause
least_cause-with_cause (Some k) xs within =
    let e : 0 + k ≡ k = omega arith in
    rw e at (least_from-set 0 xs k within)
least_cause-with_cause None xs within = sym (lesser-None (least_cause xs))

min-assoc : (a b c : ℕ) → min (min a b) c ≡ min a (min b c)
min-assoc a b c = omega arith

min-comm : (a b : ℕ) → min a b ≡ min b a
min-comm a b = omega arith

lesser-assoc : (a b c : Option ℕ) → lesser_cause (lesser_cause a b) c ≡ lesser_cause a (lesser_cause b c)
lesser-assoc (Some a) (Some b) (Some c) = ap Some (min-assoc a b c)
lesser-assoc (Some a) (Some b) None = refl
lesser-assoc (Some a) None c = refl
lesser-assoc None b c = refl

lesser-comm : (a b : Option ℕ) → lesser_cause a b ≡ lesser_cause b a
lesser-comm (Some a) (Some b) = ap Some (min-comm a b)
lesser-comm (Some a) None = refl
lesser-comm None (Some b) = refl
lesser-comm None None = refl

-- the least of three, of which the last two change their places
pub lesser-turned : (a b c : Option ℕ) → lesser_cause (lesser_cause a b) c ≡ lesser_cause a (lesser_cause c b)
lesser-turned a b c = lesser-assoc a b c ∙ ap (lesser_cause a) (lesser-comm b c)
