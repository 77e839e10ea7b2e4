-- The first of some numbers that passes a test.
use Rattle.std.proofs.Common.{◌≡◌, ℕ, zero, suc, true, false, Bool, ◌+◌, ◌<◌, ◌≤◌, find, Some, None, inl, inr, refl, sym, ap, arith}
use Rattle.std.proofs.lemmas.Bool.{cases_lt}
use Rattle.std.specs.List.{range_with_len}

-- the first of `n` numbers from `a` on that passes
pub find-range : (p : ℕ → Bool) (a n k : ℕ) → a ≤ k → k < a + n → ((j : ℕ) → a ≤ j → j < k → p j ≡ false) → p k ≡ true → find p (range_with_len a n) ≡ Some k
find-range p a zero k low high below here = absurd (omega arith)
find-range p a (suc n) k low high below here =
    elim (cases_lt a k) [
      | inl before ↦ rw (below a (omega arith) before) (find-range p (a + 1) n k (omega arith) (omega arith) (λ j l h. below j (omega arith) h) here)
      | inr at ↦
          let same : k ≡ a = omega arith in
          rw (rw same at here) (ap Some (sym same))
    ]

pub find-range_none : (p : ℕ → Bool) (a n : ℕ) → ((j : ℕ) → a ≤ j → j < a + n → p j ≡ false) → find p (range_with_len a n) ≡ None
find-range_none p a zero none = refl
find-range_none p a (suc n) none = rw (none a (omega arith) (omega arith)) (find-range_none p (a + 1) n (λ j l h. none j (omega arith) (omega arith)))
