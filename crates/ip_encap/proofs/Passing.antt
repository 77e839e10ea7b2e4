-- The intervals of the addresses that pass a test, from an address on.
use Rattle.std.proofs.Common.{◌≡◌, ℕ, zero, suc, Bool, true, false, not, ◌+◌, ◌-◌, ◌<◌, ◌≤◌, List, ◌∷◌, find, Some, inl, inr, refl, ap, ◌∙◌, arith}
use Rattle.std.proofs.lemmas.Bool.{and_from, and_left, and_right, cases_lt}
use Rattle.std.specs.Prelude.{filter, map}
use Rattle.std.specs.List.{range_with_len}
use Rattle.chip_words.specs.Seals.{BEHIND_MAIN_FRAM}
use Rattle.ip_encap.specs.declared.intervals.Interval.{Interval}
use Rattle.ip_encap.specs.Opened.{begins, end_from, interval_from, or_behind}

-- of numbers that come first and don't pass a filter keeps none
filter-range : (p : ℕ → Bool) (a d n m b : ℕ) → a + d ≡ b → n ≡ d + m → ((at : ℕ) → a ≤ at → at < b → p at ≡ false) → filter p (range_with_len a n) ≡ filter p (range_with_len b m)
filter-range p a zero n m b e f none =
    let at : a ≡ b = omega arith in
    let many : n ≡ m = omega arith in
    cc
filter-range p a (suc d) n m b e f none =
    let many : n ≡ suc (d + m) = omega arith in
    rw many (rw (none a (omega arith) (omega arith)) (filter-range p (a + 1) d (d + m) m b (omega arith) refl (λ at l h. none at (omega arith) h)))

-- and a search passes over them
find-range : (p : ℕ → Bool) (a d n m b : ℕ) → a + d ≡ b → n ≡ d + m → ((at : ℕ) → a ≤ at → at < b → p at ≡ false) → find p (range_with_len a n) ≡ find p (range_with_len b m)
find-range p a zero n m b e f none =
    let at : a ≡ b = omega arith in
    let many : n ≡ m = omega arith in
    cc
find-range p a (suc d) n m b e f none =
    let many : n ≡ suc (d + m) = omega arith in
    rw many (rw (none a (omega arith) (omega arith)) (find-range p (a + 1) d (d + m) m b (omega arith) refl (λ at l h. none at (omega arith) h)))

-- a search among numbers of which the first is found
find-here : (p : ℕ → Bool) (a n m : ℕ) → n ≡ suc m → p a ≡ true → find p (range_with_len a n) ≡ Some a
find-here p a n m many here = rw many (rw here)

-- what passes from one address up to another, and not at that, ends there
end_from-high : (test : ℕ → Bool) (low high : ℕ) → low ≤ high → high ≤ BEHIND_MAIN_FRAM → ((at : ℕ) → low ≤ at → at < high → test at ≡ true) → test high ≡ false → end_from test low ≡ high
end_from-high test low high l h all last =
    let fails : (at : ℕ) → low ≤ at → at < high → not (test at) ≡ false = (λ at m n. ap not (all at m n)) in
    let here : not (test high) ≡ true = ap not last in
    let on = find-range (λ at. not (test at)) low (high - low) (BEHIND_MAIN_FRAM - low) (BEHIND_MAIN_FRAM - high) high (omega arith) (omega arith) fails in
    elim (cases_lt high BEHIND_MAIN_FRAM) [
      | inl below ↦
          let found = find-here (λ at. not (test at)) high (BEHIND_MAIN_FRAM - high) (BEHIND_MAIN_FRAM - high - 1) (omega arith) here in
          ap or_behind (on ∙ found)
      | inr behind ↦
          let none : BEHIND_MAIN_FRAM - high ≡ 0 = omega arith in
          let same : BEHIND_MAIN_FRAM ≡ high = omega arith in
          ap or_behind (rw none at on) ∙ same
    ]

-- the intervals that begin at an address or above it
abbrev pub intervals_from : (ℕ → Bool) → ℕ → List Interval
intervals_from test low = map (interval_from test) (filter (begins test) (range_with_len low (BEHIND_MAIN_FRAM - low)))

abbrev pub FailsBetween : (ℕ → Bool) → ℕ → ℕ → Type 0
FailsBetween test low high = (at : ℕ) → low ≤ at → at < high → test at ≡ false

abbrev pub PassesBetween : (ℕ → Bool) → ℕ → ℕ → Type 0
PassesBetween test low high = (at : ℕ) → low ≤ at → at < high → test at ≡ true

none_begins : (test : ℕ → Bool) (low high : ℕ) → FailsBetween test low high → FailsBetween (begins test) low high
none_begins test low high none at l h = and_left (test at) _ (none at l h)

-- behind an address that passes none begins
none_begins_behind : (test : ℕ → Bool) (low high : ℕ) → PassesBetween test low high → FailsBetween (begins test) (low + 1) high
none_begins_behind test low high all at l h = and_right (test at) _ (ap not (all (at - 1) (omega arith) (omega arith)))

-- where none passes none begins
pub intervals_from-later : (test : ℕ → Bool) (low high : ℕ) → low ≤ high → high ≤ BEHIND_MAIN_FRAM → FailsBetween test low high → intervals_from test low ≡ intervals_from test high
intervals_from-later test low high l h none =
    ap (map (interval_from test)) (filter-range (begins test) low (high - low) (BEHIND_MAIN_FRAM - low) (BEHIND_MAIN_FRAM - high) high (omega arith) (omega arith) (none_begins test low high none))

-- an address that doesn't pass, and behind it all from one up to another
pub intervals_from-first : (test : ℕ → Bool) (low high : ℕ) → 0 < low → low < high → high ≤ BEHIND_MAIN_FRAM → test (low - 1) ≡ false → PassesBetween test low high → test high ≡ false → intervals_from test low ≡ record { low = low; high = high } ∷ intervals_from test high
intervals_from-first test low high p l h before all last =
    let many : BEHIND_MAIN_FRAM - low ≡ suc (BEHIND_MAIN_FRAM - (low + 1)) = omega arith in
    let here : begins test low ≡ true = and_from (test low) _ (all low (omega arith) l) (ap not before) in
    let rest = filter-range (begins test) (low + 1) (high - (low + 1)) (BEHIND_MAIN_FRAM - (low + 1)) (BEHIND_MAIN_FRAM - high) high (omega arith) (omega arith) (none_begins_behind test low high all) in
    rw many (rw here (rw rest (rw (end_from-high test low high (omega arith) h all last) refl)))
