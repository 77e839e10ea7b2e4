-- What is left of an interval that has holes.
use Rattle.std.proofs.Common.{◌≡◌, ℕ, Bool, true, false, not, ◌&&◌, ◌||◌, ◌-◌, ◌<◌, ◌≤◌, min, max, List, [], ◌∷◌, ◌++◌, inl, inr, refl, ap, ◌∙◌, arith}
use Rattle.std.specs.Prelude.{nat_le, nat_lt}
use Rattle.std.proofs.lemmas.List.{append-nil}
use Rattle.std.proofs.lemmas.Bool.{cases_lt, le-ltb, lt-ltb}
use Rattle.std.proofs.lemmas.Bool.Decides.{nat_tests}
use Rattle.chip_words.specs.Seals.{BEHIND_MAIN_FRAM}
use Rattle.ip_encap.specs.declared.intervals.Interval.{Interval}
use Rattle.ip_encap.specs.Pieces.{has, piece}
use Rattle.ip_encap.proofs.Passing.{FailsBetween, PassesBetween, intervals_from, intervals_from-first, intervals_from-later}

-- the pieces of an interval below its holes, which ascend, and above them
abbrev pub pieces_of : ℕ → ℕ → List Interval → List Interval
pieces_of low high [] = piece low high
pieces_of low high (hole ∷ holes) = piece low (min high hole.low) ++ pieces_of (max low hole.high) high holes

abbrev pub in_some : List Interval → ℕ → Bool
in_some [] at = false
in_some (hole ∷ holes) at = has hole at || in_some holes at

-- each hole has an address, and none of those behind it has one below it
abbrev pub Ascend : List Interval → Type 0
Ascend [] = Unit {0}
Ascend (hole ∷ holes) = (hole.low < hole.high) × FailsBetween (in_some holes) 0 hole.low × Ascend holes

-- from an address that doesn't pass on, what passes is the interval but for its holes
pub record IsHoled (test : ℕ → Bool) (from low high : ℕ) (holes : List Interval) : Type 0 where
  pub order : from < low
  pub within : from ≤ BEHIND_MAIN_FRAM
  pub here : test from ≡ false
  pub below : FailsBetween test from low
  pub above : (at : ℕ) → low ≤ at → test at ≡ (nat_lt at high && not (in_some holes at))

-- the test at an address of the interval below a hole, at one behind its piece and not behind the hole, and behind both
passes : (some : Bool) (at high hole_low hole_high : ℕ) → at < min high hole_low → some ≡ false → (nat_lt at high && not ((nat_le hole_low at && nat_lt at hole_high) || some)) ≡ true
passes some at high hole_low hole_high h none = rw none (grind (arith, nat_tests))

fails : (some : Bool) (at low high hole_low hole_high : ℕ) → low ≤ at → min high hole_low ≤ at → at < max low hole_high → (nat_lt at high && not ((nat_le hole_low at && nat_lt at hole_high) || some)) ≡ false
fails some at low high hole_low hole_high l m h = grind (arith, nat_tests)

goes_on : (some : Bool) (at low high hole_low hole_high : ℕ) → max low hole_high ≤ at → (nat_lt at high && not ((nat_le hole_low at && nat_lt at hole_high) || some)) ≡ (nat_lt at high && not some)
goes_on some at low high hole_low hole_high h = grind (arith, nat_tests)

all_fail : (test : ℕ → Bool) (from low high : ℕ) (hole : Interval) (holes : List Interval) → IsHoled test from low high (hole ∷ holes) → (at : ℕ) → low ≤ at → min high hole.low ≤ at → at < max low hole.high → test at ≡ false
all_fail test from low high hole holes holed at l m h =
    holed.above at l ∙ fails (in_some holes at) at low high hole.low hole.high l m h

above_hole : (test : ℕ → Bool) (from low high : ℕ) (hole : Interval) (holes : List Interval) → IsHoled test from low high (hole ∷ holes) → (at : ℕ) → max low hole.high ≤ at → test at ≡ (nat_lt at high && not (in_some holes at))
above_hole test from low high hole holes holed at h =
    holed.above at (omega arith) ∙ goes_on (in_some holes at) at low high hole.low hole.high h

-- behind the piece below a hole, and where that is empty, the rest of the interval is left
holed_behind : (test : ℕ → Bool) (from low high : ℕ) (hole : Interval) (holes : List Interval) → hole.low < hole.high → high ≤ BEHIND_MAIN_FRAM → low < min high hole.low → IsHoled test from low high (hole ∷ holes) → IsHoled test (min high hole.low) (max low hole.high) high holes
holed_behind test from low high hole holes some h l holed = record {
  order = omega arith;
  within = omega arith;
  here = all_fail test from low high hole holes holed (min high hole.low) (omega arith) (omega arith) (omega arith);
  below = λ at m n. all_fail test from low high hole holes holed at (omega arith) m n;
  above = above_hole test from low high hole holes holed;
}

holed_without : (test : ℕ → Bool) (from low high : ℕ) (hole : Interval) (holes : List Interval) → min high hole.low ≤ low → IsHoled test from low high (hole ∷ holes) → IsHoled test from (max low hole.high) high holes
holed_without test from low high hole holes none holed = record {
  order = omega (arith, holed.order);
  within = holed.within;
  here = holed.here;
  below = λ at m n. elim (cases_lt at low) [
    | inl before ↦ holed.below at m before
    | inr behind ↦ all_fail test from low high hole holes holed at behind (omega arith) n
  ];
  above = above_hole test from low high hole holes holed;
}

-- where what passes ends, it goes on with the next piece
piece_first : (test : ℕ → Bool) (from low end : ℕ) (rest : List Interval) → from < low → low < end → end ≤ BEHIND_MAIN_FRAM → FailsBetween test from low → PassesBetween test low end → test end ≡ false → intervals_from test end ≡ rest → intervals_from test from ≡ piece low end ++ rest
piece_first test from low end rest apart some within below all last later =
    let before : test (low - 1) ≡ false = below (low - 1) (omega arith) (omega arith) in
    intervals_from-later test from low (omega arith) (omega arith) below
    ∙ intervals_from-first test low end (omega arith) some within before all last
    ∙ rw (lt-ltb low end some) (ap (λ (later : List Interval). record { low = low; high = end } ∷ later) later)

none_behind : (test : ℕ → Bool) (low : ℕ) → low ≤ BEHIND_MAIN_FRAM → FailsBetween test low BEHIND_MAIN_FRAM → intervals_from test low ≡ []
none_behind test low h none = intervals_from-later test low BEHIND_MAIN_FRAM h (omega arith) none

pub intervals_from-holed : (test : ℕ → Bool) (from low high : ℕ) (holes : List Interval) → high ≤ BEHIND_MAIN_FRAM → Ascend holes → IsHoled test from low high holes → intervals_from test from ≡ pieces_of low high holes
intervals_from-holed test from low high [] h up holed =
    elim (cases_lt low high) [
      | inl some ↦
          piece_first test from low high [] holed.order some h holed.below
          (λ at m n. holed.above at m ∙ grind (arith, nat_tests))
          (holed.above high (omega arith) ∙ grind (arith, nat_tests))
          (none_behind test high h (λ at m n. holed.above at (omega arith) ∙ grind (arith, nat_tests)))
          ∙ append-nil (piece low high)
      | inr none ↦
          none_behind test from holed.within (λ at m n. elim (cases_lt at low) [
            | inl before ↦ holed.below at m before
            | inr behind ↦ holed.above at behind ∙ grind (arith, nat_tests)
          ])
          ∙ rw (le-ltb low high none) refl
    ]
intervals_from-holed test from low high (hole ∷ holes) h up holed =
    elim (cases_lt low (min high hole.low)) [
      | inl some ↦
          let end = min high hole.low in
          let behind = holed_behind test from low high hole holes up.0 h some holed in
          piece_first test from low end (pieces_of (max low hole.high) high holes) holed.order some (omega arith) holed.below
          (λ at m n. holed.above at m ∙ passes (in_some holes at) at high hole.low hole.high n (up.1 at (omega arith) (omega arith)))
          behind.here
          (intervals_from-holed test end (max low hole.high) high holes h up.2 behind)
      | inr none ↦
          rw (le-ltb low (min high hole.low) none) (intervals_from-holed test from (max low hole.high) high holes h up.2 (holed_without test from low high hole holes none holed))
    ]
