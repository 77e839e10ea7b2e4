-- Each address that is opened lies in one of the intervals.
use Rattle.std.proofs.Common.{◌≡◌, ◌<◌, ◌≤◌, ◌+◌, ◌-◌, ℕ, zero, suc, List, ◌∷◌, Bool, true, false, not, find, inl, inr, arith, refl, ap, sym, ◌∙◌, subst, if◌then◌else◌}
use Rattle.std.specs.Prelude.{All, filter, map, Some}
use Rattle.std.specs.List.{range_with_len}
use Rattle.std.proofs.lemmas.Bool.{and_from, cases_lt}
use Rattle.std.proofs.lemmas.Bool.Decides.{nat_tests}
use Rattle.chip_words.specs.declared.seals.Seal.{Seal}
use Rattle.chip_words.specs.Seals.{BEHIND_MAIN_FRAM, is_in}
use Rattle.chip_words.specs.Segments.{MAIN_FRAM}
use Rattle.ip_encap.specs.declared.intervals.Interval.{Interval}
use Rattle.ip_encap.specs.Opened.{begins, interval_from, is_left, opened, or_behind}
use Rattle.stage_laws.specs.Openings.{AgreeIn, IntervalsTellAll}

-- ---- lists of addresses

false-true : false ≡ true → ⊥
false-true e = cc

-- what holds of all that a test leaves of some numbers holds of each of them that passes
at_passing :
    (Holds : Interval → Type 0) (made : ℕ → Interval) (test : ℕ → Bool) (low n at : ℕ) →
    All Holds (map made (filter test (range_with_len low n))) → low ≤ at → at < low + n → test at ≡ true →
    Holds (made at)
at_passing Holds made test low zero at all above below passes = absurd (omega arith)
at_passing Holds made test low (suc n) at all above below passes =
    by_first (test low) refl all
    (λ rest behind. at_passing Holds made test (low + 1) n at rest (omega arith) (omega arith) passes)
  where
    more_passing : List ℕ
    more_passing = filter test (range_with_len (low + 1) n)

    by_first :
        (first : Bool) → test low ≡ first →
        All Holds (map made (if first then low ∷ more_passing else more_passing)) →
        (All Holds (map made more_passing) → low < at → Holds (made at)) → Holds (made at)
    by_first true is all more = elim (cases_lt low at) [
      | inl behind ↦ more (λ k d h. all (suc k) d (omega arith)) behind
      | inr here ↦
          let same : low ≡ at = omega arith in
          subst (λ n. Holds (made n)) same (all 0 (made low) (omega arith))
    ]
    by_first false fails all more = elim (cases_lt low at) [
      | inl behind ↦ more all behind
      | inr here ↦
          let same : low ≡ at = omega arith in
          absurd (false-true (sym fails ∙ ap test same ∙ passes))
    ]

-- an interval ends above each address up to which all pass
ends_above :
    (test : ℕ → Bool) (low n at : ℕ) → at < BEHIND_MAIN_FRAM →
    ((k : ℕ) → low ≤ k → k ≤ at → test k ≡ true) →
    at < or_behind (find (λ k. not (test k)) (range_with_len low n))
ends_above test low zero at inside all = inside
ends_above test low (suc n) at inside all =
    by_first (test low) refl (ends_above test (low + 1) n at inside (λ k above below. all k (omega arith) below))
  where
    by_first :
        (first : Bool) → test low ≡ first → at < or_behind (find (λ k. not (test k)) (range_with_len (low + 1) n)) →
        at < or_behind (if not first then Some low else find (λ k. not (test k)) (range_with_len (low + 1) n))
    by_first true passes more = more
    by_first false fails more = elim (cases_lt at low) [
      | inl behind ↦ behind
      | inr reached ↦ absurd (false-true (sym fails ∙ all low (omega arith) reached))
    ]

-- ---- where an interval begins

record Begins (test : ℕ → Bool) (from at : ℕ) : Type 0 where
  pub low : ℕ
  pub from_start : from ≤ low
  pub reaches : low ≤ at
  pub begins_here : begins test low ≡ true
  pub all : (k : ℕ) → low ≤ k → k ≤ at → test k ≡ true

begins_at : (test : ℕ → Bool) (from at : ℕ) → from ≤ at → test at ≡ true → test (at - 1) ≡ false → Begins test from at
begins_at test from at above passes before = record {
  low = at;
  from_start = above;
  reaches = omega arith;
  begins_here = and_from (test at) _ passes (ap not before);
  all = λ k low high.
      let same : k ≡ at = omega arith in
      ap test same ∙ passes;
}

run_begins :
    (test : ℕ → Bool) (from k : ℕ) → test (from - 1) ≡ false → test (from + k) ≡ true → Begins test from (from + k)
run_begins test from zero before passes =
    let same : from + 0 - 1 ≡ from - 1 = omega arith in
    begins_at test from (from + 0) (omega arith) passes (ap test same ∙ before)
run_begins test from (suc k) before passes =
    by_before (test (from + k)) refl (λ goes. run_begins test from k before goes)
  where
    by_before :
        (last : Bool) → test (from + k) ≡ last → (test (from + k) ≡ true → Begins test from (from + k)) →
        Begins test from (from + suc k)
    by_before false fails more =
        let same : from + suc k - 1 ≡ from + k = omega arith in
        begins_at test from (from + suc k) (omega arith) passes (ap test same ∙ fails)
    by_before true goes more =
        let run = more goes in
        record {
          low = run.low;
          from_start = run.from_start;
          reaches = omega (arith, run.reaches);
          begins_here = run.begins_here;
          all = λ j above below. elim (cases_lt j (from + suc k)) [
            | inl within ↦ run.all j above (omega arith)
            | inr here ↦
                let same : j ≡ from + suc k = omega arith in
                ap test same ∙ passes
          ];
        }

-- ---- the law

left_low : (before after : Seal) → is_left before after (MAIN_FRAM - 1) ≡ false
unfolding is_in
left_low before after = grind (arith, nat_tests)

in_main_low : (seal : Seal) (at : ℕ) → is_in seal at ≡ true → MAIN_FRAM ≤ at
unfolding is_in
in_main_low seal at inside = grind (arith, nat_tests)

in_main_high : (seal : Seal) (at : ℕ) → is_in seal at ≡ true → at < BEHIND_MAIN_FRAM
unfolding is_in
in_main_high seal at inside = grind (arith, nat_tests)

pub intervals_tell_all : IntervalsTellAll
unfolding opened
intervals_tell_all before after one other agree at inside outside =
    let test = is_left before after in
    let leaves : test at ≡ true = and_from (is_in before at) _ inside (ap not outside) in
    let above : MAIN_FRAM ≤ at = in_main_low before at inside in
    let below : at < BEHIND_MAIN_FRAM = in_main_high before at inside in
    let place : MAIN_FRAM + (at - MAIN_FRAM) ≡ at = omega arith in
    let run : Begins test MAIN_FRAM at =
    subst (Begins test MAIN_FRAM) place
    (run_begins test MAIN_FRAM (at - MAIN_FRAM) (left_low before after) (ap test place ∙ leaves)) in
    let agrees : AgreeIn one other (interval_from test run.low) =
    at_passing (AgreeIn one other) (interval_from test) (begins test) MAIN_FRAM (BEHIND_MAIN_FRAM - MAIN_FRAM) run.low
    agree run.from_start (omega (arith, run.reaches)) run.begins_here in
    agrees at run.reaches (ends_above test run.low (BEHIND_MAIN_FRAM - run.low) at below run.all)
