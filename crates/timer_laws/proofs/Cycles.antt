-- The periods of each mode, step by step.
use Rattle.std.proofs.Common.{◌≡◌, ◌≢◌, ◌<◌, ◌≤◌, ℕ, zero, suc, ◌+◌, ◌-◌, ◌*◌, Bool, true, false, Some, None, arith, refl, ap, sym, subst, ◌∙◌, add-one, inl, inr}
use Rattle.std.proofs.Math.Nat.{eq-or-lt_of_le}
use Rattle.std.proofs.lemmas.Bool.Decides.{nat_tests}
use Rattle.chip_words.specs.declared.timer_steps.TimerStep.{TimerStep}
use Rattle.chip_words.specs.Bits.{bit_of}
use Rattle.chip_words.specs.Timer.{Timer, next_step, step_by, stepped, to}
use Rattle.timer_laws.specs.Steps.{CONTINUOUS, UP, UP_DOWN, behind_step, behind_steps, first_compare, is_overflow, mode, overflow_count}
use Rattle.timer_laws.specs.Periods.{ContinuousPeriods, CountsDownFrom, IsPeriod, UpDownPeriods, UpDownPeriodsByOne, UpPeriods, ZeroCompareStandsStill}
use Rattle.timer_laws.proofs.Kept.{kept_compare, kept_mode, next_by}

-- behind n steps R and the direction are these, and so many of the steps overflowed
record IsAt (timer : Timer) (n at : ℕ) (downward : Bool) (overflows : ℕ) : Type 0 where
  r : (behind_steps n timer).r ≡ at
  direction : (behind_steps n timer).is_downward ≡ downward
  count : overflow_count n timer ≡ overflows

start : (timer : Timer) → IsAt timer 0 timer.r timer.is_downward 0
unfolding behind_steps overflow_count
start timer = record { r = refl; direction = refl; count = refl }

-- steps keep what the next one goes by, but for R and the direction
next :
    (timer : Timer) (n r count : ℕ) (is_downward : Bool) (step : TimerStep) → IsAt timer n r is_downward count →
    step_by (mode timer) (first_compare timer) r is_downward ≡ Some step →
    next_step (behind_steps n timer) ≡ Some step
next timer n r count is_downward step at made =
    next_by (behind_steps n timer) _ _ _ _ (kept_mode timer n) (kept_compare timer n) at.r at.direction ∙ made

step :
    (timer : Timer) (n r count : ℕ) (is_downward : Bool) (made : TimerStep) → IsAt timer n r is_downward count →
    step_by (mode timer) (first_compare timer) r is_downward ≡ Some made →
    IsAt timer (suc n) made.r made.is_downward (count + bit_of made.overflows)
unfolding behind_steps overflow_count
step timer n r count is_downward made at e =
    let next_made = next timer n r count is_downward made at e in
    record {
      r = ap (λ s. (stepped s (behind_steps n timer)).r) next_made;
      direction = ap (λ s. (stepped s (behind_steps n timer)).is_downward) next_made;
      count =
          ap (λ s. overflow_count n timer + bit_of (is_overflow s)) next_made
          ∙ ap (λ c. c + bit_of made.overflows) at.count;
    }

none_below : (timer : Timer) (n k : ℕ) → k ≤ n → overflow_count n timer ≡ 0 → overflow_count k timer ≡ 0
unfolding overflow_count
none_below timer zero zero h none = none
none_below timer zero (suc k) h none = absurd (omega arith)
none_below timer (suc n) k h none =
    elim (eq-or-lt_of_le h) as (λ _. overflow_count k timer ≡ 0) [
      | inl e ↦ subst (λ m. overflow_count m timer ≡ 0) (sym e) none
      | inr l ↦ none_below timer n k (omega arith) (omega arith)
    ]

-- a step from here overflows and leads to the start
period :
    (timer : Timer) (n r : ℕ) (is_downward : Bool) → IsAt timer n r is_downward 0 →
    step_by (mode timer) (first_compare timer) r is_downward ≡ Some (to timer.r timer.is_downward true) →
    IsPeriod (suc n) timer
period timer n r is_downward at e =
    let behind = step timer n r 0 is_downward _ at e in
    record {
      r = behind.r;
      direction = behind.direction;
      none_before = λ k h. none_below timer n k (omega arith) at.count;
      one = behind.count;
    }

at_start : (timer : Timer) → timer.r ≡ 0 → Some (to 0 timer.is_downward true) ≡ Some (to timer.r timer.is_downward true)
at_start timer zeroed = ap (λ r. Some (to r timer.is_downward true)) (sym zeroed)

-- up

up_below :
    (m ccr0 r : ℕ) (is_downward : Bool) → m ≡ UP → r < ccr0 →
    step_by m ccr0 r is_downward ≡ Some (to (suc r) is_downward false)
up_below m ccr0 r is_downward e h = grind (arith, nat_tests)

up_top :
    (m ccr0 r : ℕ) (is_downward : Bool) → m ≡ UP → ccr0 ≢ 0 → ccr0 ≤ r →
    step_by m ccr0 r is_downward ≡ Some (to 0 is_downward true)
up_top m ccr0 r is_downward e h top = grind (arith, nat_tests)

up_at :
    (timer : Timer) → mode timer ≡ UP → timer.r ≡ 0 → (k : ℕ) → k ≤ first_compare timer →
    IsAt timer k k timer.is_downward 0
up_at timer up zeroed zero h = subst (λ r. IsAt timer 0 r timer.is_downward 0) zeroed (start timer)
up_at timer up zeroed (suc k) h =
    step timer k k 0 timer.is_downward _ (up_at timer up zeroed k (omega arith)) (up_below _ _ k _ up (omega arith))

pub up_periods : UpPeriods
up_periods timer up positive zeroed =
    let top = first_compare timer in
    let here = up_at timer up zeroed top (omega arith) in
    let again = up_top _ top top _ up positive (omega arith) ∙ at_start timer zeroed in
    record {
      period = rw add-one (period timer top top timer.is_downward here again);
      upward = λ k h. (up_at timer up zeroed k h).r;
    }

-- continuous

continuous_below :
    (m ccr0 r : ℕ) (is_downward : Bool) → m ≡ CONTINUOUS → r < 0xFFFF →
    step_by m ccr0 r is_downward ≡ Some (to (suc r) is_downward false)
continuous_below m ccr0 r is_downward e h = grind (arith, nat_tests)

continuous_top :
    (m ccr0 : ℕ) (is_downward : Bool) → m ≡ CONTINUOUS →
    step_by m ccr0 0xFFFF is_downward ≡ Some (to 0 is_downward true)
continuous_top m ccr0 is_downward e = ap (λ n. step_by n ccr0 0xFFFF is_downward) e

continuous_at :
    (timer : Timer) → mode timer ≡ CONTINUOUS → timer.r ≡ 0 → (k : ℕ) → k ≤ 0xFFFF →
    IsAt timer k k timer.is_downward 0
continuous_at timer continuous zeroed zero h = subst (λ r. IsAt timer 0 r timer.is_downward 0) zeroed (start timer)
continuous_at timer continuous zeroed (suc k) h =
    let here = continuous_at timer continuous zeroed k (omega arith) in
    step timer k k 0 timer.is_downward _ here (continuous_below _ _ k _ continuous (omega arith))

pub continuous_periods : ContinuousPeriods
continuous_periods timer continuous zeroed =
    let here = continuous_at timer continuous zeroed 0xFFFF (omega arith) in
    let again = continuous_top _ _ _ continuous ∙ at_start timer zeroed in
    record {
      period = period timer 0xFFFF 0xFFFF timer.is_downward here again;
      upward = λ k h. (continuous_at timer continuous zeroed k h).r;
    }

-- up/down

rise : (m ccr0 r : ℕ) → m ≡ UP_DOWN → r < ccr0 → step_by m ccr0 r false ≡ Some (to (suc r) false false)
rise m ccr0 r e h = grind (arith, nat_tests)

turn : (m ccr0 r : ℕ) → m ≡ UP_DOWN → ccr0 ≢ 0 → ccr0 ≤ r → step_by m ccr0 r false ≡ Some (to (r - 1) true false)
turn m ccr0 r e h top = grind (arith, nat_tests)

fall : (m ccr0 r : ℕ) → m ≡ UP_DOWN → ccr0 ≢ 0 → 1 < r → step_by m ccr0 r true ≡ Some (to (r - 1) true false)
fall m ccr0 r e h above = grind (arith, nat_tests)

land : (m ccr0 r : ℕ) → m ≡ UP_DOWN → ccr0 ≢ 0 → r ≤ 1 → step_by m ccr0 r true ≡ Some (to 0 false true)
land m ccr0 r e h low = grind (arith, nat_tests)

-- a timer that goes by up/down, with R at 0 and upward
record IsAtBottom (timer : Timer) : Type 0 where
  up_down : mode timer ≡ UP_DOWN
  zeroed : timer.r ≡ 0
  upward : timer.is_downward ≡ false

rising : (timer : Timer) → IsAtBottom timer → (k : ℕ) → k ≤ first_compare timer → IsAt timer k k false 0
rising timer from zero h =
    subst (λ r. IsAt timer 0 r false 0) from.zeroed (subst (λ d. IsAt timer 0 timer.r d 0) from.upward (start timer))
rising timer from (suc k) h =
    step timer k k 0 false _ (rising timer from k (omega arith)) (rise _ _ k from.up_down (omega arith))

moved :
    (timer : Timer) (n m r at count : ℕ) (is_downward : Bool) → n ≡ m → r ≡ at →
    IsAt timer n r is_downward count → IsAt timer m at is_downward count
moved timer n m r at count is_downward same_steps same_r is =
    subst (λ x. IsAt timer x at is_downward count) same_steps (subst (λ x. IsAt timer n x is_downward count) same_r is)

-- k + 1 steps behind the top
falling :
    (timer : Timer) → IsAtBottom timer → (k : ℕ) → suc k < first_compare timer →
    IsAt timer (first_compare timer + suc k) (first_compare timer - suc k) true 0
falling timer from zero h =
    let top = first_compare timer in
    let turned = turn (mode timer) top top from.up_down (λ e. omega arith) (omega arith) in
    let here = step timer top top 0 false _ (rising timer from top (omega arith)) turned in
    moved timer (suc top) _ (top - 1) _ 0 true (omega arith) refl here
falling timer from (suc k) h =
    let top = first_compare timer in
    let lower = fall (mode timer) top (top - suc k) from.up_down (λ e. omega arith) (omega arith) in
    let here = step timer (top + suc k) (top - suc k) 0 true _ (falling timer from k (omega arith)) lower in
    moved timer (suc (top + suc k)) _ (top - suc k - 1) _ 0 true (omega arith) (omega arith) here

-- one step before the end
at_last :
    (timer : Timer) → IsAtBottom timer → 2 ≤ first_compare timer →
    IsAt timer (2 * first_compare timer - 1) 1 true 0
at_last timer from two =
    let top = first_compare timer in
    let k = top - 2 in
    moved timer (top + suc k) _ (top - suc k) _ 0 true (omega arith) (omega arith) (falling timer from k (omega arith))

landing :
    (timer : Timer) (r : ℕ) → IsAtBottom timer → 1 ≤ first_compare timer → r ≤ 1 →
    step_by (mode timer) (first_compare timer) r true ≡ Some (to timer.r timer.is_downward true)
landing timer r from positive low =
    land _ _ r from.up_down (λ e. omega arith) low
    ∙ ap (λ r. Some (to r false true)) (sym from.zeroed)
    ∙ ap (λ d. Some (to timer.r d true)) (sym from.upward)

up_down_period : (timer : Timer) → IsAtBottom timer → 2 ≤ first_compare timer → IsPeriod (2 * first_compare timer) timer
up_down_period timer from two =
    let last = 2 * first_compare timer - 1 in
    let landed = period timer last 1 true (at_last timer from two) (landing timer 1 from (omega arith) (omega arith)) in
    subst (λ n. IsPeriod n timer) (omega arith) landed

downward : (timer : Timer) → IsAtBottom timer → 2 ≤ first_compare timer → CountsDownFrom (first_compare timer) timer
downward timer from two zero h =
    let top = first_compare timer in
    let at_top = rising timer from top (omega arith) in
    (moved timer top (top + 0) top (top - 0) 0 false (omega arith) (omega arith) at_top).r
downward timer from two (suc k) h =
    let top = first_compare timer in
    elim (eq-or-lt_of_le h) as (λ _. (behind_steps (top + suc k) timer).r ≡ top - suc k) [
      | inl e ↦
          ap (λ n. (behind_steps n timer).r) (omega arith)
          ∙ (up_down_period timer from two).r
          ∙ from.zeroed
          ∙ omega arith
      | inr l ↦ (falling timer from k l).r
    ]

pub up_down_periods : UpDownPeriods
up_down_periods timer up_down two zeroed upward =
    let from : IsAtBottom timer = record { up_down = up_down; zeroed = zeroed; upward = upward } in
    record {
      period = up_down_period timer from two;
      upward = λ k h. (rising timer from k h).r;
      downward = downward timer from two;
    }

pub up_down_periods_by_one : UpDownPeriodsByOne
up_down_periods_by_one timer up_down one zeroed upward =
    let from : IsAtBottom timer = record { up_down = up_down; zeroed = zeroed; upward = upward } in
    let top : IsAt timer 1 1 false 0 = rising timer from 1 (omega arith) in
    let turned = turn (mode timer) (first_compare timer) 1 up_down (λ e. omega arith) (omega arith) in
    let bottom : IsAt timer 2 0 true 0 = step timer 1 1 0 false _ top turned in
    record {
      period = period timer 2 0 true bottom (landing timer 0 from (omega arith) (omega arith));
      at_top = top.r;
      at_bottom = bottom.r;
    }

-- CCR0 is 0

no_step : (m ccr0 r : ℕ) (is_downward : Bool) → m ≢ CONTINUOUS → ccr0 ≡ 0 → step_by m ccr0 r is_downward ≡ None
no_step m ccr0 r is_downward other none = grind (arith, nat_tests)

pub zero_compare_stands_still : ZeroCompareStandsStill
unfolding behind_steps
zero_compare_stands_still timer zero other none = refl
zero_compare_stands_still timer (suc n) other none =
    ap behind_step (zero_compare_stands_still timer n other none)
    ∙ ap (λ s. stepped s timer) (no_step _ _ _ _ other none)
