-- What follows a period is what followed its start.
use Rattle.std.proofs.Common.{◌≡◌, ℕ, zero, suc, ◌+◌, ◌*◌, Option, Some, None, arith, refl, ap, sym, ◌∙◌}
use Rattle.chip_words.specs.declared.timer_steps.TimerStep.{TimerStep}
use Rattle.chip_words.specs.Bits.{bit_of}
use Rattle.chip_words.specs.Timer.{Timer, next_step, stepped}
use Rattle.timer_laws.specs.Steps.{behind_step, behind_steps, first_compare, is_overflow, mode, overflow_count}
use Rattle.timer_laws.specs.Periods.{PeriodsRepeat}
use Rattle.timer_laws.proofs.Kept.{kept_compare, kept_mode, next_by}

-- two timers agree in all that steps go by
record AreAlike (a b : Timer) : Type 0 where
  mode : mode a ≡ mode b
  compare : first_compare a ≡ first_compare b
  r : a.r ≡ b.r
  direction : a.is_downward ≡ b.is_downward

next_alike : (a b : Timer) → AreAlike a b → next_step a ≡ next_step b
next_alike a b alike = next_by a _ _ _ _ alike.mode alike.compare alike.r alike.direction

same_r : (step : Option TimerStep) (a b : Timer) → a.r ≡ b.r → (stepped step a).r ≡ (stepped step b).r
same_r None a b same = same
same_r (Some step) a b same = refl

same_direction :
    (step : Option TimerStep) (a b : Timer) → a.is_downward ≡ b.is_downward →
    (stepped step a).is_downward ≡ (stepped step b).is_downward
same_direction None a b same = same
same_direction (Some step) a b same = refl

steps_alike : (n : ℕ) (a b : Timer) → AreAlike a b → AreAlike (behind_steps n a) (behind_steps n b)
unfolding behind_steps
steps_alike zero a b alike = alike
steps_alike (suc n) a b alike =
    let before : AreAlike (behind_steps n a) (behind_steps n b) = steps_alike n a b alike in
    let next = next_alike (behind_steps n a) (behind_steps n b) before in
    record {
      mode = kept_mode a (suc n) ∙ alike.mode ∙ sym (kept_mode b (suc n));
      compare = kept_compare a (suc n) ∙ alike.compare ∙ sym (kept_compare b (suc n));
      r =
          ap (λ s. (stepped s (behind_steps n a)).r) next
          ∙ same_r (next_step (behind_steps n b)) (behind_steps n a) (behind_steps n b) before.r;
      direction =
          ap (λ s. (stepped s (behind_steps n a)).is_downward) next
          ∙ same_direction (next_step (behind_steps n b)) (behind_steps n a) (behind_steps n b) before.direction;
    }

counts_alike : (n : ℕ) (a b : Timer) → AreAlike a b → overflow_count n a ≡ overflow_count n b
unfolding overflow_count
counts_alike zero a b alike = refl
counts_alike (suc n) a b alike =
    let next = next_alike (behind_steps n a) (behind_steps n b) (steps_alike n a b alike) in
    ap (λ c. c + bit_of (is_overflow (next_step (behind_steps n a)))) (counts_alike n a b alike)
    ∙ ap (λ s. overflow_count n b + bit_of (is_overflow s)) next

-- steps behind steps
steps-more : (n m : ℕ) (timer : Timer) → behind_steps (n + m) timer ≡ behind_steps n (behind_steps m timer)
unfolding behind_steps
steps-more zero m timer = let sum : 0 + m ≡ m = omega arith in ap (λ k. behind_steps k timer) sum
steps-more (suc n) m timer =
    let sum : suc n + m ≡ suc (n + m) = omega arith in
    ap (λ k. behind_steps k timer) sum ∙ ap behind_step (steps-more n m timer)

counts-more :
    (n m : ℕ) (timer : Timer) →
    overflow_count (n + m) timer ≡ overflow_count m timer + overflow_count n (behind_steps m timer)
unfolding overflow_count
counts-more zero m timer =
    let sum : 0 + m ≡ m = omega arith in
    ap (λ k. overflow_count k timer) sum ∙ omega arith
counts-more (suc n) m timer =
    let sum : suc n + m ≡ suc (n + m) = omega arith in
    let before = counts-more n m timer in
    ap (λ k. overflow_count k timer) sum
    ∙ ap (λ t. overflow_count (n + m) timer + bit_of (is_overflow (next_step t))) (steps-more n m timer)
    ∙ omega arith

pub periods_repeat : PeriodsRepeat
unfolding behind_steps overflow_count
periods_repeat timer zero steps period =
    let none : 0 * steps ≡ 0 = omega arith in
    record {
      r = ap (λ k. (behind_steps k timer).r) none;
      direction = ap (λ k. (behind_steps k timer).is_downward) none;
      count = ap (λ k. overflow_count k timer) none;
    }
periods_repeat timer (suc m) steps period =
    let sum : suc m * steps ≡ m * steps + steps = omega arith in
    let alike : AreAlike (behind_steps steps timer) timer = record {
      mode = kept_mode timer steps;
      compare = kept_compare timer steps;
      r = period.r;
      direction = period.direction;
    } in
    let rest = periods_repeat timer m steps period in
    let behind = steps_alike (m * steps) _ _ alike in
    let state = ap (λ k. behind_steps k timer) sum ∙ steps-more (m * steps) steps timer in
    let total = ap (λ k. overflow_count k timer) sum ∙ counts-more (m * steps) steps timer in
    let later = counts_alike (m * steps) _ _ alike in
    record {
      r = ap (λ t. t.r) state ∙ behind.r ∙ rest.r;
      direction = ap (λ t. t.is_downward) state ∙ behind.direction ∙ rest.direction;
      count = omega (arith, total, later, rest.count, period.one);
    }
