-- What steps leave as it is.
use Rattle.std.proofs.Common.{◌≡◌, ℕ, zero, suc, ◌+◌, ◌/◌, ◌%◌, Bool, true, false, List, [], ◌∷◌, length, slice_index, Option, Some, None, arith, refl, ap, ◌∙◌, if◌then◌else◌}
use Rattle.std.specs.Int.Bits.{bit_and, bit_or, or_add_and}
use Rattle.std.proofs.lemmas.Grind.{and_numeral}
use Rattle.chip_words.specs.declared.timer_steps.TimerStep.{TimerStep}
use Rattle.chip_words.specs.Timer.{Timer, TAIFG, next_step, step_by, stepped, with_bit, with_flags}
use Rattle.timer_laws.specs.Steps.{IsKept, StepsKeepTheRest, behind_steps, first_compare, mode}

-- the lowest bit is set, and no other changes
pub or_one : (word : ℕ) → (bit_or word 1 / 2 ≡ word / 2) × (bit_or word 1 % 2 ≡ 1)
or_one word =
    let bit : bit_and word 1 ≡ word % 2 = and_numeral word 0 refl in
    let sum : bit_or word 1 + bit_and word 1 ≡ word + 1 = or_add_and word 1 in
    (omega arith, omega arith)

length-with_flags : (r : ℕ) (ccr cctl : List ℕ) → length (with_flags r ccr cctl) ≡ length cctl
length-with_flags r [] cctl = refl
length-with_flags r (c ∷ ccr) [] = refl
length-with_flags r (c ∷ ccr) (x ∷ cctl) = ap suc (length-with_flags r ccr cctl)

with_taifg : (step : TimerStep) (timer : Timer) → (stepped (Some step) timer).ctl / 2 ≡ timer.ctl / 2
with_taifg step timer =
    elim step.overflows as (λ b. (if b then with_bit TAIFG timer.ctl else timer.ctl) / 2 ≡ timer.ctl / 2) [
      | true ↦ (or_one timer.ctl).0
      | false ↦ refl
    ]

step-kept : (step : Option TimerStep) (timer : Timer) → IsKept timer (stepped step timer)
step-kept None timer = record { ctl = refl; registers = refl; ccr = refl; ex0 = refl; prescaler = refl }
step-kept (Some step) timer = record {
  ctl = with_taifg step timer;
  registers = length-with_flags step.r timer.ccr timer.cctl;
  ccr = refl;
  ex0 = refl;
  prescaler = refl;
}

kept-trans : (a b c : Timer) → IsKept a b → IsKept b c → IsKept a c
kept-trans a b c first second = record {
  ctl = second.ctl ∙ first.ctl;
  registers = second.registers ∙ first.registers;
  ccr = second.ccr ∙ first.ccr;
  ex0 = second.ex0 ∙ first.ex0;
  prescaler = second.prescaler ∙ first.prescaler;
}

pub steps_keep_the_rest : StepsKeepTheRest
unfolding behind_steps
steps_keep_the_rest timer zero = step-kept None timer
steps_keep_the_rest timer (suc n) =
    kept-trans timer (behind_steps n timer) _ (steps_keep_the_rest timer n) (step-kept _ (behind_steps n timer))

pub kept_mode : (timer : Timer) (n : ℕ) → mode (behind_steps n timer) ≡ mode timer
kept_mode timer n = let kept = steps_keep_the_rest timer n in omega (arith, kept.ctl)

pub kept_compare : (timer : Timer) (n : ℕ) → first_compare (behind_steps n timer) ≡ first_compare timer
kept_compare timer n = ap (λ ccr. slice_index ccr 0) (steps_keep_the_rest timer n).ccr

-- what the next step goes by
pub next_by :
    (timer : Timer) (m ccr0 r : ℕ) (is_downward : Bool) → mode timer ≡ m → first_compare timer ≡ ccr0 →
    timer.r ≡ r → timer.is_downward ≡ is_downward → next_step timer ≡ step_by m ccr0 r is_downward
next_by timer m ccr0 r is_downward same_mode same_compare same_r same_direction =
    ap (λ x. step_by x (first_compare timer) timer.r timer.is_downward) same_mode
    ∙ ap (λ x. step_by m x timer.r timer.is_downward) same_compare
    ∙ ap (λ x. step_by m ccr0 x timer.is_downward) same_r
    ∙ ap (λ x. step_by m ccr0 r x) same_direction
