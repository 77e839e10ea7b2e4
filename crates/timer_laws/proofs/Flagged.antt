-- The flags that steps set.
use Rattle.std.proofs.Common.{◌≡◌, ◌<◌, ℕ, zero, suc, ◌+◌, ◌==◌, ◌&&◌, ◌||◌, nat_lt, Bool, true, false, List, [], ◌∷◌, length, Option, Some, None, is_some, slice_index, arith, refl, ap, sym, ◌∙◌, if◌then◌else◌}
use Rattle.std.proofs.lemmas.Bool.Decides.{nat_tests}
use Rattle.chip_words.specs.declared.timer_steps.TimerStep.{TimerStep}
use Rattle.chip_words.specs.Bits.{bit_of, has_bit}
use Rattle.chip_words.specs.Timer.{Timer, TAIFG, counts, moves, next_step, stepped, steps, timer_ticked, with_bit, with_flags}
use Rattle.timer_laws.specs.Steps.{behind_step, behind_steps, is_overflow, overflow_count}
use Rattle.timer_laws.specs.Flags.{EqualRegistersAreFlagged, OverflowsSetTaifg, TicksSetTheFlags, flagged_if}
use Rattle.timer_laws.proofs.Kept.{or_one}

with_flags-at :
    (r : ℕ) (ccr cctl : List ℕ) (n : ℕ) → n < length ccr → n < length cctl →
    slice_index (with_flags r ccr cctl) n ≡ flagged_if (slice_index ccr n == r) (slice_index cctl n)
with_flags-at r [] cctl n h k = absurd (omega arith)
with_flags-at r (c ∷ ccr) [] n h k = absurd (omega arith)
with_flags-at r (c ∷ ccr) (x ∷ cctl) zero h k = refl
with_flags-at r (c ∷ ccr) (x ∷ cctl) (suc n) h k = with_flags-at r ccr cctl n (omega arith) (omega arith)

step_flags :
    (step : Option TimerStep) (timer : Timer) (n : ℕ) → n < length timer.ccr → n < length timer.cctl →
    slice_index (stepped step timer).cctl n
    ≡ flagged_if (is_some step && slice_index timer.ccr n == (stepped step timer).r) (slice_index timer.cctl n)
step_flags None timer n h k = refl
step_flags (Some step) timer n h k = with_flags-at step.r timer.ccr timer.cctl n h k

pub equal_registers_are_flagged : EqualRegistersAreFlagged
equal_registers_are_flagged timer n h k does =
    step_flags (next_step timer) timer n h k
    ∙ ap (λ b. flagged_if (b && slice_index timer.ccr n == (behind_step timer).r) (slice_index timer.cctl n)) does

-- a step leaves the CCRs
step_flags_behind :
    (step : Option TimerStep) (timer : Timer) (n : ℕ) → n < length timer.ccr → n < length timer.cctl →
    let behind = stepped step timer in
    slice_index behind.cctl n
    ≡ flagged_if (is_some step && slice_index behind.ccr n == behind.r) (slice_index timer.cctl n)
step_flags_behind None timer n h k = refl
step_flags_behind (Some step) timer n h k = with_flags-at step.r timer.ccr timer.cctl n h k

-- a timer behind a tick that makes a step, or counts an edge, or does neither
abbrev ticked_by : Bool → Bool → Timer → Timer
ticked_by makes_step counted timer =
    if makes_step then stepped (next_step timer) (record timer { prescaler = 0 })
    else if counted then record timer { prescaler = timer.prescaler + 1 }
    else timer

tick_flags :
    (makes_step counted : Bool) (timer : Timer) (n : ℕ) → n < length timer.ccr → n < length timer.cctl →
    let moved = makes_step && is_some (next_step timer) in
    let behind = ticked_by makes_step counted timer in
    slice_index behind.cctl n ≡ flagged_if (moved && slice_index behind.ccr n == behind.r) (slice_index timer.cctl n)
tick_flags true counted timer n h k = step_flags_behind (next_step timer) (record timer { prescaler = 0 }) n h k
tick_flags false true timer n h k = refl
tick_flags false false timer n h k = refl

pub ticks_set_the_flags : TicksSetTheFlags
unfolding timer_ticked moves
ticks_set_the_flags timer n smclk aclk h k = tick_flags (steps timer smclk aclk) (counts timer smclk aclk) timer n h k

-- ---- TAIFG

or_false : (a : Bool) → (a || false) ≡ a
or_false true = refl
or_false false = refl

step_taifg :
    (step : Option TimerStep) (timer : Timer) →
    has_bit (stepped step timer).ctl TAIFG ≡ (has_bit timer.ctl TAIFG || is_overflow step)
step_taifg None timer = sym (or_false (has_bit timer.ctl TAIFG))
step_taifg (Some step) timer =
    let had = has_bit timer.ctl TAIFG in
    elim step.overflows as (λ b. has_bit (if b then with_bit TAIFG timer.ctl else timer.ctl) TAIFG ≡ (had || b)) [
      | true ↦ grind (arith, nat_tests, or_one timer.ctl)
      | false ↦ sym (or_false (has_bit timer.ctl TAIFG))
    ]

joined : (a b : Bool) (n : ℕ) → ((a || nat_lt 0 n) || b) ≡ (a || nat_lt 0 (n + bit_of b))
joined true b n = refl
joined false true n = grind (arith, nat_tests)
joined false false n = grind (arith, nat_tests)

pub overflows_set_taifg : OverflowsSetTaifg
unfolding behind_steps overflow_count
overflows_set_taifg timer zero = sym (or_false (has_bit timer.ctl TAIFG))
overflows_set_taifg timer (suc n) =
    step_taifg (next_step (behind_steps n timer)) (behind_steps n timer)
    ∙ ap (λ b. b || is_overflow (next_step (behind_steps n timer))) (overflows_set_taifg timer n)
    ∙ joined (has_bit timer.ctl TAIFG) (is_overflow (next_step (behind_steps n timer))) (overflow_count n timer)
