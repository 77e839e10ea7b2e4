-- Which flags a step sets.
use Rattle.std.specs.Prelude.{◌≡◌, ◌<◌, ℕ, ◌==◌, ◌||◌, nat_lt, Bool, true, if◌then◌else◌, length, slice_index, is_some}
use Rattle.chip_words.specs.Bits.{has_bit}
use Rattle.chip_words.specs.Timer.{Timer, CCIFG, TAIFG, next_step, sets_flag, timer_ticked, with_bit}
use Rattle.timer_laws.specs.Steps.{behind_step, behind_steps, overflow_count}

-- a CCTL with its flag, where this is so
abbrev pub flagged_if : Bool → ℕ → ℕ
flagged_if sets cctl = if sets then with_bit CCIFG cctl else cctl

-- behind a step that does something each CCTL whose CCR is equal to R has its flag besides, and no other is changed
abbrev pub EqualRegistersAreFlagged : Type 0
EqualRegistersAreFlagged =
    (timer : Timer) (n : ℕ) → n < length timer.ccr → n < length timer.cctl →
    is_some (next_step timer) ≡ true →
    slice_index (behind_step timer).cctl n
    ≡ flagged_if (slice_index timer.ccr n == (behind_step timer).r) (slice_index timer.cctl n)

-- a tick sets the flags that `sets_flag` tells, and changes no CCTL else
abbrev pub TicksSetTheFlags : Type 0
TicksSetTheFlags =
    (timer : Timer) (n : ℕ) (smclk aclk : Bool) → n < length timer.ccr → n < length timer.cctl →
    slice_index (timer_ticked timer smclk aclk).cctl n
    ≡ flagged_if (sets_flag n timer smclk aclk) (slice_index timer.cctl n)

-- behind steps TAIFG is set where it was before, or where one of them overflows
abbrev pub OverflowsSetTaifg : Type 0
OverflowsSetTaifg =
    (timer : Timer) (n : ℕ) →
    has_bit (behind_steps n timer).ctl TAIFG ≡ (has_bit timer.ctl TAIFG || nat_lt 0 (overflow_count n timer))
