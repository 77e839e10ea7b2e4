-- A timer behind steps, and what they leave.
use Rattle.std.specs.Prelude.{◌≡◌, ℕ, zero, suc, ◌+◌, ◌/◌, Bool, false, length, slice_index, Option, Some, None}
use Rattle.chip_words.specs.declared.timer_steps.TimerStep.{TimerStep}
use Rattle.chip_words.specs.Bits.{bit_of}
use Rattle.chip_words.specs.Timer.{Timer, MC, field_at, next_step, stepped}

-- The modes.

abbrev pub STOPPED : ℕ
STOPPED = 0

abbrev pub UP : ℕ
UP = 1

abbrev pub CONTINUOUS : ℕ
CONTINUOUS = 2

abbrev pub UP_DOWN : ℕ
UP_DOWN = 3

abbrev pub mode : Timer → ℕ
mode timer = field_at MC timer.ctl

-- CCR0, by which up and up/down go
abbrev pub first_compare : Timer → ℕ
first_compare timer = slice_index timer.ccr 0

-- a timer behind a step, which may do nothing
abbrev pub behind_step : Timer → Timer
behind_step timer = stepped (next_step timer) timer

-- a timer behind so many steps
unfoldable pub behind_steps : ℕ → Timer → Timer
behind_steps zero timer = timer
behind_steps (suc n) timer = behind_step (behind_steps n timer)

-- what a step makes sets TAIFG: it overflows
abbrev pub is_overflow : Option TimerStep → Bool
is_overflow (Some step) = step.overflows
is_overflow None = false

-- the next step overflows
abbrev pub overflows_next : Timer → Bool
overflows_next timer = is_overflow (next_step timer)

-- how many of so many steps overflow
unfoldable pub overflow_count : ℕ → Timer → ℕ
overflow_count zero timer = 0
overflow_count (suc n) timer = overflow_count n timer + bit_of (overflows_next (behind_steps n timer))

-- CTL is the same but for its lowest bit, TAIFG, and so are CCRs, EX0, the prescaler and how many CCTLs there are
pub record IsKept (before after : Timer) : Type 0 where
  pub ctl : after.ctl / 2 ≡ before.ctl / 2
  pub registers : length after.cctl ≡ length before.cctl
  pub ccr : after.ccr ≡ before.ccr
  pub ex0 : after.ex0 ≡ before.ex0
  pub prescaler : after.prescaler ≡ before.prescaler

-- steps change R, the direction, TAIFG and CCTLs alone
abbrev pub StepsKeepTheRest : Type 0
StepsKeepTheRest = (timer : Timer) (n : ℕ) → IsKept timer (behind_steps n timer)
