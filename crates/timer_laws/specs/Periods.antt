-- How long the periods of the modes are, and where in them a timer overflows.
use Rattle.std.specs.Prelude.{◌≡◌, ◌≢◌, ◌<◌, ◌≤◌, ℕ, ◌+◌, ◌-◌, ◌*◌, false}
use Rattle.chip_words.specs.Timer.{Timer}
use Rattle.timer_laws.specs.Steps.{CONTINUOUS, UP, UP_DOWN, behind_steps, first_compare, mode, overflow_count}

-- so many steps bring R and the direction back to where they are, and exactly one of them overflows, the last
pub record IsPeriod (steps : ℕ) (timer : Timer) : Type 0 where
  pub r : (behind_steps steps timer).r ≡ timer.r
  pub direction : (behind_steps steps timer).is_downward ≡ timer.is_downward
  pub none_before : (k : ℕ) → k < steps → overflow_count k timer ≡ 0
  pub one : overflow_count steps timer ≡ 1

-- behind so many periods of so many steps R and the direction are as before, and each period overflowed once
pub record AreRepeated (periods steps : ℕ) (timer : Timer) : Type 0 where
  pub r : (behind_steps (periods * steps) timer).r ≡ timer.r
  pub direction : (behind_steps (periods * steps) timer).is_downward ≡ timer.is_downward
  pub count : overflow_count (periods * steps) timer ≡ periods

-- a period comes again and again
abbrev pub PeriodsRepeat : Type 0
PeriodsRepeat = (timer : Timer) (periods steps : ℕ) → IsPeriod steps timer → AreRepeated periods steps timer

-- behind k steps R is k, as long as k isn't above this
abbrev pub CountsUpTo : ℕ → Timer → Type 0
CountsUpTo last timer = (k : ℕ) → k ≤ last → (behind_steps k timer).r ≡ k

-- from there on R falls by one a step, down to 0
abbrev pub CountsDownFrom : ℕ → Timer → Type 0
CountsDownFrom top timer = (k : ℕ) → k ≤ top → (behind_steps (top + k) timer).r ≡ top - k

-- up: from 0 to CCR0, and 0 again, in CCR0 + 1 steps
pub record IsUp (timer : Timer) : Type 0 where
  pub period : IsPeriod (first_compare timer + 1) timer
  pub upward : CountsUpTo (first_compare timer) timer

abbrev pub UpPeriods : Type 0
UpPeriods = (timer : Timer) → mode timer ≡ UP → first_compare timer ≢ 0 → timer.r ≡ 0 → IsUp timer

-- continuous: from 0 to FFFFh, and 0 again, in 65,536 steps
pub record IsContinuous (timer : Timer) : Type 0 where
  pub period : IsPeriod 0x10000 timer
  pub upward : CountsUpTo 0xFFFF timer

abbrev pub ContinuousPeriods : Type 0
ContinuousPeriods = (timer : Timer) → mode timer ≡ CONTINUOUS → timer.r ≡ 0 → IsContinuous timer

-- up/down: from 0 up to CCR0 and down to 0, in twice CCR0 steps
pub record IsUpDown (timer : Timer) : Type 0 where
  pub period : IsPeriod (2 * first_compare timer) timer
  pub upward : CountsUpTo (first_compare timer) timer
  pub downward : CountsDownFrom (first_compare timer) timer

abbrev pub UpDownPeriods : Type 0
UpDownPeriods =
    (timer : Timer) → mode timer ≡ UP_DOWN → 2 ≤ first_compare timer → timer.r ≡ 0 → timer.is_downward ≡ false →
    IsUpDown timer

-- where CCR0 is 1, up to 1, down to 0, and a third step stays at 0 and overflows
pub record IsUpDownByOne (timer : Timer) : Type 0 where
  pub period : IsPeriod 3 timer
  pub at_top : (behind_steps 1 timer).r ≡ 1
  pub at_bottom : (behind_steps 2 timer).r ≡ 0

abbrev pub UpDownPeriodsByOne : Type 0
UpDownPeriodsByOne =
    (timer : Timer) → mode timer ≡ UP_DOWN → first_compare timer ≡ 1 → timer.r ≡ 0 → timer.is_downward ≡ false →
    IsUpDownByOne timer

-- where CCR0 is 0, steps do nothing in the modes that go by it
abbrev pub ZeroCompareStandsStill : Type 0
ZeroCompareStandsStill =
    (timer : Timer) (n : ℕ) → mode timer ≢ CONTINUOUS → first_compare timer ≡ 0 → behind_steps n timer ≡ timer
