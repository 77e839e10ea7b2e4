-- One of the timers TA0, TA1 and TB0 (SLAU367, Timer_A and Timer_B). They are alike but for the number of their compare
-- registers, which is the length of the two lists here.
use Rattle.std.specs.Prelude.{ℕ, ◌+◌, ◌-◌, ◌*◌, ◌/◌, ◌%◌, ◌^◌, ◌==◌, ◌&&◌, ◌||◌, not, nat_le, nat_lt, Bool, true, false, if◌then◌else◌, List, [], ◌∷◌, length, replicate, drop, Option, Some, None, is_some, slice_index, slice_set, bit_and, bit_or}
use Rattle.chip_words.specs.declared.sizes.Size.{Size}
use Rattle.chip_words.specs.declared.timer_steps.TimerStep.{TimerStep}
use Rattle.chip_words.specs.Addresses.{register_address}
use Rattle.chip_words.specs.Bits.{has_bit, with_part}

pub record Timer : Type 0 where
  -- CTL without CLR, which reads 0
  pub ctl : ℕ
  -- CCTL0 onward
  pub cctl : List ℕ
  -- R, to which the timer has counted
  pub r : ℕ
  -- CCR0 onward
  pub ccr : List ℕ
  pub ex0 : ℕ
  -- the clock edges since the last step
  pub prescaler : ℕ
  -- the direction of up/down
  pub is_downward : Bool

-- a timer with so many compare registers; every reset gives this too
unfoldable pub first_timer : ℕ → Timer
first_timer registers = record {
  ctl = 0;
  cctl = replicate registers 0;
  r = 0;
  ccr = replicate registers 0;
  ex0 = 0;
  prescaler = 0;
  is_downward = false;
}

-- The distances of the registers from the timer's first address.

abbrev pub CTL : ℕ
CTL = 0x00

abbrev pub CCTL0 : ℕ
CCTL0 = 0x02

abbrev pub R : ℕ
R = 0x10

abbrev pub CCR0 : ℕ
CCR0 = 0x12

abbrev pub EX0 : ℕ
EX0 = 0x20

abbrev pub IV : ℕ
IV = 0x2E

-- The bits of CTL that stand alone, and where its fields of two bits begin. In TB0 their names begin with TB.

abbrev pub TAIFG : ℕ
TAIFG = 0

abbrev pub TAIE : ℕ
TAIE = 1

abbrev pub TACLR : ℕ
TACLR = 2

abbrev pub MC : ℕ
MC = 4

abbrev pub ID : ℕ
ID = 6

abbrev pub TASSEL : ℕ
TASSEL = 8

-- the bits of CTL that are kept: TASSEL, ID, MC, TAIE and TAIFG
abbrev pub kept_of_ctl : ℕ
kept_of_ctl = 0x03F3

-- bits of a CCTL

abbrev pub CCIFG : ℕ
CCIFG = 0

abbrev pub CCIE : ℕ
CCIE = 4

-- a field of two bits
abbrev pub field_at : ℕ → ℕ → ℕ
field_at place word = word / 2 ^ place % 4

abbrev pub with_bit : ℕ → ℕ → ℕ
with_bit place word = bit_or word (2 ^ place)

abbrev pub without_bit : ℕ → ℕ → ℕ
without_bit place word = bit_and word (0xFFFF - 2 ^ place)

-- a flag is set, and so is the bit that lets it ask for an interrupt
abbrev pub is_enabled : ℕ → ℕ → ℕ → Bool
is_enabled enable flag word = has_bit word enable && has_bit word flag

-- Interrupts.

abbrev pub is_compare_waiting : ℕ → Bool
is_compare_waiting cctl = is_enabled CCIE CCIFG cctl

abbrev pub is_overflow_waiting : Timer → Bool
is_overflow_waiting timer = is_enabled TAIE TAIFG timer.ctl

-- CCTL0 has an interrupt of its own
abbrev pub is_first_waiting : Timer → Bool
is_first_waiting timer = is_compare_waiting (slice_index timer.cctl 0)

-- the least number of a CCTL that waits, where the list begins with this number
abbrev pub least_waiting : ℕ → List ℕ → Option ℕ
least_waiting n [] = None
least_waiting n (cctl ∷ more) = if is_compare_waiting cctl then Some n else least_waiting (n + 1) more

-- the least of CCTL1 onward that waits
abbrev pub waiting_number : Timer → Option ℕ
waiting_number timer = least_waiting 1 (drop 1 timer.cctl)

-- IV: 2 for CCTL1, 4 for CCTL2 and so on; behind them all, for the overflow
abbrev pub OVERFLOW_NUMBER : ℕ
OVERFLOW_NUMBER = 0x0E

abbrev pub iv_of : Option ℕ → Bool → ℕ
iv_of (Some n) overflow = 2 * n
iv_of None overflow = if overflow then OVERFLOW_NUMBER else 0

abbrev pub timer_iv : Timer → ℕ
timer_iv timer = iv_of (waiting_number timer) (is_overflow_waiting timer)

-- IV isn't 0
abbrev pub is_timer_waiting : Timer → Bool
is_timer_waiting timer = is_some (waiting_number timer) || is_overflow_waiting timer

-- the CCTLs without the flag of one
abbrev pub without_flag : ℕ → List ℕ → List ℕ
without_flag n cctl = slice_set cctl n (without_bit CCIFG (slice_index cctl n))

-- the flag that IV tells is cleared
abbrev pub told_by : Option ℕ → Timer → Timer
told_by (Some n) timer = record timer { cctl = without_flag n timer.cctl }
told_by None timer = record timer {
  ctl = (if is_overflow_waiting timer then without_bit TAIFG timer.ctl else timer.ctl);
}

-- the entry into the interrupt of CCTL0 clears its flag
unfoldable pub timer_entered : Timer → Timer
timer_entered timer = record timer { cctl = without_flag 0 timer.cctl }

-- Registers.

-- whether a distance is that of one of a list's registers, of which the first has this distance
abbrev pub is_among : ℕ → List ℕ → ℕ → Bool
is_among first registers at = nat_le first at && nat_lt at (first + 2 * length registers)

-- and which of them
abbrev pub number_from : ℕ → ℕ → ℕ
number_from first at = (at - first) / 2

-- the word of the register at an even distance
unfoldable pub timer_word : Timer → ℕ → ℕ
timer_word timer at =
    if at == CTL then timer.ctl
    else if at == R then timer.r
    else if at == EX0 then timer.ex0
    else if at == IV then timer_iv timer
    else if is_among CCTL0 timer.cctl at then slice_index timer.cctl (number_from CCTL0 at)
    else if is_among CCR0 timer.ccr at then slice_index timer.ccr (number_from CCR0 at)
    else 0

-- an access to IV clears the flag that it tells
unfoldable pub timer_touched : Timer → ℕ → Timer
timer_touched timer at = if at == IV then told_by (waiting_number timer) timer else timer

-- the registers of a list behind a write of one
abbrev pub list_written : ℕ → List ℕ → ℕ → ℕ → List ℕ
list_written first registers at word =
    if is_among first registers at then slice_set registers (number_from first at) word else registers

-- the write holds a 1 for CLR
abbrev pub is_cleared : ℕ → ℕ → Bool
is_cleared at word = at == CTL && has_bit word TACLR

-- a timer behind a write of another register than IV; CLR makes R and the prescaler 0, and the direction upward
unfoldable pub with_timer_word : Timer → ℕ → ℕ → Timer
with_timer_word timer at word = record {
  ctl = (if at == CTL then bit_and word kept_of_ctl else timer.ctl);
  cctl = list_written CCTL0 timer.cctl at word;
  r = (if is_cleared at word then 0 else if at == R then word else timer.r);
  ccr = list_written CCR0 timer.ccr at word;
  ex0 = (if at == EX0 then word % 8 else timer.ex0);
  prescaler = (if is_cleared at word then 0 else timer.prescaler);
  is_downward = (if is_cleared at word then false else timer.is_downward);
}

-- a timer behind a write at a distance; a write to IV does what a read does
unfoldable pub timer_written : Timer → ℕ → Size → ℕ → Timer
timer_written timer at size value =
    if register_address at == IV then timer_touched timer (register_address at)
    else with_timer_word timer (register_address at) (with_part size at (timer_word timer (register_address at)) value)

-- Edges and steps.

-- TASSEL chooses ACLK by 1 and SMCLK by 2; 0 and 3 are pins of the part, which give no edges here
abbrev pub edge_by : ℕ → Bool → Bool → Bool
edge_by select smclk aclk = if select == 1 then aclk else select == 2 && smclk

-- so many edges make a step
abbrev pub divisor : Timer → ℕ
divisor timer = 2 ^ field_at ID timer.ctl * (timer.ex0 + 1)

-- the timer isn't stopped, and its clock has an edge
abbrev pub counts : Timer → Bool → Bool → Bool
counts timer smclk aclk = not (field_at MC timer.ctl == 0) && edge_by (field_at TASSEL timer.ctl) smclk aclk

-- the edge is the last of those that make a step
abbrev pub steps : Timer → Bool → Bool → Bool
steps timer smclk aclk = counts timer smclk aclk && nat_le (divisor timer) (timer.prescaler + 1)

-- a step makes R this, and the direction, and sets TAIFG or doesn't
abbrev pub to : ℕ → Bool → Bool → TimerStep
to r is_downward overflows = record { r = r; is_downward = is_downward; overflows = overflows }

-- up to CCR0, and then from 0 again
abbrev pub up_step : ℕ → ℕ → Bool → TimerStep
up_step ccr0 r is_downward = if nat_le ccr0 r then to 0 is_downward true else to (r + 1) is_downward false

-- up to FFFFh, and then from 0 again
abbrev pub continuous_step : ℕ → Bool → TimerStep
continuous_step r is_downward = if r == 0xFFFF then to 0 is_downward true else to (r + 1) is_downward false

-- up to CCR0, then down to 0, and so on
abbrev pub up_down_step : ℕ → ℕ → Bool → TimerStep
up_down_step ccr0 r true = if nat_le r 1 then to 0 false true else to (r - 1) true false
up_down_step ccr0 r false = if nat_le ccr0 r then to (r - 1) true false else to (r + 1) false false

-- the step of a mode: up and up/down do nothing where CCR0 is 0
abbrev pub step_by : ℕ → ℕ → ℕ → Bool → Option TimerStep
step_by mode ccr0 r is_downward =
    if mode == 1 then (if ccr0 == 0 then None else Some (up_step ccr0 r is_downward))
    else if mode == 2 then Some (continuous_step r is_downward)
    else if mode == 3 then (if ccr0 == 0 then None else Some (up_down_step ccr0 r is_downward))
    else None

abbrev pub next_step : Timer → Option TimerStep
next_step timer = step_by (field_at MC timer.ctl) (slice_index timer.ccr 0) timer.r timer.is_downward

-- the CCTLs with the flags of those whose CCR is equal to R
abbrev pub with_flags : ℕ → List ℕ → List ℕ → List ℕ
with_flags r [] cctl = cctl
with_flags r (ccr ∷ ccrs) [] = []
with_flags r (ccr ∷ ccrs) (cctl ∷ cctls) = (if ccr == r then with_bit CCIFG cctl else cctl) ∷ with_flags r ccrs cctls

-- a timer behind what a step made, if it did something
abbrev pub stepped : Option TimerStep → Timer → Timer
stepped (Some step) timer = record timer {
  ctl = (if step.overflows then with_bit TAIFG timer.ctl else timer.ctl);
  cctl = with_flags step.r timer.ccr timer.cctl;
  r = step.r;
  is_downward = step.is_downward;
}
stepped None timer = timer

-- a timer behind the clock edges of a tick, each of which is there or isn't
unfoldable pub timer_ticked : Timer → Bool → Bool → Timer
timer_ticked timer smclk aclk =
    if steps timer smclk aclk then stepped (next_step timer) (record timer { prescaler = 0 })
    else if counts timer smclk aclk then record timer { prescaler = timer.prescaler + 1 }
    else timer

-- the edges make a step that does something
unfoldable pub moves : Timer → Bool → Bool → Bool
moves timer smclk aclk = steps timer smclk aclk && is_some (next_step timer)

-- R is equal to the CCR of a number
abbrev pub is_at : ℕ → Timer → Bool
is_at n timer = slice_index timer.ccr n == timer.r

-- the edges make a step that sets the flag of a number, set before or not
abbrev pub sets_flag : ℕ → Timer → Bool → Bool → Bool
sets_flag n timer smclk aclk = moves timer smclk aclk && is_at n (timer_ticked timer smclk aclk)
