-- How many steps the edges of a timer's clock make.
use Rattle.std.specs.Prelude.{◌≡◌, ◌≢◌, ◌<◌, ◌≤◌, ℕ, ◌+◌, ◌/◌, ◌%◌, Bool, true, false, List, [], ◌∷◌, count_by}
use Rattle.chip_words.specs.Timer.{Timer, TASSEL, divisor, field_at, moves, timer_ticked}
use Rattle.timer_laws.specs.Steps.{STOPPED, behind_steps, mode}

-- TASSEL, which chooses the clock
abbrev pub clock : Timer → ℕ
clock timer = field_at TASSEL timer.ctl

abbrev pub ACLK : ℕ
ACLK = 1

abbrev pub SMCLK : ℕ
SMCLK = 2

-- the clock edges of a tick, each of which is there or isn't
pub record Edges : Type 0 where
  pub smclk : Bool
  pub aclk : Bool

-- a timer behind ticks with these edges
unfoldable pub behind_ticks : List Edges → Timer → Timer
behind_ticks [] timer = timer
behind_ticks (edges ∷ more) timer = behind_ticks more (timer_ticked timer edges.smclk edges.aclk)

-- how many of these ticks have an edge of ACLK
abbrev pub aclk_edges : List Edges → ℕ
aclk_edges ticks = count_by (λ edges. edges.aclk) ticks

-- and how many one of SMCLK
abbrev pub smclk_edges : List Edges → ℕ
smclk_edges ticks = count_by (λ edges. edges.smclk) ticks

-- a timer behind so many edges of its clock, by steps: each divisor of them makes one, and the prescaler keeps the rest
abbrev pub by_edges : ℕ → Timer → Timer
by_edges n timer = record (behind_steps (n / divisor timer) timer) { prescaler = n % divisor timer }

-- a divisor is from 1 to 64, so a prescaler of 0 is below it
abbrev pub DivisorsAreSmall : Type 0
DivisorsAreSmall = (timer : Timer) → timer.ex0 < 8 → (1 ≤ divisor timer) × (divisor timer ≤ 64)

-- behind these ticks a timer is as the edges of its clock make it, whatever edges of the other come between them; those
-- that the prescaler held before count with them
pub record IsByEdges (timer : Timer) (ticks : List Edges) : Type 0 where
  pub aclk : clock timer ≡ ACLK → behind_ticks ticks timer ≡ by_edges (timer.prescaler + aclk_edges ticks) timer
  pub smclk : clock timer ≡ SMCLK → behind_ticks ticks timer ≡ by_edges (timer.prescaler + smclk_edges ticks) timer

-- n edges of its clock do to a timer that isn't stopped what n / divisor steps do, with n % divisor in the prescaler
abbrev pub EdgesMakeSteps : Type 0
EdgesMakeSteps =
    (timer : Timer) (ticks : List Edges) → mode timer ≢ STOPPED → timer.prescaler < divisor timer →
    IsByEdges timer ticks

-- a timer behind an edge that makes a step
abbrev pub by_step : Timer → Timer
by_step timer = record (behind_steps 1 timer) { prescaler = 0 }

-- each edge of its clock makes a step
pub record StepsAtNextEdge (timer : Timer) : Type 0 where
  pub aclk : clock timer ≡ ACLK → (smclk : Bool) → timer_ticked timer smclk true ≡ by_step timer
  pub smclk : clock timer ≡ SMCLK → (aclk : Bool) → timer_ticked timer true aclk ≡ by_step timer

-- where the prescaler holds as many edges as make a step but for one, or more, since the divisor was made smaller, the
-- next edge makes one
abbrev pub HeldEdgesMakeAStep : Type 0
HeldEdgesMakeAStep =
    (timer : Timer) → mode timer ≢ STOPPED → divisor timer ≤ timer.prescaler + 1 → StepsAtNextEdge timer

-- a tick leaves a timer as it is, and makes no step of it
pub record IsIdle (timer : Timer) (smclk aclk : Bool) : Type 0 where
  pub unchanged : timer_ticked timer smclk aclk ≡ timer
  pub no_step : moves timer smclk aclk ≡ false

-- every tick where the timer is stopped
abbrev pub StoppedIsIdle : Type 0
StoppedIsIdle = (timer : Timer) (smclk aclk : Bool) → mode timer ≡ STOPPED → IsIdle timer smclk aclk

-- every tick where its clock is a pin of the part
abbrev pub PinIsIdle : Type 0
PinIsIdle = (timer : Timer) (smclk aclk : Bool) → clock timer ≢ ACLK → clock timer ≢ SMCLK → IsIdle timer smclk aclk

-- a tick without an edge of its clock, whatever the other does
pub record AwaitsItsClock (timer : Timer) : Type 0 where
  pub aclk : clock timer ≡ ACLK → (smclk : Bool) → IsIdle timer smclk false
  pub smclk : clock timer ≡ SMCLK → (aclk : Bool) → IsIdle timer false aclk

abbrev pub OtherClockIsIdle : Type 0
OtherClockIsIdle = (timer : Timer) → AwaitsItsClock timer
