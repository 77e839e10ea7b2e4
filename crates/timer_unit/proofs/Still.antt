-- A tick of which no edge is counted leaves the timers as they are, and sets nothing off.
use Rattle.std.proofs.Common.{◌≡◌, ℕ, Bool, true, false, ◌||◌, not, refl, arith}
use Rattle.chip_words.specs.declared.fired.Fired.{Fired}
use Rattle.chip_words.specs.Timer.{Timer, counts, moves, timer_ticked}
use Rattle.chip_words.specs.Timers.{Timers, fired, timers_ticked, triggers_from}
use Rattle.chip_words.specs.Bits.{has_bit}
use Rattle.chip_words.specs.Watchdog.{WDTHOLD, Watchdog, counts as watchdog_counts, watchdog_ticked}
use Rattle.timer_unit.specs.Edges.{is_stopped, some_counts, some_runs}

-- neither of two
neither : (a b : Bool) → (a || b) ≡ false → (a ≡ false) × (b ≡ false)
neither false b h = (refl, h)
neither true b h = grind (arith, h)

record IsStill (timers : Timers) (smclk aclk : Bool) : Type 0 where
  watchdog : watchdog_counts timers.watchdog smclk aclk ≡ false
  ta0 : counts timers.ta0 smclk aclk ≡ false
  ta1 : counts timers.ta1 smclk aclk ≡ false
  tb0 : counts timers.tb0 smclk aclk ≡ false

still : (timers : Timers) (smclk aclk : Bool) → some_counts timers smclk aclk ≡ false → IsStill timers smclk aclk
still timers smclk aclk none =
    let (rest, tb0) = neither _ _ none in
    let (rest, ta1) = neither _ _ rest in
    let (watchdog, ta0) = neither _ _ rest in
    record { watchdog = watchdog; ta0 = ta0; ta1 = ta1; tb0 = tb0 }

timer_stays : (timer : Timer) (smclk aclk : Bool) → counts timer smclk aclk ≡ false → timer_ticked timer smclk aclk ≡ timer
unfolding timer_ticked
timer_stays timer smclk aclk none = rw none refl

triggers_nothing : (number : ℕ) (timer : Timer) (smclk aclk : Bool) → counts timer smclk aclk ≡ false → triggers_from number timer smclk aclk ≡ 0
unfolding moves
triggers_nothing number timer smclk aclk none = rw none refl

pub still_stays : (timers : Timers) (smclk aclk : Bool) → some_counts timers smclk aclk ≡ false → timers_ticked timers smclk aclk ≡ timers
unfolding timers_ticked watchdog_ticked
still_stays timers smclk aclk none =
    let is = still timers smclk aclk none in
    rw (
      is.watchdog,
      timer_stays timers.ta0 smclk aclk is.ta0,
      timer_stays timers.ta1 smclk aclk is.ta1,
      timer_stays timers.tb0 smclk aclk is.tb0,
    ) refl

abbrev pub nothing_fired : Fired
nothing_fired = record { interval = false; reset = false; triggers = 0 }

pub still_fires_nothing : (timers : Timers) (smclk aclk : Bool) → some_counts timers smclk aclk ≡ false → fired timers smclk aclk ≡ nothing_fired
unfolding fired
still_fires_nothing timers smclk aclk none =
    let is = still timers smclk aclk none in
    rw (
      is.watchdog,
      triggers_nothing _ timers.ta0 smclk aclk is.ta0,
      triggers_nothing _ timers.ta1 smclk aclk is.ta1,
      triggers_nothing _ timers.tb0 smclk aclk is.tb0,
    ) refl

-- where nothing runs, nothing counts
pub nothing_runs : (timers : Timers) (smclk aclk : Bool) → some_runs timers ≡ false → some_counts timers smclk aclk ≡ false
nothing_runs timers smclk aclk none =
    let held = not (has_bit (timers.watchdog).wdtctl WDTHOLD) in
    let first = not (is_stopped timers.ta0) in
    let second = not (is_stopped timers.ta1) in
    let third = not (is_stopped timers.tb0) in
    let (rest, no_third) = neither (held || first || second) third none in
    let (rest, no_second) = neither (held || first) second rest in
    let (no_watchdog, no_first) = neither held first rest in
    rw (no_watchdog, no_first, no_second, no_third) refl

-- what counts no edge where both clocks have one counts none elsewhere

no_timer : (timer : Timer) (smclk aclk : Bool) → counts timer true true ≡ false → counts timer smclk aclk ≡ false
no_timer timer true true none = none
no_timer timer true false none = grind (arith, none)
no_timer timer false true none = grind (arith, none)
no_timer timer false false none = grind (arith, none)

no_watchdog : (watchdog : Watchdog) (smclk aclk : Bool) → watchdog_counts watchdog true true ≡ false → watchdog_counts watchdog smclk aclk ≡ false
no_watchdog watchdog true true none = none
no_watchdog watchdog true false none = grind (arith, none)
no_watchdog watchdog false true none = grind (arith, none)
no_watchdog watchdog false false none = grind (arith, none)

pub counts_never : (timers : Timers) (smclk aclk : Bool) → some_counts timers true true ≡ false → some_counts timers smclk aclk ≡ false
counts_never timers smclk aclk none =
    let is = still timers true true none in
    rw (
      no_watchdog timers.watchdog smclk aclk is.watchdog,
      no_timer timers.ta0 smclk aclk is.ta0,
      no_timer timers.ta1 smclk aclk is.ta1,
      no_timer timers.tb0 smclk aclk is.tb0,
    ) refl
