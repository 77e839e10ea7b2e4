-- Which clock edges of a tick are counted.
use Rattle.std.specs.Prelude.{Bool, ◌||◌, ◌==◌, not}
use Rattle.chip_words.specs.Bits.{has_bit}
use Rattle.chip_words.specs.Timer.{MC, Timer, counts, field_at}
use Rattle.chip_words.specs.Timers.{Timers}
use Rattle.chip_words.specs.Watchdog.{WDTHOLD, counts as watchdog_counts}

-- the watchdog or a timer counts one
abbrev pub some_counts : Timers → Bool → Bool → Bool
some_counts timers smclk aclk =
    watchdog_counts timers.watchdog smclk aclk
    || counts timers.ta0 smclk aclk
    || counts timers.ta1 smclk aclk
    || counts timers.tb0 smclk aclk

-- a timer is stopped
abbrev pub is_stopped : Timer → Bool
is_stopped timer = field_at MC timer.ctl == 0

-- the watchdog isn't held, or a timer isn't stopped: else none counts, whatever the edges are
abbrev pub some_runs : Timers → Bool
some_runs timers =
    not (has_bit (timers.watchdog).wdtctl WDTHOLD)
    || not (is_stopped timers.ta0)
    || not (is_stopped timers.ta1)
    || not (is_stopped timers.tb0)
