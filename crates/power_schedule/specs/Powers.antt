-- What the supply does in a tick.
use Rattle.std.specs.Prelude.{◌≡◌, ℕ, ◌<◌, ◌≤◌, Bool, ◌&&◌, ◌==◌, nat_le, List, find, Option, Some, None, if◌then◌else◌}
use Rattle.power_schedule.specs.declared.cuts.Cut.{Cut}
use Rattle.power_schedule.specs.declared.powers.Power.{Power}
use Rattle.power_schedule.specs.declared.powers.Power.TheVariants as power
use Rattle.power_schedule.specs.Cuts.{last_tick}

-- a tick is within the stretch of a cut
abbrev pub is_within : ℕ → Cut → Bool
is_within tick cut = nat_le cut.tick tick && nat_le tick (last_tick cut)

-- the power of a tick by the cut whose stretch it is within: at the cut's own tick power is cut, and behind that it is
-- off. A tick of no stretch has power
abbrev pub power_by : ℕ → Option Cut → Power
power_by tick (Some cut) = if tick == cut.tick then power.Cut cut.writes else power.Off
power_by tick None = power.On

unfoldable pub power_at : List Cut → ℕ → Power
power_at cuts tick = power_by tick (find (is_within tick) cuts)

-- power is on all through each tick from one up to and without another
abbrev pub IsOnWithin : ℕ → ℕ → List Cut → Type 0
IsOnWithin from to cuts = (tick : ℕ) → from ≤ tick → tick < to → power_at cuts tick ≡ power.On

-- what stands for a tick where there is none: the greatest number of 32 bits
abbrev pub no_tick : ℕ
no_tick = 4294967295
