-- The cuts of a bench: what one of them is, and which may stand behind others.
use Rattle.std.specs.Prelude.{ℕ, ◌-◌, ◌<◌, ◌≤◌, Bool, not, List, [], ◌∷◌, length, codes, Option, Some, None, if◌then◌else◌, option_and_then, slice_get}
use Rattle.toml.specs.Data.{Data, Members, as_table}
use Rattle.power_schedule.specs.declared.cuts.Cut.{Cut}
use Rattle.power_schedule.specs.Cuts.{comes_early, greatest_off}
use Rattle.stimulus.specs.Events.{tick_in}
use Rattle.stimulus.specs.Rules.{Rules}
use Rattle.stimulus.specs.Toml.{has_key_beside, number_at}

-- the most writes of a cut, and the fewest ticks without power behind it
abbrev pub most_writes : ℕ
most_writes = 64

abbrev pub least_off : ℕ
least_off = 1

-- a cut is within the ranges of a bench with this end
pub record IsCut (end : ℕ) (cut : Cut) : Type 0 where
  pub before_end : cut.tick < end
  pub few_writes : cut.writes ≤ most_writes
  pub some_off : least_off ≤ cut.off
  pub few_off : cut.off ≤ greatest_off

-- the keys of a cut, and what it has at each of them
abbrev pub cut_keys : List (List ℕ)
cut_keys = codes "tick" ∷ codes "writes" ∷ codes "off" ∷ []

abbrev pub writes_in : Members → Option ℕ
writes_in all = number_at (codes "writes") 0 most_writes all

abbrev pub off_in : Members → Option ℕ
off_in all = number_at (codes "off") least_off greatest_off all

-- the cut of these numbers, where there are all of them
abbrev pub cut_with : Option ℕ → Option ℕ → Option ℕ → Option Cut
cut_with None writes off = None
cut_with (Some tick) None off = None
cut_with (Some tick) (Some writes) None = None
cut_with (Some tick) (Some writes) (Some off) = Some (record { tick = tick; writes = writes; off = off })

-- the cut that a table is, on a bench with this end: it has just the three keys
unfoldable pub cut_in : ℕ → Members → Option Cut
cut_in end all = if has_key_beside cut_keys all then None else cut_with (tick_in end all) (writes_in all) (off_in all)

abbrev pub cut_of : ℕ → Data → Option Cut
cut_of end value = option_and_then (cut_in end) (as_table value)

-- the last of some cuts
abbrev pub last_cut : List Cut → Option Cut
last_cut cuts = slice_get cuts (length cuts - 1)

-- a cut comes behind others: its tick is above the stretch of the last of them
unfoldable pub comes_behind : List Cut → Cut → Bool
comes_behind before cut = not (comes_early (last_cut before) (Some cut))

-- the rules of the array of cuts, on a bench with this end
abbrev pub cut_rules : ℕ → Rules Cut
cut_rules end = record { read = cut_of end; may_follow = comes_behind }
