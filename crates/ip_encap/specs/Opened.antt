-- Which addresses one seal holds and another doesn't, as intervals.
use Rattle.std.specs.Prelude.{ℕ, ◌-◌, ◌<◌, ◌≤◌, ◌&&◌, not, Bool, List, filter, find, map, Option, Some, None}
use Rattle.std.specs.List.{range_with_len}
use Rattle.chip_words.specs.declared.seals.Seal.{Seal}
use Rattle.chip_words.specs.Seals.{BEHIND_MAIN_FRAM, is_in}
use Rattle.chip_words.specs.Segments.{MAIN_FRAM}
use Rattle.ip_encap.specs.declared.intervals.Interval.{Interval}

-- an address is in the first seal, and not in the second
abbrev pub is_left : Seal → Seal → ℕ → Bool
is_left before after at = is_in before at && not (is_in after at)

-- an interval of the addresses that pass a test begins here: this one passes, and the one before it doesn't
abbrev pub begins : (ℕ → Bool) → ℕ → Bool
begins test at = test at && not (test (at - 1))

-- the first address from one on that doesn't pass, up to the address behind main FRAM
abbrev pub or_behind : Option ℕ → ℕ
or_behind (Some at) = at
or_behind None = BEHIND_MAIN_FRAM

abbrev pub end_from : (ℕ → Bool) → ℕ → ℕ
end_from test low = or_behind (find (λ at. not (test at)) (range_with_len low (BEHIND_MAIN_FRAM - low)))

abbrev pub interval_from : (ℕ → Bool) → ℕ → Interval
interval_from test low = record { low = low; high = end_from test low }

-- the addresses of main FRAM, ascending
abbrev pub main_fram : List ℕ
main_fram = range_with_len MAIN_FRAM (BEHIND_MAIN_FRAM - MAIN_FRAM)

-- the intervals of addresses of main FRAM that pass a test, ascending, each as long as it can be
abbrev pub intervals : (ℕ → Bool) → List Interval
intervals test = map (interval_from test) (filter (begins test) main_fram)

-- those of the addresses that leave a seal for another
unfoldable pub opened : Seal → Seal → List Interval
opened before after = intervals (is_left before after)

-- an interval has addresses, and main FRAM has all of them
pub record LiesInMainFram (interval : Interval) : Type 0 where
  pub some : interval.low < interval.high
  pub from_start : MAIN_FRAM ≤ interval.low
  pub to_end : interval.high ≤ BEHIND_MAIN_FRAM
