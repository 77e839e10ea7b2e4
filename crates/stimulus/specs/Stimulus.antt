-- The bench that a file is: what it has, and why a file is none.
use Rattle.std.specs.Prelude.{◌≡◌, ℕ, ◌<◌, ◌≤◌, ◌^◌, ◌-◌, nat_lt, min, List, [], ◌∷◌, ◌++◌, length, All, codes, Option, Some, None, if◌then◌else◌, option_map, Result, Ok, Err}
use Rattle.std.specs.List.Sorted.{IsNonDecreasingBy}
use Rattle.std.specs.Str.{is_utf8}
use Rattle.toml.specs.Data.{Data, Members, as_array, get_member}
use Rattle.toml.specs.Parse.{parse_document}
use Rattle.power_schedule.specs.declared.cuts.Cut.{Cut}
use Rattle.power_schedule.specs.declared.powers.Power.TheVariants as power
use Rattle.power_schedule.specs.Cuts.{AreOrdered, most_cuts}
use Rattle.power_schedule.specs.Powers.{power_at}
use Rattle.stimulus.specs.declared.events.Event.{Event}
use Rattle.stimulus.specs.declared.refusals.BenchRefused.{BenchRefused}
use Rattle.stimulus.specs.declared.refusals.BenchRefused.TheVariants as refused
use Rattle.stimulus.specs.declared.refusals.BenchError.{BenchError}
use Rattle.stimulus.specs.declared.refusals.BenchError.TheVariants.{Refused}
use Rattle.stimulus.specs.declared.refusals.RootField.{RootField}
use Rattle.stimulus.specs.declared.refusals.RootField.TheVariants as field
use Rattle.stimulus.specs.Toml.{has_key_beside, number_at, number_within, values_of}
use Rattle.stimulus.specs.Rules.{items_in}
use Rattle.stimulus.specs.Events.{IsEvent, event_rules, most_on_tick, on_tick}
use Rattle.stimulus.specs.Cuts.{IsCut, cut_rules}

-- what a bench does to a chip: how many ticks the run has, which byte SRAM is filled with, and the events and the cuts
-- of power in the order of the file
pub record Stimulus : Type 0 where
  pub end : ℕ
  pub fill : ℕ
  pub events : List Event
  pub cuts : List Cut

-- the longest run, in ticks
abbrev pub greatest_end : ℕ
greatest_end = 10000000

-- the most events that a bench has
abbrev pub most_events : ℕ
most_events = 10000

-- a bench with another event behind its own
abbrev pub with_event : Stimulus → Event → Stimulus
with_event bench event = record bench { events = bench.events ++ event ∷ [] }

-- what holds of every bench: ticks don't fall, few events share one, each comes before the end and is within its
-- ranges, and so is each cut, whose stretches stand one behind another
pub record IsBench (bench : Stimulus) : Type 0 where
  pub some_ticks : 1 ≤ bench.end
  pub few_ticks : bench.end ≤ greatest_end
  pub fill_is_byte : bench.fill < 2 ^ 8
  pub in_order : IsNonDecreasingBy (λ event. event.tick) bench.events
  pub few_on_tick : (tick : ℕ) → length (on_tick tick bench.events) ≤ most_on_tick
  pub before_end : All (λ event. event.tick < bench.end) bench.events
  pub in_range : All IsEvent bench.events
  pub cuts_in_range : All (IsCut bench.end) bench.cuts
  pub cuts_in_order : AreOrdered bench.cuts

-- a tick is plain: power is on all through it, and it has no event
pub record IsPlainTick (bench : Stimulus) (tick : ℕ) : Type 0 where
  pub power : power_at bench.cuts tick ≡ power.On
  pub events : on_tick tick bench.events ≡ []

-- each tick from one up to and without another is plain
abbrev pub IsPlainWithin : ℕ → ℕ → Stimulus → Type 0
IsPlainWithin from to bench = (tick : ℕ) → from ≤ tick → tick < to → IsPlainTick bench tick

-- the keys of the root
abbrev pub root_keys : List (List ℕ)
root_keys = codes "version" ∷ codes "end" ∷ codes "fill" ∷ codes "event" ∷ codes "cut" ∷ []

-- the numbers at `version` and `end`, which have to be there
abbrev pub version_in : Members → Option ℕ
version_in root = number_at (codes "version") 1 1 root

abbrev pub end_in : Members → Option ℕ
end_in root = number_at (codes "end") 1 greatest_end root

-- the number at `fill`, which is 0 where it isn't there
abbrev pub fill_at : Option Data → Option ℕ
fill_at None = Some 0
fill_at (Some value) = number_within 0 255 value

abbrev pub fill_in : Members → Option ℕ
fill_in root = fill_at (get_member (codes "fill") root)

-- the values of the array at a key, which is empty where it isn't there
abbrev pub values_at : Option Data → Option (List Data)
values_at None = Some []
values_at (Some value) = option_map values_of (as_array value)

abbrev pub values_in : List ℕ → Members → Option (List Data)
values_in key root = values_at (get_member key root)

-- what follows for the value of a key, or the refusal of the key where it has none
abbrev pub with_field : {A : Type 0} → RootField → Option A → (A → Result Stimulus BenchRefused) → Result Stimulus BenchRefused
with_field name None rest = Err (refused.Field name)
with_field name (Some value) rest = rest value

-- what follows for the items of an array, or their refusal
abbrev pub with_items : {A : Type 0} → Result (List A) BenchRefused → (List A → Result Stimulus BenchRefused) → Result Stimulus BenchRefused
with_items (Err refusal) rest = Err refusal
with_items (Ok items) rest = rest items

-- the bench of these parts, or the refusal of the first event that breaks a rule, or else of the first such cut
abbrev pub bench_with : ℕ → ℕ → List Data → List Data → Result Stimulus BenchRefused
bench_with end fill events cuts =
    with_items (items_in (event_rules end) refused.Event events) (λ events.
    with_items (items_in (cut_rules end) refused.Cut cuts) (λ cuts.
    Ok (record { end = end; fill = fill; events = events; cuts = cuts })))

-- a count as 32 bits hold it, which is the greatest number that they hold where they don't
abbrev pub count_in_32_bits : ℕ → ℕ
count_in_32_bits count = min count (2 ^ 32 - 1)

-- the bench of a root, or its first refusal in this order
unfoldable pub bench_in : Members → Result Stimulus BenchRefused
bench_in root =
    with_field field.Version (version_in root) (λ version.
    with_field field.End (end_in root) (λ end.
    with_field field.Fill (fill_in root) (λ fill.
    with_field field.Event (values_in (codes "event") root) (λ events.
    with_field field.Cut (values_in (codes "cut") root) (λ cuts.
    if has_key_beside root_keys root then Err (refused.Field field.Unknown)
    else if nat_lt most_events (length events) then Err (refused.TooMany (count_in_32_bits (length events)))
    else if nat_lt most_cuts (length cuts) then Err (refused.TooMany (count_in_32_bits (length cuts)))
    else bench_with end fill events cuts)))))

-- the bench of a document, which is none where the bytes are no TOML
abbrev pub bench_of : Option Members → Result Stimulus BenchRefused
bench_of None = Err refused.NotToml
bench_of (Some root) = bench_in root

-- the bench that a file's bytes are: that of their TOML document. Bytes that are no UTF-8 are no TOML
unfoldable pub bench_of_file : List ℕ → Result Stimulus BenchRefused
bench_of_file bytes = if is_utf8 bytes then bench_of (parse_document bytes) else Err refused.NotToml

-- a refusal as the error that it is
abbrev pub with_error : {A : Type 0} → Result A BenchRefused → Result A BenchError
with_error (Ok read) = Ok read
with_error (Err refusal) = Err (Refused refusal)
