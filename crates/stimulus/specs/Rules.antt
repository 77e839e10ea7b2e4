-- An array of a bench: what its values are, and the first of them that breaks a rule.
use Rattle.std.specs.Prelude.{ℕ, Bool, List, length, take, filter_map, find, Option, Some, None, if◌then◌else◌, is_none, option_and_then, slice_get, Result, Ok, Err}
use Rattle.std.specs.List.{range_with_len}
use Rattle.toml.specs.Data.{Data}
use Rattle.stimulus.specs.declared.refusals.BenchRefused.{BenchRefused}

-- the rules of an array: which item a value is, and which items may stand behind others
pub record Rules (A : Type 0) : Type 0 where
  pub read : Data → Option A
  pub may_follow : List A → A → Bool

-- the items that values are
abbrev pub items_of : {A : Type 0} → Rules A → List Data → List A
items_of rules values = filter_map rules.read values

-- the item that a value is, if it is one that may stand behind others
abbrev pub if_follows : {A : Type 0} → Rules A → List A → A → Option A
if_follows rules before item = if rules.may_follow before item then Some item else None

abbrev pub next_item : {A : Type 0} → Rules A → List A → Data → Option A
next_item rules before value = option_and_then (if_follows rules before) (rules.read value)

-- the value at an index is no item that may stand behind those before it
unfoldable pub breaks_rule : {A : Type 0} → Rules A → List Data → ℕ → Bool
breaks_rule rules values index =
    is_none (option_and_then (next_item rules (items_of rules (take index values))) (slice_get values index))

-- the first index at which a value breaks a rule
abbrev pub first_breaking : {A : Type 0} → Rules A → List Data → Option ℕ
first_breaking rules values = find (breaks_rule rules values) (range_with_len 0 (length values))

-- some items, or the refusal of an index
abbrev pub items_unless : {A : Type 0} → (ℕ → BenchRefused) → Option ℕ → List A → Result (List A) BenchRefused
items_unless refusal (Some index) items = Err (refusal index)
items_unless refusal None items = Ok items

-- the items of an array, or the refusal of the first value that breaks a rule
abbrev pub items_in : {A : Type 0} → Rules A → (ℕ → BenchRefused) → List Data → Result (List A) BenchRefused
items_in rules refusal values = items_unless refusal (first_breaking rules values) (items_of rules values)
