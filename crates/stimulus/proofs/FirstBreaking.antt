-- The first value of an array that breaks a rule.
use Rattle.std.proofs.Common.{◌≡◌, ◌∙◌, ℕ, true, false, Bool, cond, is_none, ◌+◌, ◌<◌, ◌≤◌, List, [], ◌∷◌, ◌++◌, length, take, get_or, below_more, map, sym, Option, Some, None, Ok, Err, option_and_then, refl, ap, arith}
use Rattle.std.proofs.lemmas.List.{get_or-map, length-map, take_all, take_more}
use Rattle.std.proofs.lemmas.List.Elements.{filter_map-append}
use Rattle.std.proofs.lemmas.Option.{slice_get-get_or}
use Rattle.toml.specs.Data.{Data}
use Rattle.toml.specs.View.{view}
use Rattle.toml.specs.declared.value.Value.{Value}
use Rattle.power_schedule.proofs.FirstIndex.{find-range, find-range_none}
use Rattle.stimulus.specs.declared.refusals.BenchRefused.{BenchRefused}
use Rattle.stimulus.specs.Rules.{Rules, breaks_rule, first_breaking, if_follows, items_in, items_of, next_item}

-- the items of an array whose values break no rule, and the refusal of the first that breaks one
items_in-refused : {A : Type 0} (rules : Rules A) (refusal : ℕ → BenchRefused) (values : List Data) (index : ℕ) → index < length values → ((k : ℕ) → k < index → breaks_rule rules values k ≡ false) → breaks_rule rules values index ≡ true → items_in rules refusal values ≡ Err (refusal index)
items_in-refused rules refusal values index h below here =
    let first : first_breaking rules values ≡ Some index = find-range (breaks_rule rules values) 0 (length values) index (omega arith) (omega arith) (λ j l k. below j k) here in
    rw first refl

items_in-taken : {A : Type 0} (rules : Rules A) (refusal : ℕ → BenchRefused) (values : List Data) → ((k : ℕ) → k < length values → breaks_rule rules values k ≡ false) → items_in rules refusal values ≡ Ok (items_of rules values)
items_in-taken rules refusal values none =
    let first : first_breaking rules values ≡ None = find-range_none (breaks_rule rules values) 0 (length values) (λ j l k. none j (omega arith)) in
    rw first refl

breaks_rule-is : {A : Type 0} (rules : Rules A) (values : List Data) (index : ℕ) (d : Data) → index < length values → breaks_rule rules values index ≡ is_none (next_item rules (items_of rules (take index values)) (get_or values index d))
unfolding breaks_rule
breaks_rule-is rules values index d h = rw (slice_get-get_or values index d h) refl

-- a value that is no item to come next breaks a rule
breaks_rule-refused : {A : Type 0} (rules : Rules A) (values : List Data) (index : ℕ) (d : Data) → index < length values → next_item rules (items_of rules (take index values)) (get_or values index d) ≡ None → breaks_rule rules values index ≡ true
breaks_rule-refused rules values index d h e = breaks_rule-is rules values index d h ∙ ap is_none e

-- one that is an item to come next breaks none
breaks_rule-taken : {A : Type 0} (rules : Rules A) (values : List Data) (index : ℕ) (d : Data) (item : A) → index < length values → next_item rules (items_of rules (take index values)) (get_or values index d) ≡ Some item → breaks_rule rules values index ≡ false
breaks_rule-taken rules values index d item h e = breaks_rule-is rules values index d h ∙ ap is_none e

followed : {A : Type 0} (rules : Rules A) (before : List A) (read : Option A) (item : A) → option_and_then (if_follows rules before) read ≡ Some item → read ≡ Some item
followed rules before None item e = cc
followed rules before (Some next) item e = allowed (rules.may_follow before next) e
  where
    allowed : (b : Bool) → cond b (Some next) None ≡ Some item → Some next ≡ Some item
    allowed true same = same
    allowed false same = cc

-- and it is the next of the items
items-more : {A : Type 0} (rules : Rules A) (values : List Data) (index : ℕ) (d : Data) (item : A) → index < length values → next_item rules (items_of rules (take index values)) (get_or values index d) ≡ Some item → items_of rules (take (index + 1) values) ≡ items_of rules (take index values) ++ item ∷ []
items-more rules values index d item h e =
    let read = followed rules (items_of rules (take index values)) (rules.read (get_or values index d)) item e in
    rw (take_more values index d h, filter_map-append, read) refl

-- the tree of a value at an index
value_at : (values : List Value) (index : ℕ) (value : Value) → index < length values → value ≡ get_or values index value → get_or (map view values) index (view value) ≡ view value
value_at values index value within is = get_or-map view values index value (view value) within ∙ ap view (sym is)

-- A loop over the values of an array, whose items so far are known. A value that is no item to come next is refused
pub refused_at : {A : Type 0} (rules : Rules A) (refusal : ℕ → BenchRefused) (values : List Value) (index : ℕ) (value : Value) → index < length values → value ≡ get_or values index value → ((k : ℕ) → k < index → breaks_rule rules (map view values) k ≡ false) → next_item rules (items_of rules (take index (map view values))) (view value) ≡ None → items_in rules refusal (map view values) ≡ Err (refusal index)
refused_at rules refusal values index value within is none read =
    let inside : index < length (map view values) = simp length-map within in
    items_in-refused rules refusal (map view values) index inside none (breaks_rule-refused rules (map view values) index (view value) inside (rw (← value_at values index value within is) at read))

-- one that is such an item breaks no rule
pub taken_at : {A : Type 0} (rules : Rules A) (values : List Value) (index : ℕ) (value : Value) (item : A) → index < length values → value ≡ get_or values index value → ((k : ℕ) → k < index → breaks_rule rules (map view values) k ≡ false) → next_item rules (items_of rules (take index (map view values))) (view value) ≡ Some item → (k : ℕ) → k < index + 1 → breaks_rule rules (map view values) k ≡ false
taken_at rules values index value item within is none read =
    let inside : index < length (map view values) = simp length-map within in
    below_more (λ (k : ℕ). breaks_rule rules (map view values) k ≡ false) index none (breaks_rule-taken rules (map view values) index (view value) item inside (rw (← value_at values index value within is) at read))

-- and is the next of the items
pub items_at : {A : Type 0} (rules : Rules A) (values : List Value) (index : ℕ) (value : Value) (item : A) → index < length values → value ≡ get_or values index value → next_item rules (items_of rules (take index (map view values))) (view value) ≡ Some item → items_of rules (take (index + 1) (map view values)) ≡ items_of rules (take index (map view values)) ++ item ∷ []
items_at rules values index value item within is read =
    let inside : index < length (map view values) = simp length-map within in
    items-more rules (map view values) index (view value) item inside (rw (← value_at values index value within is) at read)

-- at the end all values are items
pub all_taken : {A : Type 0} (rules : Rules A) (refusal : ℕ → BenchRefused) (values : List Value) (index : ℕ) → length values ≤ index → ((k : ℕ) → k < index → breaks_rule rules (map view values) k ≡ false) → items_in rules refusal (map view values) ≡ Ok (items_of rules (take index (map view values)))
all_taken rules refusal values index past none =
    let outside : length (map view values) ≤ index = simp length-map past in
    rw (take_all index (map view values) outside) (items_in-taken rules refusal (map view values) (λ k h. none k (omega arith)))
