-- What the tree of a TOML document says: its keys, its lists, and numbers within a range.
use Rattle.std.specs.Prelude.{ℕ, Bool, not, ◌&&◌, nat_le, ℤ, pos, negsuc, List, [], ◌∷◌, Option, Some, None, if◌then◌else◌, option_and_then}
use Rattle.std.specs.Str.{bytes_eq}
use Rattle.std.specs.List.{list_any}
use Rattle.std.specs.Borrow.{Bor}
use Rattle.toml.specs.Data.{Data, as_integer, Items, no_items, item, Members, no_members, member, get_member}
use Rattle.toml.specs.View.{view}
use Rattle.toml.specs.declared.value.Value.{Value}

-- the tree of a value behind a reference
abbrev pub tree_of : Bor Value → Data
tree_of value = view value.now

-- the keys of a table
abbrev pub keys_of : Members → List (List ℕ)
keys_of no_members = []
keys_of (member key value more) = key ∷ keys_of more

-- the values of an array
abbrev pub values_of : Items → List Data
values_of no_items = []
values_of (item value more) = value ∷ values_of more

-- a text is one of some names
abbrev pub is_among : List (List ℕ) → List ℕ → Bool
is_among names text = list_any (λ name. bytes_eq name text) names

-- a table has a key that is none of these
unfoldable pub has_key_beside : List (List ℕ) → Members → Bool
has_key_beside names all = list_any (λ key. not (is_among names key)) (keys_of all)

-- an integer from `low` up to and with `high`; a value of another type is none
abbrev pub integer_within : ℕ → ℕ → ℤ → Option ℕ
integer_within low high (pos n) = if nat_le low n && nat_le n high then Some n else None
integer_within low high (negsuc n) = None

abbrev pub number_within : ℕ → ℕ → Data → Option ℕ
number_within low high value = option_and_then (integer_within low high) (as_integer value)

-- such an integer at a key that has to be there
abbrev pub number_at : List ℕ → ℕ → ℕ → Members → Option ℕ
number_at key low high all = option_and_then (number_within low high) (get_member key all)
