-- A table of `toml` beside the tree that it stands for.
use Rattle.std.proofs.Common.{◌≡◌, ℕ, Bool, ◌||◌, List, [], ◌∷◌, map, String, Global, string_bytes, refl, ap}
use Rattle.std.specs.List.{list_any}
use Rattle.std.specs.Map.{keys_of}
use Rattle.toml.specs.View.{items_view, members_view, view}
use Rattle.toml.specs.declared.value.Value.{Value}
use Rattle.stimulus.specs.Toml as tree

pub list_any-keys_of : (test : List ℕ → Bool) (entries : List (String Global × Value)) → list_any test (tree.keys_of (members_view entries)) ≡ list_any (λ key. test (string_bytes key)) (keys_of entries)
list_any-keys_of test [] = refl
list_any-keys_of test (entry ∷ entries) = ap (λ rest. test (string_bytes entry.0) || rest) (list_any-keys_of test entries)

pub values_of-items_view : (values : List Value) → tree.values_of (items_view values) ≡ map view values
values_of-items_view [] = refl
values_of-items_view (value ∷ values) = ap (λ rest. view value ∷ rest) (values_of-items_view values)
