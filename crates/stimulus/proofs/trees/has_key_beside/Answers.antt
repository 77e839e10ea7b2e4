use Rattle.std.proofs.Common.{rules, tests, ℕ, not, List, String, Global, map, string_bytes}
use Rattle.std.proofs.lemmas.Iterator.Consumers.{YieldsList-from_rest}
use Rattle.std.proofs.lemmas.Iterator.Search.{any_from_yields_List}
use Rattle.std.specs.List.{list_any}
use Rattle.std.specs.Map.{keys_of}
use Rattle.std.specs.Str.{bytes_eq}
use Rattle.stimulus.specs.Toml.{has_key_beside}
use Rattle.stimulus.proofs.Views.{list_any-keys_of}
use Rattle.stimulus.proofs.trees.has_key_beside.Goals as goal

pub returns : goal.returns
unfolding has_key_beside
returns c =
    let names = map (λ name. name.now) c.args.names.now in
    let keys = keys_of c.args.table.now.entries in
    rw (list_any-keys_of (λ (key : List ℕ). not (list_any (λ (name : List ℕ). bytes_eq name key) names)) c.args.table.now.entries)
    (any_from_yields_List (λ (key : String Global). not (list_any (λ (name : List ℕ). bytes_eq name (string_bytes key)) names)) _ _ _ c.any.ensures.ran (YieldsList-from_rest keys c.keys.ensures.rest) (λ x b q k. search (rules, tests)))
