use Rattle.std.proofs.Common.{◌≡◌, ◌∙◌, ℕ, Bool, ◌||◌, List, [], ◌∷◌, Bor, map, refl, ap}
use Rattle.std.specs.List.{list_any}
use Rattle.stimulus.proofs.trees.is_among.Goals as goal

list_any-names : (test : List ℕ → Bool) (names : List (Bor (List ℕ))) → list_any (λ name. test name.now) names ≡ list_any test (map (λ name. name.now) names)
list_any-names test [] = refl
list_any-names test (name ∷ names) = ap (λ rest. test name.now || rest) (list_any-names test names)

pub returns : goal.returns
returns c = c.contains.ensures.value ∙ list_any-names _ c.args.names.now
