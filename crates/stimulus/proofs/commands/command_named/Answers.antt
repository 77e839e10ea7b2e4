use Rattle.std.proofs.Common.{◌≡◌, false, List, ℕ, refl}
use Rattle.std.proofs.lemmas.Bool.{false_from_ne_true}
use Rattle.std.proofs.lemmas.Slice.Eq.{bytes_eq-Decides}
use Rattle.std.specs.Str.{bytes_eq}
use Rattle.stimulus.specs.Commands.{command_named}
use Rattle.stimulus.proofs.commands.command_named.Goals as goal

bytes_eq-other : (name other : List ℕ) → (name ≡ other → ⊥) → bytes_eq name other ≡ false
bytes_eq-other name other differs = false_from_ne_true _ (λ same. differs ((bytes_eq-Decides name other).0 same))

pub returns-in_default-clause-command : goal.returns-in_default-clause-command
unfolding command_named
returns-in_default-clause-command c =
    let name = c.args.name.now in
    rw (
      bytes_eq-other name _ c.in_default.not-read,
      bytes_eq-other name _ c.in_default.not-write,
      bytes_eq-other name _ c.in_default.not-dump,
      bytes_eq-other name _ c.in_default.not-reg,
      bytes_eq-other name _ c.in_default.not-setreg,
      bytes_eq-other name _ c.in_default.not-halt,
      bytes_eq-other name _ c.in_default.not-go,
      bytes_eq-other name _ c.in_default.not-reset,
      bytes_eq-other name _ c.in_default.not-erase,
    ) refl
