-- Which accesses a transfer makes, whatever they are answered.
use Rattle.std.specs.Prelude.{ℕ}
use Rattle.chip_words.specs.declared.accesses.Kind.TheVariants.{Read, Write}
use Rattle.chip_words.specs.Script.{Script, Return, Ask}
use Rattle.dma_unit.specs.declared.transfers.Move.{Move}
use Rattle.dma_unit.specs.Moves.{transfer}

-- a script makes no access
abbrev pub IsOver : {A : Type 0} → Script A → Type 0
IsOver (Return value) = Unit {0}
IsOver (Ask kind at size value rest) = ⊥

-- one write, and no access else
abbrev pub IsOneWrite : {A : Type 0} → Script A → Type 0
IsOneWrite (Ask Write at size value rest) = (answer : ℕ) → IsOver (rest answer)
IsOneWrite script = ⊥

-- one read, then one write, and no access else
abbrev pub IsOneReadThenOneWrite : {A : Type 0} → Script A → Type 0
IsOneReadThenOneWrite (Ask Read at size value rest) = (answer : ℕ) → IsOneWrite (rest answer)
IsOneReadThenOneWrite script = ⊥

-- so a transfer makes two accesses, and never fetches
abbrev pub TransfersReadThenWrite : Type 0
TransfersReadThenWrite = (step : Move) → IsOneReadThenOneWrite (transfer step)
