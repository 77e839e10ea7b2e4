-- Which accesses an instruction makes, in which order and how many, whatever they are answered.
use Rattle.std.specs.Prelude.{ℕ, zero, suc, ◌+◌, ◌*◌, ◌≤◌, List}
use Rattle.chip_words.specs.declared.accesses.Kind.{Kind}
use Rattle.chip_words.specs.declared.accesses.Kind.TheVariants.{Fetch, Read, Write}
use Rattle.chip_words.specs.Script.{Script, Return, Ask}
use Rattle.cpux_extended.specs.Instruction.{instruction}

-- fetches stand before reads, and reads before writes
abbrev pub rank : Kind → ℕ
rank Fetch = 0
rank Read = 1
rank Write = 2

-- each access has at least the rank of the one before it, and the first one at least this rank
abbrev pub IsOrderly : {A : Type 0} → ℕ → Script A → Type 0
IsOrderly least (Return value) = Unit {0}
IsOrderly least (Ask kind at size value rest) =
    (least ≤ rank kind) × ((answer : ℕ) → IsOrderly (rank kind) (rest answer))

-- the fetches of an instruction come first, then its reads, and its writes last
abbrev pub AccessesComeInOrder : Type 0
AccessesComeInOrder = (registers : List ℕ) → IsOrderly 0 (instruction registers)

-- a script makes no more accesses than this
abbrev pub AtMost : {A : Type 0} → ℕ → Script A → Type 0
AtMost most (Return value) = Unit {0}
AtMost zero (Ask kind at size value rest) = ⊥
AtMost (suc most) (Ask kind at size value rest) = (answer : ℕ) → AtMost most (rest answer)

-- four words, and 20 bits of each of 16 registers that are pushed or popped, though no instruction has both
abbrev pub most_accesses : ℕ
most_accesses = 4 + 2 * 16

-- an instruction makes at most 36 accesses
abbrev pub AccessesAreFew : Type 0
AccessesAreFew = (registers : List ℕ) → AtMost most_accesses (instruction registers)
