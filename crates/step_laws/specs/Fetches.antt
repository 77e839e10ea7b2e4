-- The words that an instruction fetches, and what follows them, whatever they are.
use Rattle.std.specs.Prelude.{◌≡◌, ℕ, List, [], ◌∷◌, ◌++◌, slice_index, take}
use Rattle.chip_words.specs.declared.sizes.Size.TheVariants.{Word}
use Rattle.chip_words.specs.declared.accesses.Kind.TheVariants.{Fetch}
use Rattle.chip_words.specs.Registers.{PC}
use Rattle.chip_words.specs.Script.{Script, Return, Ask}
use Rattle.cpux_decode.specs.declared.instructions.Decoded.TheVariants as made
use Rattle.cpux_decode.specs.Instructions.{decoded, first_word, length_of, second_word}
use Rattle.cpux_execute.specs.declared.outcomes.Outcome.TheVariants.{Reserved}
use Rattle.cpux_execute.specs.Operands.{above}
use Rattle.cpux_execute.specs.Execution.{Stepped}
use Rattle.cpux_extended.specs.Instruction.{instruction}

-- no access is a fetch
abbrev pub HasNoFetch : {A : Type 0} → Script A → Type 0
HasNoFetch (Return value) = Unit {0}
HasNoFetch (Ask Fetch at size value rest) = ⊥
HasNoFetch (Ask kind at size value rest) = (answer : ℕ) → HasNoFetch (rest answer)

-- a script fetches these words and no more, each as a word and two bytes behind the one before it, from `next` on
abbrev pub FetchesFrom : {A : Type 0} → ℕ → List ℕ → Script A → Type 0
FetchesFrom next [] script = HasNoFetch script
FetchesFrom next (word ∷ words) (Ask Fetch at size value rest) =
    (at ≡ next) × ((size ≡ Word) × FetchesFrom (above next) words (rest word))
FetchesFrom next (word ∷ words) script = ⊥

-- of the words from PC on an instruction fetches as many as the first two say
abbrev pub FetchesItsWords : List ℕ → Type 0
FetchesItsWords words =
    (registers : List ℕ) →
    FetchesFrom (slice_index registers PC) (take (length_of (first_word words) (second_word words)) words)
    (instruction registers)

-- whatever words a script fetches, behind these, this holds of all of them and of what follows the fetches
abbrev pub BehindFetches : {A : Type 0} → (List ℕ → Script A → Type 0) → List ℕ → Script A → Type 0
BehindFetches Holds words (Ask Fetch at size value rest) =
    (word : ℕ) → BehindFetches Holds (words ++ word ∷ []) (rest word)
BehindFetches Holds words script = Holds words script

-- the words as they are decoded: four, with 0 for those that the instruction doesn't have
abbrev pub four_words : List ℕ → List ℕ
four_words words = take 4 (words ++ 0 ∷ 0 ∷ 0 ∷ 0 ∷ [])

-- where these words are reserved, nothing is left to do behind them, and the registers are as they were
abbrev pub IsIdleIfReserved : List ℕ → List ℕ → Script Stepped → Type 0
IsIdleIfReserved registers words rest =
    decoded (four_words words) ≡ made.Reserved → rest ≡ Return (record { registers = registers; outcome = Reserved })

-- a reserved word is fetched, and that is all
abbrev pub ReservedWordsDoNothing : Type 0
ReservedWordsDoNothing =
    (registers : List ℕ) → BehindFetches (IsIdleIfReserved registers) [] (instruction registers)
