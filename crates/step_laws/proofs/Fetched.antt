-- The fetches of an instruction.
use Rattle.std.proofs.Common.{◌≡◌, ◌≤◌, ◌==◌, ℕ, zero, suc, List, [], ◌∷◌, take, Bool, true, false, arith, refl, ap, subst, sym, slice_index}
use Rattle.chip_words.specs.declared.accesses.Kind.TheVariants.{Fetch, Read, Write}
use Rattle.chip_words.specs.Registers.{PC}
use Rattle.chip_words.specs.Script.{Script, Return, Ask}
use Rattle.cpux_decode.specs.declared.instructions.Decoded.TheVariants as made
use Rattle.cpux_decode.specs.Instructions.{decoded, is_extension, length_of}
use Rattle.cpux_execute.specs.declared.outcomes.Outcome.TheVariants.{Reserved}
use Rattle.cpux_execute.specs.Operands.{above}
use Rattle.cpux_execute.specs.Execution.{Stepped, executed}
use Rattle.cpux_extended.specs.Extended.{is_short}
use Rattle.cpux_extended.specs.Instruction.{behind, instruction, of_first_word, of_one_word, of_two_words, step_by, step_of_words}
use Rattle.step_laws.specs.Accesses.{rank}
use Rattle.step_laws.specs.Fetches.{BehindFetches, FetchesFrom, FetchesItsWords, HasNoFetch, IsIdleIfReserved, ReservedWordsDoNothing, four_words}
use Rattle.step_laws.proofs.Shapes.{IsShaped, ReadsThenWrites, either_holds, step_of_words-shaped}

-- ---- what follows the fetches

-- a script without fetches
BehindFetches-none : {A : Type 0} (Holds : List ℕ → Script A → Type 0) (most : ℕ) (words : List ℕ) (script : Script A) → ReadsThenWrites most script → Holds words script → BehindFetches Holds words script
BehindFetches-none Holds most words (Return value) shaped holds = holds
BehindFetches-none Holds zero words (Ask Fetch at size value rest) shaped holds = absurd shaped
BehindFetches-none Holds (suc most) words (Ask Fetch at size value rest) shaped holds = absurd (omega (arith, shaped.0))
BehindFetches-none Holds most words (Ask Read at size value rest) shaped holds = holds
BehindFetches-none Holds most words (Ask Write at size value rest) shaped holds = holds

-- a fact of any words and of the script that performs them
abbrev pub HoldsOfWords : (List ℕ → Script Stepped → Type 0) → List ℕ → Type 0
HoldsOfWords Holds registers = (words : List ℕ) (at next : ℕ) → Holds words (step_of_words (four_words words) at next registers)

last_word : (Holds : List ℕ → Script Stepped → Type 0) (words : List ℕ) (at next : ℕ) (registers : List ℕ) → HoldsOfWords Holds registers → BehindFetches Holds words (step_of_words (four_words words) at next registers)
last_word Holds words at next registers holds =
    BehindFetches-none Holds 32 words _ (step_of_words-shaped (four_words words) at next registers) (holds words at next)

behind_two_words : (Holds : List ℕ → Script Stepped → Type 0) (count w0 w1 at : ℕ) (registers : List ℕ) → HoldsOfWords Holds registers → BehindFetches Holds (w0 ∷ w1 ∷ []) (of_two_words count w0 w1 at registers)
unfolding of_two_words
behind_two_words Holds count w0 w1 at registers holds =
    let P : Script Stepped → Type 0 = BehindFetches Holds (w0 ∷ w1 ∷ []) in
    either_holds P (count == 2) _ _ (last_word Holds (w0 ∷ w1 ∷ []) at (behind 4 at) registers holds)
    (either_holds P (count == 3) _ _
    (λ w2. last_word Holds (w0 ∷ w1 ∷ w2 ∷ []) at (behind 6 at) registers holds)
    (λ w2. λ w3. last_word Holds (w0 ∷ w1 ∷ w2 ∷ w3 ∷ []) at (behind 8 at) registers holds))

behind_one_word : (Holds : List ℕ → Script Stepped → Type 0) (count w0 at : ℕ) (registers : List ℕ) → HoldsOfWords Holds registers → BehindFetches Holds (w0 ∷ []) (of_one_word count w0 at registers)
unfolding of_one_word
behind_one_word Holds count w0 at registers holds =
    either_holds (BehindFetches Holds (w0 ∷ [])) (count == 1) _ _ (last_word Holds (w0 ∷ []) at (behind 2 at) registers holds)
    (λ w1. behind_two_words Holds count w0 w1 at registers holds)

behind_first_word : (Holds : List ℕ → Script Stepped → Type 0) (is_extension : Bool) (w0 at : ℕ) (registers : List ℕ) → HoldsOfWords Holds registers → BehindFetches Holds (w0 ∷ []) (of_first_word is_extension w0 at registers)
behind_first_word Holds true w0 at registers holds = λ w1. behind_two_words Holds (length_of w0 w1) w0 w1 at registers holds
behind_first_word Holds false w0 at registers holds = behind_one_word Holds (length_of w0 0) w0 at registers holds

pub behind_fetches : (Holds : List ℕ → Script Stepped → Type 0) (registers : List ℕ) → HoldsOfWords Holds registers → BehindFetches Holds [] (instruction registers)
unfolding instruction
behind_fetches Holds registers holds = λ w0. behind_first_word Holds (is_extension w0) w0 (slice_index registers PC) registers holds

-- ---- reserved words

reserved_step : (words : List ℕ) (at next : ℕ) (registers : List ℕ) → decoded words ≡ made.Reserved → step_of_words words at next registers ≡ Return (record { registers = registers; outcome = Reserved })
unfolding step_of_words is_short executed
reserved_step words at next registers e = ap (λ d. step_by (is_short d) d at next registers) e

pub reserved_words_do_nothing : ReservedWordsDoNothing
reserved_words_do_nothing registers =
    behind_fetches (IsIdleIfReserved registers) registers (λ words at next e. reserved_step (four_words words) at next registers e)

-- ---- the words

HasNoFetch-shaped : {A : Type 0} (low high most : ℕ) (script : Script A) → 1 ≤ low → IsShaped low high most script → HasNoFetch script
HasNoFetch-shaped low high most (Return value) no_fetches shaped = tt
HasNoFetch-shaped low high zero (Ask kind at size value rest) no_fetches shaped = absurd shaped
HasNoFetch-shaped low high (suc most) (Ask Fetch at size value rest) no_fetches shaped = absurd (omega (arith, shaped.0))
HasNoFetch-shaped low high (suc most) (Ask Read at size value rest) no_fetches shaped =
    λ answer. HasNoFetch-shaped (rank Read) high most (rest answer) (omega arith) (shaped.1.1 answer)
HasNoFetch-shaped low high (suc most) (Ask Write at size value rest) no_fetches shaped =
    λ answer. HasNoFetch-shaped (rank Write) high most (rest answer) (omega arith) (shaped.1.1 answer)

no_more : (words : List ℕ) (at next : ℕ) (registers : List ℕ) → HasNoFetch (step_of_words words at next registers)
no_more words at next registers = HasNoFetch-shaped 1 2 32 _ (omega arith) (step_of_words-shaped words at next registers)

behind_four : (at : ℕ) → behind 4 at ≡ above (above at)
behind_four at = omega arith

behind_six : (at : ℕ) → behind 6 at ≡ above (above (above at))
behind_six at = omega arith

-- the words behind the first two, where there are so many of them
two_words_from : (more w0 w1 w2 w3 at : ℕ) (registers : List ℕ) → more ≤ 2 → FetchesFrom (above (above at)) (take more (w2 ∷ w3 ∷ [])) (of_two_words (suc (suc more)) w0 w1 at registers)
unfolding of_two_words
two_words_from zero w0 w1 w2 w3 at registers fits = no_more (w0 ∷ w1 ∷ 0 ∷ 0 ∷ []) at (behind 4 at) registers
two_words_from (suc zero) w0 w1 w2 w3 at registers fits =
    (behind_four at, (refl, no_more (w0 ∷ w1 ∷ w2 ∷ 0 ∷ []) at (behind 6 at) registers))
two_words_from (suc (suc zero)) w0 w1 w2 w3 at registers fits =
    (behind_four at, (refl, (behind_six at, (refl, no_more (w0 ∷ w1 ∷ w2 ∷ w3 ∷ []) at (behind 8 at) registers))))
two_words_from (suc (suc (suc more))) w0 w1 w2 w3 at registers fits = absurd (omega arith)

-- the words behind the first one, which is no extension word
one_word_from : (more w0 w1 w2 w3 at : ℕ) (registers : List ℕ) → more ≤ 3 → FetchesFrom (above at) (take more (w1 ∷ w2 ∷ w3 ∷ [])) (of_one_word (suc more) w0 at registers)
unfolding of_one_word
one_word_from zero w0 w1 w2 w3 at registers fits = no_more (w0 ∷ 0 ∷ 0 ∷ 0 ∷ []) at (behind 2 at) registers
one_word_from (suc zero) w0 w1 w2 w3 at registers fits = (refl, (refl, two_words_from 0 w0 w1 w2 w3 at registers (omega arith)))
one_word_from (suc (suc zero)) w0 w1 w2 w3 at registers fits = (refl, (refl, two_words_from 1 w0 w1 w2 w3 at registers (omega arith)))
one_word_from (suc (suc (suc zero))) w0 w1 w2 w3 at registers fits = (refl, (refl, two_words_from 2 w0 w1 w2 w3 at registers (omega arith)))
one_word_from (suc (suc (suc (suc more)))) w0 w1 w2 w3 at registers fits = absurd (omega arith)

-- what the decoder says of the length of an instruction that begins with these words
pub record IsLength (w0 w1 count : ℕ) : Type 0 where
  pub length : length_of w0 w1 ≡ count
  pub least : 1 ≤ count
  pub most : count ≤ 4
  pub alone : is_extension w0 ≡ false → length_of w0 0 ≡ count
  pub extended : is_extension w0 ≡ true → 2 ≤ count

first_word_from : (v : Bool) (more w0 w1 w2 w3 at : ℕ) (registers : List ℕ) → is_extension w0 ≡ v → IsLength w0 w1 (suc more) → FetchesFrom (above at) (take more (w1 ∷ w2 ∷ w3 ∷ [])) (of_first_word v w0 at registers)
first_word_from true zero w0 w1 w2 w3 at registers e length = absurd (omega (arith, length.extended e))
first_word_from true (suc more) w0 w1 w2 w3 at registers e length =
    (refl, (refl, subst (λ count. FetchesFrom (above (above at)) (take more (w2 ∷ w3 ∷ [])) (of_two_words count w0 w1 at registers)) (sym length.length) (two_words_from more w0 w1 w2 w3 at registers (omega (arith, length.most)))))
first_word_from false more w0 w1 w2 w3 at registers e length =
    subst (λ count. FetchesFrom (above at) (take more (w1 ∷ w2 ∷ w3 ∷ [])) (of_one_word count w0 at registers)) (sym (length.alone e)) (one_word_from more w0 w1 w2 w3 at registers (omega (arith, length.most)))

words_from : (count w0 w1 w2 w3 : ℕ) (registers : List ℕ) → IsLength w0 w1 count → FetchesFrom (slice_index registers PC) (take count (w0 ∷ w1 ∷ w2 ∷ w3 ∷ [])) (instruction registers)
unfolding instruction
words_from zero w0 w1 w2 w3 registers length = absurd (omega (arith, length.least))
words_from (suc more) w0 w1 w2 w3 registers length =
    (refl, (refl, first_word_from (is_extension w0) more w0 w1 w2 w3 (slice_index registers PC) registers refl length))

pub fetches_its_words : (count w0 w1 w2 w3 : ℕ) → IsLength w0 w1 count → FetchesItsWords (w0 ∷ w1 ∷ w2 ∷ w3 ∷ [])
fetches_its_words count w0 w1 w2 w3 length registers =
    subst (λ n. FetchesFrom (slice_index registers PC) (take n (w0 ∷ w1 ∷ w2 ∷ w3 ∷ [])) (instruction registers)) (sym length.length) (words_from count w0 w1 w2 w3 registers length)
