-- An instruction takes each of its words as a word, and an entry takes none.
use Rattle.std.proofs.Common.{◌≤◌, ◌==◌, ℕ, zero, suc, List, [], ◌∷◌, Bool, true, false, arith, refl, slice_index}
use Rattle.chip_words.specs.declared.accesses.Kind.TheVariants.{Fetch, Read, Write}
use Rattle.chip_words.specs.Registers.{PC}
use Rattle.chip_words.specs.Script.{Ask, Return, Script}
use Rattle.cpux_decode.specs.Instructions.{is_extension, length_of}
use Rattle.cpux_extended.specs.Instruction.{behind, instruction, of_first_word, of_one_word, of_two_words, step_of_words}
use Rattle.step_laws.specs.Accesses.{rank}
use Rattle.step_laws.proofs.Shapes.{IsShaped, either_holds, step_of_words-shaped}
use Rattle.chip_core.specs.Entry.{entry}
use Rattle.stage_laws.proofs.Telling.{FetchesWords}

-- what doesn't fetch
unfetching :
    {A : Type 0} (low high most : ℕ) (script : Script A) → 1 ≤ low → IsShaped low high most script →
    FetchesWords script
unfetching low high most (Return value) above shaped = tt
unfetching low high zero (Ask kind at size value rest) above shaped = absurd shaped
unfetching low high (suc most) (Ask Fetch at size value rest) above shaped = absurd (omega (arith, shaped.0))
unfetching low high (suc most) (Ask Read at size value rest) above shaped =
    (tt, λ answer. unfetching (rank Read) high most (rest answer) (omega arith) (shaped.1.1 answer))
unfetching low high (suc most) (Ask Write at size value rest) above shaped =
    (tt, λ answer. unfetching (rank Write) high most (rest answer) (omega arith) (shaped.1.1 answer))

last_word : (words : List ℕ) (at next : ℕ) (registers : List ℕ) → FetchesWords (step_of_words words at next registers)
last_word words at next registers =
    unfetching 1 2 32 _ (omega arith) (step_of_words-shaped words at next registers)

two_words : (count w0 w1 at : ℕ) (registers : List ℕ) → FetchesWords (of_two_words count w0 w1 at registers)
unfolding of_two_words
two_words count w0 w1 at registers =
    either_holds FetchesWords (count == 2) _ _ (last_word (w0 ∷ w1 ∷ 0 ∷ 0 ∷ []) at (behind 4 at) registers)
    (either_holds FetchesWords (count == 3) _ _
    (refl, λ w2. last_word (w0 ∷ w1 ∷ w2 ∷ 0 ∷ []) at (behind 6 at) registers)
    (refl, λ w2. (refl, λ w3. last_word (w0 ∷ w1 ∷ w2 ∷ w3 ∷ []) at (behind 8 at) registers)))

one_word : (count w0 at : ℕ) (registers : List ℕ) → FetchesWords (of_one_word count w0 at registers)
unfolding of_one_word
one_word count w0 at registers =
    either_holds FetchesWords (count == 1) _ _ (last_word (w0 ∷ 0 ∷ 0 ∷ 0 ∷ []) at (behind 2 at) registers)
    (refl, λ w1. two_words count w0 w1 at registers)

first_word :
    (extends : Bool) (w0 at : ℕ) (registers : List ℕ) → FetchesWords (of_first_word extends w0 at registers)
first_word true w0 at registers = (refl, λ w1. two_words (length_of w0 w1) w0 w1 at registers)
first_word false w0 at registers = one_word (length_of w0 0) w0 at registers

pub instruction-fetches : (registers : List ℕ) → FetchesWords (instruction registers)
unfolding instruction
instruction-fetches registers =
    (refl, λ w0. first_word (is_extension w0) w0 (slice_index registers PC) registers)

pub entry-fetches : (vector : ℕ) (registers : List ℕ) → FetchesWords (entry vector registers)
unfolding entry
entry-fetches vector registers = (tt, λ first. (tt, λ second. (tt, λ word. tt)))
