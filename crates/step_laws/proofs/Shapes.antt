-- The ranks and the number of the accesses of each script, one script after the other.
use Rattle.std.proofs.Common.{◌≤◌, ◌==◌, ℕ, zero, suc, ◌+◌, ◌-◌, ◌*◌, List, [], ◌∷◌, Bool, true, false, arith, if◌then◌else◌, slice_index}
use Rattle.chip_words.specs.declared.sizes.Size.{Size}
use Rattle.chip_words.specs.declared.sizes.Size.TheVariants.{Byte, Word, Addr}
use Rattle.chip_words.specs.declared.accesses.Kind.TheVariants.{Fetch}
use Rattle.chip_words.specs.Registers.{PC}
use Rattle.chip_words.specs.Script.{Script, Return, Ask, and_then}
use Rattle.cpux_decode.specs.declared.forms.Form.{Form}
use Rattle.cpux_decode.specs.declared.forms.Form.TheVariants as form
use Rattle.cpux_decode.specs.declared.places.Place.{Place}
use Rattle.cpux_decode.specs.declared.places.Place.TheVariants.{Reg, Const, Imm}
use Rattle.cpux_decode.specs.declared.operations.Op1.{Op1}
use Rattle.cpux_decode.specs.declared.operations.Op1.TheVariants.{Push, Call}
use Rattle.cpux_decode.specs.declared.operations.Op2.{Op2}
use Rattle.cpux_decode.specs.declared.operations.OpA.{OpA}
use Rattle.cpux_decode.specs.declared.instructions.Rep.{Rep}
use Rattle.cpux_decode.specs.declared.instructions.Decoded.{Decoded}
use Rattle.cpux_decode.specs.declared.instructions.Decoded.TheVariants as made
use Rattle.cpux_decode.specs.Table.{shape_of}
use Rattle.cpux_decode.specs.Instructions.{decoded, instruction_of, is_extension, jump, length_of, long_one_operand, long_two_operands, one_operand as decoded_one, shift_many, two_operands as decoded_two}
use Rattle.cpux_decode.specs.Operations.{reads_destination, writes_destination}
use Rattle.cpux_decode.specs.Places.{is_register_source}
use Rattle.cpux_execute.specs.Operands.{address_of, asked, put, source, stored_to, target}
use Rattle.cpux_execute.specs.TwoOperands.{read_if, two_operands, two_store, two_target, write_if}
use Rattle.cpux_execute.specs.OneOperand.{call, changed, push, pushed, put_down, return_from_interrupt}
use Rattle.cpux_execute.specs.Execution.{Stepped, executed, one_operand, performed}
use Rattle.cpux_extended.specs.AddressInstructions.{addressed, moved}
use Rattle.cpux_extended.specs.Stack.{called, popped_from, pushed_below}
use Rattle.cpux_extended.specs.Extended.{extended, extended_one, extended_two, is_short}
use Rattle.cpux_extended.specs.Instruction.{behind, extended_step, instruction, of_first_word, of_one_word, of_two_words, step_by, step_of_words}
use Rattle.step_laws.specs.Accesses.{AccessesAreFew, AccessesComeInOrder, AtMost, IsOrderly, rank}

-- ---- shapes

-- the accesses have ranks from a low one to a high one, none lower than the one before it, and are at most so many
abbrev pub IsShaped : {A : Type 0} → ℕ → ℕ → ℕ → Script A → Type 0
IsShaped low high most (Return value) = Unit {0}
IsShaped low high zero (Ask kind at size value rest) = ⊥
IsShaped low high (suc most) (Ask kind at size value rest) =
    (low ≤ rank kind) × ((rank kind ≤ high) × ((answer : ℕ) → IsShaped (rank kind) high most (rest answer)))

abbrev pub Reads : {A : Type 0} → ℕ → Script A → Type 0
Reads most script = IsShaped 1 1 most script

abbrev pub Writes : {A : Type 0} → ℕ → Script A → Type 0
Writes most script = IsShaped 2 2 most script

abbrev pub ReadsThenWrites : {A : Type 0} → ℕ → Script A → Type 0
ReadsThenWrites most script = IsShaped 1 2 most script

abbrev pub FetchesFirst : {A : Type 0} → ℕ → Script A → Type 0
FetchesFirst most script = IsShaped 0 2 most script

pub IsShaped-wider : {A : Type 0} (low high most low' high' most' : ℕ) (script : Script A) → low' ≤ low → high ≤ high' → most ≤ most' → IsShaped low high most script → IsShaped low' high' most' script
IsShaped-wider low high most low' high' most' (Return value) lower higher more shaped = tt
IsShaped-wider low high zero low' high' most' (Ask kind at size value rest) lower higher more shaped = absurd shaped
IsShaped-wider low high (suc most) low' high' zero (Ask kind at size value rest) lower higher more shaped = absurd (omega arith)
IsShaped-wider low high (suc most) low' high' (suc most') (Ask kind at size value rest) lower higher more shaped =
    (omega (arith, shaped.0), (omega (arith, shaped.1.0), λ answer. IsShaped-wider (rank kind) high most (rank kind) high' most' (rest answer) (omega arith) higher (omega arith) (shaped.1.1 answer)))

-- one script after another
pub IsShaped-and_then : {A B : Type 0} (low middle high m n most : ℕ) (first : Script A) (rest : A → Script B) → low ≤ middle → middle ≤ high → m + n ≤ most → IsShaped low middle m first → ((value : A) → IsShaped middle high n (rest value)) → IsShaped low high most (and_then first rest)
IsShaped-and_then low middle high m n most (Return value) rest lower higher fits first_shaped rest_shaped =
    IsShaped-wider middle high n low high most (rest value) lower (omega arith) (omega arith) (rest_shaped value)
IsShaped-and_then low middle high zero n most (Ask kind at size value more) rest lower higher fits first_shaped rest_shaped = absurd first_shaped
IsShaped-and_then low middle high (suc m) n zero (Ask kind at size value more) rest lower higher fits first_shaped rest_shaped = absurd (omega arith)
IsShaped-and_then low middle high (suc m) n (suc most) (Ask kind at size value more) rest lower higher fits first_shaped rest_shaped =
    (first_shaped.0, (omega (arith, first_shaped.1.0), λ answer. IsShaped-and_then (rank kind) middle high m n most (more answer) rest first_shaped.1.0 higher (omega arith) (first_shaped.1.1 answer) rest_shaped))

reads_first : {A B : Type 0} (m n most : ℕ) (first : Script A) (rest : A → Script B) → m + n ≤ most → Reads m first → ((value : A) → ReadsThenWrites n (rest value)) → ReadsThenWrites most (and_then first rest)
reads_first m n most first rest fits first_shaped rest_shaped =
    IsShaped-and_then 1 1 2 m n most first rest (omega arith) (omega arith) fits first_shaped rest_shaped

writes_first : {A B : Type 0} (m n most : ℕ) (first : Script A) (rest : A → Script B) → m + n ≤ most → Writes m first → ((value : A) → Writes n (rest value)) → ReadsThenWrites most (and_then first rest)
writes_first m n most first rest fits first_shaped rest_shaped =
    IsShaped-wider 2 2 most 1 2 most (and_then first rest) (omega arith) (omega arith) (omega arith)
    (IsShaped-and_then 2 2 2 m n most first rest (omega arith) (omega arith) fits first_shaped rest_shaped)

-- a value behind a script
then_value : {A B : Type 0} (most : ℕ) (first : Script A) (value_of : A → B) → ReadsThenWrites most first → ReadsThenWrites most (and_then first (λ value. Return (value_of value)))
then_value most first value_of shaped =
    IsShaped-and_then 1 2 2 most 0 most first _ (omega arith) (omega arith) (omega arith) shaped (λ value. tt)

pub either_holds : {A : Type 0} (Holds : A → Type 0) (test : Bool) (one other : A) → Holds one → Holds other → Holds (if test then one else other)
either_holds Holds true one other one_holds other_holds = one_holds
either_holds Holds false one other one_holds other_holds = other_holds

-- ---- operands

asked-Reads : (at : ℕ) (size : Size) → Reads 2 (asked at size)
unfolding asked
asked-Reads at Addr = (omega arith, (omega arith, λ low. (omega arith, (omega arith, λ high. tt))))
asked-Reads at Byte = (omega arith, (omega arith, λ answer. tt))
asked-Reads at Word = (omega arith, (omega arith, λ answer. tt))

put-Writes : (at : ℕ) (size : Size) (value : ℕ) → Writes 2 (put at size value)
unfolding put
put-Writes at Addr value = (omega arith, (omega arith, λ low. (omega arith, (omega arith, λ high. tt))))
put-Writes at Byte value = (omega arith, (omega arith, λ answer. tt))
put-Writes at Word value = (omega arith, (omega arith, λ answer. tt))

put_down-Writes : (at : ℕ) (size : Size) (value : ℕ) → Writes 2 (put_down at size value)
unfolding put_down
put_down-Writes at Addr value = (omega arith, (omega arith, λ high. (omega arith, (omega arith, λ low. tt))))
put_down-Writes at Byte value = (omega arith, (omega arith, λ answer. tt))
put_down-Writes at Word value = (omega arith, (omega arith, λ answer. tt))

source-Reads : (size : Size) (registers : List ℕ) (pc : ℕ) (place : Place) → Reads 2 (source size registers pc place)
unfolding source
source-Reads size registers pc (Reg r) = tt
source-Reads size registers pc (Const value) = tt
source-Reads size registers pc (Imm value) = tt
source-Reads size registers pc place = asked-Reads (address_of registers pc place) size

target-Reads : (size : Size) (registers : List ℕ) (at : ℕ) (place : Place) → Reads 2 (target size registers at place)
unfolding target
target-Reads size registers at (Reg r) = tt
target-Reads size registers at place = asked-Reads at size

stored_to-Writes : (size : Size) (registers : List ℕ) (at : ℕ) (place : Place) (value : ℕ) → Writes 2 (stored_to size registers at place value)
unfolding stored_to
stored_to-Writes size registers at (Reg r) value = tt
stored_to-Writes size registers at place value =
    IsShaped-and_then 2 2 2 2 0 2 (put at size value) _ (omega arith) (omega arith) (omega arith) (put-Writes at size value) (λ done. tt)

-- ---- instructions of the MSP430

two_target-Reads : (op : Op2) (size : Size) (registers : List ℕ) (at : ℕ) (place : Place) → Reads 2 (two_target op size registers at place)
unfolding two_target
two_target-Reads op size registers at place = by_test (reads_destination op)
  where
    by_test : (v : Bool) → Reads 2 (read_if v (target size registers at place))
    by_test true = target-Reads size registers at place
    by_test false = tt

two_store-Writes : (op : Op2) (size : Size) (registers : List ℕ) (at : ℕ) (place : Place) (value : ℕ) → Writes 2 (two_store op size registers at place value)
unfolding two_store
two_store-Writes op size registers at place value = by_test (writes_destination op)
  where
    by_test : (v : Bool) → Writes 2 (write_if v registers (stored_to size registers at place value))
    by_test true = stored_to-Writes size registers at place value
    by_test false = tt

two_operands-shaped : (op : Op2) (size : Size) (from to : Place) (pc : ℕ) (registers : List ℕ) → ReadsThenWrites 6 (two_operands op size from to pc registers)
unfolding two_operands
two_operands-shaped op size from to pc registers =
    reads_first 2 4 6 _ _ (omega arith) (source-Reads size registers pc from) (λ src.
    reads_first 2 2 4 _ _ (omega arith) (two_target-Reads op size _ _ to) (λ dst.
    writes_first 2 0 2 _ _ (omega arith) (two_store-Writes op size _ _ to _) (λ after. tt)))

changed-shaped : (op : Op1) (size : Size) (place : Place) (pc : ℕ) (registers : List ℕ) → ReadsThenWrites 4 (changed op size place pc registers)
unfolding changed
changed-shaped op size place pc registers =
    reads_first 2 2 4 _ _ (omega arith) (source-Reads size registers pc place) (λ x.
    writes_first 2 0 2 _ _ (omega arith) (stored_to-Writes size _ _ place _) (λ after. tt))

pushed-shaped : (size : Size) (value : ℕ) (registers : List ℕ) → ReadsThenWrites 2 (pushed size value registers)
unfolding pushed
pushed-shaped size value registers = writes_first 2 0 2 _ _ (omega arith) (put_down-Writes _ size value) (λ done. tt)

push-shaped : (size : Size) (place : Place) (pc : ℕ) (registers : List ℕ) → ReadsThenWrites 4 (push size place pc registers)
unfolding push
push-shaped size place pc registers =
    reads_first 2 2 4 _ _ (omega arith) (source-Reads size registers pc place) (λ x. pushed-shaped size _ _)

call-shaped : (place : Place) (pc : ℕ) (registers : List ℕ) → ReadsThenWrites 4 (call place pc registers)
unfolding call
call-shaped place pc registers =
    reads_first 2 2 4 _ _ (omega arith) (source-Reads Word registers pc place) (λ x.
    then_value 2 _ _ (pushed-shaped Word _ _))

return_from_interrupt-shaped : (registers : List ℕ) → ReadsThenWrites 2 (return_from_interrupt registers)
unfolding return_from_interrupt
return_from_interrupt-shaped registers = (omega arith, (omega arith, λ status. (omega arith, (omega arith, λ low. tt))))

one_operand-shaped : (op : Op1) (size : Size) (place : Place) (pc : ℕ) (registers : List ℕ) → ReadsThenWrites 4 (one_operand op size place pc registers)
unfolding one_operand
one_operand-shaped Push size place pc registers = push-shaped size place pc registers
one_operand-shaped Call size place pc registers = call-shaped place pc registers
one_operand-shaped op size place pc registers = changed-shaped op size place pc registers

one_operand-within : (op : Op1) (size : Size) (place : Place) (pc : ℕ) (registers : List ℕ) → ReadsThenWrites 6 (one_operand op size place pc registers)
one_operand-within op size place pc registers =
    IsShaped-wider 1 2 4 1 2 6 _ (omega arith) (omega arith) (omega arith) (one_operand-shaped op size place pc registers)

performed-shaped : (d : Decoded) (pc : ℕ) (registers : List ℕ) → ReadsThenWrites 6 (performed d pc registers)
unfolding performed
performed-shaped made.Reti pc registers =
    IsShaped-wider 1 2 2 1 2 6 _ (omega arith) (omega arith) (omega arith) (return_from_interrupt-shaped registers)
performed-shaped (made.Two op size from to rep long) pc registers = two_operands-shaped op size from to pc registers
performed-shaped (made.One op size place rep long) pc registers = one_operand-within op size place pc registers
performed-shaped d pc registers = tt

executed-shaped : (d : Decoded) (ia next : ℕ) (registers : List ℕ) → ReadsThenWrites 6 (executed d ia next registers)
unfolding executed
executed-shaped made.Reserved ia next registers = tt
executed-shaped d ia next registers = then_value 6 _ _ (performed-shaped d _ _)

-- ---- instructions of the MSP430X

moved-shaped : (from to : Place) (pc : ℕ) (registers : List ℕ) → ReadsThenWrites 6 (moved from to pc registers)
unfolding moved
moved-shaped from to pc registers =
    reads_first 2 2 6 _ _ (omega arith) (source-Reads Addr registers pc from) (λ value.
    IsShaped-wider 2 2 2 1 2 2 _ (omega arith) (omega arith) (omega arith) (stored_to-Writes Addr _ _ to value))

addressed-shaped : (op : OpA) (from : Place) (to pc : ℕ) (registers : List ℕ) → ReadsThenWrites 6 (addressed op from to pc registers)
unfolding addressed
addressed-shaped op from to pc registers =
    reads_first 2 0 6 _ _ (omega arith) (source-Reads Addr registers pc from) (λ src. tt)

called-shaped : (place : Place) (pc : ℕ) (registers : List ℕ) → ReadsThenWrites 6 (called place pc registers)
unfolding called
called-shaped place pc registers =
    reads_first 2 2 6 _ _ (omega arith) (source-Reads Addr registers pc place) (λ x.
    then_value 2 _ _ (pushed-shaped Addr _ _))

pushed_below-Writes : (size : Size) (count r at most : ℕ) (registers : List ℕ) → 2 * count ≤ most → Writes most (pushed_below size count r at registers)
unfolding pushed_below
pushed_below-Writes size zero r at most registers fits = tt
pushed_below-Writes size (suc count) r at most registers fits =
    IsShaped-and_then 2 2 2 2 (most - 2) most _ _ (omega arith) (omega arith) (omega arith) (put_down-Writes _ size _) (λ done.
    pushed_below-Writes size count _ _ (most - 2) registers (omega arith))

popped_from-Reads : (size : Size) (count r at most : ℕ) (registers : List ℕ) → 2 * count ≤ most → Reads most (popped_from size count r at registers)
unfolding popped_from
popped_from-Reads size zero r at most registers fits = tt
popped_from-Reads size (suc count) r at most registers fits =
    IsShaped-and_then 1 1 1 2 (most - 2) most _ _ (omega arith) (omega arith) (omega arith) (asked-Reads at size) (λ value.
    popped_from-Reads size count _ _ (most - 2) _ (omega arith))

extended_two-shaped : (op : Op2) (size : Size) (from to : Place) (rep : Rep) (pc : ℕ) (registers : List ℕ) → ReadsThenWrites 6 (extended_two op size from to rep pc registers)
unfolding extended_two
extended_two-shaped op size from (Reg to) rep pc registers =
    either_holds (ReadsThenWrites 6) (is_register_source from) _ _ tt (two_operands-shaped op size from (Reg to) pc registers)
extended_two-shaped op size from to rep pc registers = two_operands-shaped op size from to pc registers

extended_one-shaped : (op : Op1) (size : Size) (place : Place) (rep : Rep) (pc : ℕ) (registers : List ℕ) → ReadsThenWrites 6 (extended_one op size place rep pc registers)
unfolding extended_one
extended_one-shaped Push size place rep pc registers = one_operand-within Push size place pc registers
extended_one-shaped Call size place rep pc registers = one_operand-within Call size place pc registers
extended_one-shaped op size (Reg r) rep pc registers = tt
extended_one-shaped op size place rep pc registers = one_operand-within op size place pc registers

-- at most 16 registers are pushed or popped
abbrev IsCounted : Decoded → Type 0
IsCounted (made.PushMany size count r) = count ≤ 16
IsCounted (made.PopMany size count r) = count ≤ 16
IsCounted d = Unit {0}

instruction_of-IsCounted : (f : Form) (words : List ℕ) → IsCounted (instruction_of f words)
unfolding instruction_of decoded_two decoded_one long_two_operands long_one_operand jump shift_many
instruction_of-IsCounted form.PushMany words = omega arith
instruction_of-IsCounted form.PopMany words = omega arith
instruction_of-IsCounted f words = tt

decoded-IsCounted : (words : List ℕ) → IsCounted (decoded words)
unfolding decoded
decoded-IsCounted words = instruction_of-IsCounted (shape_of (slice_index words 0) (slice_index words 1)).form words

within : {A : Type 0} (script : Script A) → ReadsThenWrites 6 script → ReadsThenWrites 32 script
within script shaped = IsShaped-wider 1 2 6 1 2 32 script (omega arith) (omega arith) (omega arith) shaped

extended-shaped : (d : Decoded) (pc : ℕ) (registers : List ℕ) → IsCounted d → ReadsThenWrites 32 (extended d pc registers)
unfolding extended
extended-shaped (made.Two op size from to rep long) pc registers counted = within _ (extended_two-shaped op size from to rep pc registers)
extended-shaped (made.One op size place rep long) pc registers counted = within _ (extended_one-shaped op size place rep pc registers)
extended-shaped (made.Move from to) pc registers counted = within _ (moved-shaped from to pc registers)
extended-shaped (made.Addr op from to) pc registers counted = within _ (addressed-shaped op from to pc registers)
extended-shaped (made.PushMany size count r) pc registers counted =
    IsShaped-wider 2 2 32 1 2 32 _ (omega arith) (omega arith) (omega arith) (pushed_below-Writes size count r _ 32 registers (omega arith))
extended-shaped (made.PopMany size count r) pc registers counted =
    IsShaped-wider 1 1 32 1 2 32 _ (omega arith) (omega arith) (omega arith) (popped_from-Reads size count r _ 32 registers (omega arith))
extended-shaped (made.CallA to) pc registers counted = within _ (called-shaped to pc registers)
extended-shaped d pc registers counted = tt

-- ---- the whole instruction

-- what follows the fetches
pub step_of_words-shaped : (words : List ℕ) (at next : ℕ) (registers : List ℕ) → ReadsThenWrites 32 (step_of_words words at next registers)
unfolding step_of_words extended_step
step_of_words-shaped words at next registers = by_form (is_short (decoded words))
  where
    by_form : (v : Bool) → ReadsThenWrites 32 (step_by v (decoded words) at next registers)
    by_form true = within _ (executed-shaped (decoded words) at next registers)
    by_form false = then_value 32 _ _ (extended-shaped (decoded words) _ _ (decoded-IsCounted words))

last_word-shaped : (most : ℕ) (words : List ℕ) (at next : ℕ) (registers : List ℕ) → 32 ≤ most → FetchesFirst most (step_of_words words at next registers)
last_word-shaped most words at next registers fits =
    IsShaped-wider 1 2 32 0 2 most _ (omega arith) (omega arith) fits (step_of_words-shaped words at next registers)

fetched-shaped : (most at : ℕ) (rest : ℕ → Script Stepped) → ((word : ℕ) → FetchesFirst most (rest word)) → FetchesFirst (suc most) (Ask Fetch at Word 0 rest)
fetched-shaped most at rest rest_shaped = (omega arith, (omega arith, rest_shaped))

of_two_words-shaped : (count w0 w1 at : ℕ) (registers : List ℕ) → FetchesFirst 34 (of_two_words count w0 w1 at registers)
unfolding of_two_words
of_two_words-shaped count w0 w1 at registers =
    let four : ℕ → ℕ → Script Stepped = λ w2 w3. step_of_words (w0 ∷ w1 ∷ w2 ∷ w3 ∷ []) at (behind 8 at) registers in
    let three : ℕ → Script Stepped = λ w2. step_of_words (w0 ∷ w1 ∷ w2 ∷ 0 ∷ []) at (behind 6 at) registers in
    either_holds (FetchesFirst 34) (count == 2) _ _ (last_word-shaped 34 (w0 ∷ w1 ∷ 0 ∷ 0 ∷ []) at (behind 4 at) registers (omega arith))
    (either_holds (FetchesFirst 34) (count == 3) _ _
    (fetched-shaped 33 (behind 4 at) three (λ w2. last_word-shaped 33 (w0 ∷ w1 ∷ w2 ∷ 0 ∷ []) at (behind 6 at) registers (omega arith)))
    (fetched-shaped 33 (behind 4 at) (λ w2. Ask Fetch (behind 6 at) Word 0 (four w2)) (λ w2.
    fetched-shaped 32 (behind 6 at) (four w2) (λ w3. last_word-shaped 32 (w0 ∷ w1 ∷ w2 ∷ w3 ∷ []) at (behind 8 at) registers (omega arith)))))

of_one_word-shaped : (count w0 at : ℕ) (registers : List ℕ) → FetchesFirst 35 (of_one_word count w0 at registers)
unfolding of_one_word
of_one_word-shaped count w0 at registers =
    either_holds (FetchesFirst 35) (count == 1) _ _ (last_word-shaped 35 (w0 ∷ 0 ∷ 0 ∷ 0 ∷ []) at (behind 2 at) registers (omega arith))
    (fetched-shaped 34 (behind 2 at) (λ w1. of_two_words count w0 w1 at registers) (λ w1. of_two_words-shaped count w0 w1 at registers))

of_first_word-shaped : (is_extension : Bool) (w0 at : ℕ) (registers : List ℕ) → FetchesFirst 35 (of_first_word is_extension w0 at registers)
of_first_word-shaped true w0 at registers =
    fetched-shaped 34 (behind 2 at) (λ w1. of_two_words (length_of w0 w1) w0 w1 at registers) (λ w1. of_two_words-shaped (length_of w0 w1) w0 w1 at registers)
of_first_word-shaped false w0 at registers = of_one_word-shaped (length_of w0 0) w0 at registers

instruction-shaped : (registers : List ℕ) → FetchesFirst 36 (instruction registers)
unfolding instruction
instruction-shaped registers =
    fetched-shaped 35 (slice_index registers PC) (λ w0. of_first_word (is_extension w0) w0 (slice_index registers PC) registers) (λ w0. of_first_word-shaped (is_extension w0) w0 (slice_index registers PC) registers)

-- ---- what the shape says

IsOrderly-shaped : {A : Type 0} (low high most : ℕ) (script : Script A) → IsShaped low high most script → IsOrderly low script
IsOrderly-shaped low high most (Return value) shaped = tt
IsOrderly-shaped low high zero (Ask kind at size value rest) shaped = absurd shaped
IsOrderly-shaped low high (suc most) (Ask kind at size value rest) shaped =
    (shaped.0, λ answer. IsOrderly-shaped (rank kind) high most (rest answer) (shaped.1.1 answer))

AtMost-shaped : {A : Type 0} (low high most : ℕ) (script : Script A) → IsShaped low high most script → AtMost most script
AtMost-shaped low high most (Return value) shaped = tt
AtMost-shaped low high zero (Ask kind at size value rest) shaped = absurd shaped
AtMost-shaped low high (suc most) (Ask kind at size value rest) shaped =
    λ answer. AtMost-shaped (rank kind) high most (rest answer) (shaped.1.1 answer)

pub accesses_come_in_order : AccessesComeInOrder
accesses_come_in_order registers = IsOrderly-shaped 0 2 36 (instruction registers) (instruction-shaped registers)

pub accesses_are_few : AccessesAreFew
accesses_are_few registers = AtMost-shaped 0 2 36 (instruction registers) (instruction-shaped registers)
