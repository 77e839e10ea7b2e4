-- What the words of an instruction mean, and how many they are.
use Rattle.std.specs.Prelude.{◌≡◌, ◌<◌, ℕ, ◌+◌, Bool, true, false, ◌==◌, ◌&&◌, not, if◌then◌else◌, IsTrue, List, slice_index}
use Rattle.chip_words.specs.declared.sizes.Size.{Size}
use Rattle.chip_words.specs.declared.sizes.Size.TheVariants.{Word, Addr}
use Rattle.chip_words.specs.Bits.{has_bit}
use Rattle.chip_words.specs.Registers.{PC}
use Rattle.chip_words.specs.Signed.{signed_value}
use Rattle.chip_words.specs.Sizes.{span}
use Rattle.cpux_decode.specs.declared.forms.Form.{Form}
use Rattle.cpux_decode.specs.declared.forms.Form.TheVariants.{Reserved, MoveAt, MoveAtPlus, MoveAbsolute, MoveIndexed, MoveToAbsolute, MoveToIndexed, MoveImm, MoveReg, AddrImm, AddrReg, ShiftMany, One, Reti, CallReg, CallIndexed, CallAt, CallAtPlus, CallAbsolute, CallSymbolic, CallImm, PushMany, PopMany, LongOne, LongTwo, Jump, Two}
use Rattle.cpux_decode.specs.declared.places.Place.TheVariants.{Reg, Far, Absolute, At, AtPlus, Imm}
use Rattle.cpux_decode.specs.declared.operations.Op1.{Op1}
use Rattle.cpux_decode.specs.declared.operations.Op1.TheVariants.{Push}
use Rattle.cpux_decode.specs.declared.operations.Op2.{Op2}
use Rattle.cpux_decode.specs.declared.operations.OpS.{OpS}
use Rattle.cpux_decode.specs.declared.operations.OpS.TheVariants as shift
use Rattle.cpux_decode.specs.declared.instructions.Decoded.{Decoded}
use Rattle.cpux_decode.specs.declared.instructions.Decoded.TheVariants as made
use Rattle.cpux_decode.specs.Operands.{bits, wide, sign_extended, source_place, source_words, destination_place, size_of, long_size_of, once, rep_of}
use Rattle.cpux_decode.specs.Table.{shape_of, is_reserved}

-- two operands: the operation in bits 15:12, the source register in 11:8, Ad 7, B/W 6, As 5:4, the
-- destination register in 3:0. The word of the source stands before that of the destination.
unfoldable pub two_operands : Op2 → List ℕ → Decoded
two_operands op words =
    let word = slice_index words 0 in
    let mode = bits word 5 4 in
    let from = bits word 11 8 in
    let next = 1 + source_words mode from in
    made.Two op (size_of word)
    (source_place false 0 mode from (slice_index words 1))
    (destination_place false 0 (bits word 7 7) (bits word 3 0) (slice_index words next))
    once false

-- behind an extension word, which has bits 19:16 of the source in 10:7 and those of the destination in
-- 3:0. The register form, As 00 and Ad 0, is repeated.
unfoldable pub long_two_operands : Op2 → List ℕ → Decoded
long_two_operands op words =
    let extension = slice_index words 0 in
    let word = slice_index words 1 in
    let mode = bits word 5 4 in
    let from = bits word 11 8 in
    let next = 2 + source_words mode from in
    made.Two op (long_size_of extension word)
    (source_place true (bits extension 10 7) mode from (slice_index words 2))
    (destination_place true (bits extension 3 0) (bits word 7 7) (bits word 3 0) (slice_index words next))
    (rep_of ((mode == 0) && (bits word 7 7 == 0)) extension) true

-- one operand: the operation in bits 9:7, B/W 6, As 5:4, the register in 3:0
unfoldable pub one_operand : Op1 → List ℕ → Decoded
one_operand op words =
    let word = slice_index words 0 in
    made.One op (size_of word)
    (source_place false 0 (bits word 5 4) (bits word 3 0) (slice_index words 1))
    once false

abbrev pub is_push : Op1 → Bool
is_push Push = true
is_push op = false

-- behind an extension word, which has bits 19:16 of the operand in 3:0. The register form, As 00, is
-- repeated, but PUSH is not.
unfoldable pub long_one_operand : Op1 → List ℕ → Decoded
long_one_operand op words =
    let extension = slice_index words 0 in
    let word = slice_index words 1 in
    let mode = bits word 5 4 in
    made.One op (long_size_of extension word)
    (source_place true (bits extension 3 0) mode (bits word 3 0) (slice_index words 2))
    (rep_of ((mode == 0) && not (is_push op)) extension) true

-- a jump: the condition in bits 12:10, and in 9:0 a signed distance in words
unfoldable pub jump : ℕ → Decoded
jump word = made.Jump (bits word 12 10) (signed_value 0x400 (bits word 9 0))

abbrev pub shift_operation : ℕ → OpS
shift_operation n =
    if n == 0 then shift.Rrc
    else if n == 1 then shift.Rra
    else if n == 2 then shift.Rla
    else shift.Rru

-- the shifts of several places: the count less one in bits 11:10, the operation in 9:8, .W in bit 4,
-- the register in 3:0
unfoldable pub shift_many : ℕ → Decoded
shift_many word =
    made.Shift (shift_operation (bits word 9 8)) (if has_bit word 4 then Word else Addr)
    (bits word 11 10 + 1) (bits word 3 0)

-- PUSHM and POPM: .W in bit 8, the count less one in bits 7:4, the register in 3:0
abbrev pub many_size : ℕ → Size
many_size word = if has_bit word 8 then Word else Addr

abbrev pub many_count : ℕ → ℕ
many_count word = bits word 7 4 + 1

-- the first word
abbrev pub first_word : List ℕ → ℕ
first_word words = slice_index words 0

abbrev pub second_word : List ℕ → ℕ
second_word words = slice_index words 1

-- of an address instruction the source field, bits 11:8
abbrev pub source_field : List ℕ → ℕ
source_field words = bits (first_word words) 11 8

-- the destination field, bits 3:0
abbrev pub destination_field : List ℕ → ℕ
destination_field words = bits (first_word words) 3 0

-- 20 bits with 19:16 in the source field, and the others in the second word
abbrev pub source_value : List ℕ → ℕ
source_value words = wide (source_field words) (second_word words)

-- 20 bits with 19:16 in the destination field
abbrev pub destination_value : List ℕ → ℕ
destination_value words = wide (destination_field words) (second_word words)

-- the second word as a signed index
abbrev pub signed_index : List ℕ → ℕ
signed_index words = sign_extended (span Word) (span Addr) (second_word words)

-- an instruction of this form with the fields of its words
unfoldable pub instruction_of : Form → List ℕ → Decoded
instruction_of Reserved words = made.Reserved
instruction_of MoveAt words = made.Move (At (source_field words)) (Reg (destination_field words))
instruction_of MoveAtPlus words = made.Move (AtPlus (source_field words)) (Reg (destination_field words))
instruction_of MoveAbsolute words = made.Move (Absolute (source_value words)) (Reg (destination_field words))
instruction_of MoveIndexed words =
    made.Move (Far (source_field words) (signed_index words)) (Reg (destination_field words))
instruction_of MoveToAbsolute words = made.Move (Reg (source_field words)) (Absolute (destination_value words))
instruction_of MoveToIndexed words =
    made.Move (Reg (source_field words)) (Far (destination_field words) (signed_index words))
instruction_of MoveImm words = made.Move (Imm (source_value words)) (Reg (destination_field words))
instruction_of MoveReg words = made.Move (Reg (source_field words)) (Reg (destination_field words))
instruction_of (AddrImm op) words = made.Addr op (Imm (source_value words)) (destination_field words)
instruction_of (AddrReg op) words = made.Addr op (Reg (source_field words)) (destination_field words)
instruction_of ShiftMany words = shift_many (first_word words)
instruction_of (One op) words = one_operand op words
instruction_of Reti words = made.Reti
instruction_of CallReg words = made.CallA (Reg (destination_field words))
instruction_of CallIndexed words = made.CallA (Far (destination_field words) (signed_index words))
instruction_of CallAt words = made.CallA (At (destination_field words))
instruction_of CallAtPlus words = made.CallA (AtPlus (destination_field words))
instruction_of CallAbsolute words = made.CallA (Absolute (destination_value words))
instruction_of CallSymbolic words = made.CallA (Far PC (destination_value words))
instruction_of CallImm words = made.CallA (Imm (destination_value words))
instruction_of PushMany words =
    made.PushMany (many_size (first_word words)) (many_count (first_word words)) (destination_field words)
instruction_of PopMany words =
    made.PopMany (many_size (first_word words)) (many_count (first_word words)) (destination_field words)
instruction_of (LongOne op) words = long_one_operand op words
instruction_of (LongTwo op) words = long_two_operands op words
instruction_of Jump words = jump (first_word words)
instruction_of (Two op) words = two_operands op words

-- a word from 1800h to 1FFFh, which is followed by an instruction word
abbrev pub is_extension : ℕ → Bool
is_extension word = bits word 15 11 == 3

-- the form of the instruction that begins with these two
abbrev pub form_of : ℕ → ℕ → Form
form_of w0 w1 = (shape_of w0 w1).form

-- the instruction that some words begin with: the table is looked up with the first two
unfoldable pub decoded : List ℕ → Decoded
decoded words = instruction_of (shape_of (first_word words) (second_word words)).form words

-- their first two meet a reserved row of the table
abbrev pub IsReserved : List ℕ → Type 0
IsReserved words = IsTrue (is_reserved (first_word words) (second_word words))

-- the words of the operands by their addressing modes
unfoldable pub operand_words : Form → ℕ → ℕ → ℕ
operand_words (One op) w0 w1 = source_words (bits w0 5 4) (bits w0 3 0)
operand_words (Two op) w0 w1 = source_words (bits w0 5 4) (bits w0 11 8) + bits w0 7 7
operand_words (LongOne op) w0 w1 = source_words (bits w1 5 4) (bits w1 3 0)
operand_words (LongTwo op) w0 w1 = source_words (bits w1 5 4) (bits w1 11 8) + bits w1 7 7
operand_words form w0 w1 = 0

-- how many words belong to the instruction that begins with these two
unfoldable pub length_of : ℕ → ℕ → ℕ
length_of w0 w1 = (shape_of w0 w1).words + operand_words (shape_of w0 w1).form w0 w1

-- two lists begin with the same words, as many as this
abbrev pub SameFront : ℕ → List ℕ → List ℕ → Type 0
SameFront n words others = (k : ℕ) → k < n → slice_index words k ≡ slice_index others k
