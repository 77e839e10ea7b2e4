-- An instruction looks at its own words alone.
use Rattle.std.proofs.Common.{◌≡◌, ℕ, zero, suc, ◌+◌, ◌<◌, ◌≤◌, Bool, true, false, List, refl, ap, sym, ◌∙◌, arith, lit≤, lit<, slice_index}
use Rattle.std.proofs.lemmas.Bool.Decides.{nat_tests}
use Rattle.cpux_decode.specs.declared.forms.Form.{Form}
use Rattle.cpux_decode.specs.declared.forms.Form.TheVariants.{Reserved, MoveAt, MoveAtPlus, MoveAbsolute, MoveIndexed, MoveToAbsolute, MoveToIndexed, MoveImm, MoveReg, AddrImm, AddrReg, ShiftMany, One, Reti, CallReg, CallIndexed, CallAt, CallAtPlus, CallAbsolute, CallSymbolic, CallImm, PushMany, PopMany, LongOne, LongTwo, Jump, Two}
use Rattle.cpux_decode.specs.declared.operations.Op1.{Op1}
use Rattle.cpux_decode.specs.declared.operations.Op2.{Op2}
use Rattle.cpux_decode.specs.declared.forms.Shape.{Shape}
use Rattle.cpux_decode.specs.Table.{shape_of}
use Rattle.cpux_decode.specs.Operands.{bits, source_place, source_words, destination_place}
use Rattle.cpux_decode.specs.Instructions.{two_operands, long_two_operands, one_operand, long_one_operand, jump, shift_many, form_of, instruction_of, decoded, operand_words, length_of, is_extension, SameFront}
use Rattle.cpux_decode.proofs.Shapes.{field_words, shape_words, shape_words-most, is_long_form, shape-alone, extension_words, long_form-alone}

-- ---- operands

source_alone : (long : Bool) (high mode r x y : ℕ) → mode < 4 → source_words mode r ≡ 0 →
    source_place long high mode r x ≡ source_place long high mode r y
unfolding source_words source_place
source_alone long high mode r x y b h = grind (arith, nat_tests)

source_same : (long : Bool) (high mode r x y n : ℕ) → mode < 4 → source_words mode r ≡ n → (0 < n → x ≡ y) →
    source_place long high mode r x ≡ source_place long high mode r y
source_same long high mode r x y zero b h k = source_alone long high mode r x y b h
source_same long high mode r x y (suc n) b h k = ap (source_place long high mode r) (k (omega arith))

destination_same : (long : Bool) (high mode r x y n : ℕ) → mode ≡ n → (0 < n → x ≡ y) →
    destination_place long high mode r x ≡ destination_place long high mode r y
unfolding destination_place
destination_same long high mode r x y zero h k = rw h refl
destination_same long high mode r x y (suc n) h k =
    ap (destination_place long high mode r) (k (omega arith))

-- ---- instructions

one_same : (op : Op1) (a b : List ℕ) →
    SameFront (1 + source_words (bits (slice_index a 0) 5 4) (bits (slice_index a 0) 3 0)) a b →
    one_operand op a ≡ one_operand op b
unfolding one_operand
one_same op a b s =
    let e = s 0 (omega arith) in
    let p =
    source_same false 0 (bits (slice_index a 0) 5 4) (bits (slice_index a 0) 3 0) (slice_index a 1)
    (slice_index b 1) (source_words (bits (slice_index a 0) 5 4) (bits (slice_index a 0) 3 0))
    (omega arith) refl (λ k. s 1 (omega arith)) in
    cc

two_same : (op : Op2) (a b : List ℕ) →
    SameFront
    (1 +
    (source_words (bits (slice_index a 0) 5 4) (bits (slice_index a 0) 11 8) + bits
    (slice_index a 0) 7 7)) a b →
    two_operands op a ≡ two_operands op b
unfolding two_operands
two_same op a b s =
    let m = bits (slice_index a 0) 5 4 in
    let r = bits (slice_index a 0) 11 8 in
    let e = s 0 (omega arith) in
    let p =
    source_same false 0 m r (slice_index a 1) (slice_index b 1) (source_words m r) (omega arith) refl
    (λ k. s 1 (omega arith)) in
    let d =
    destination_same false 0 (bits (slice_index a 0) 7 7) (bits (slice_index a 0) 3 0)
    (slice_index a (1 + source_words m r)) (slice_index b (1 + source_words m r))
    (bits (slice_index a 0) 7 7) refl (λ k. s (1 + source_words m r) (omega arith)) in
    cc

long_one_same : (op : Op1) (a b : List ℕ) →
    SameFront (2 + source_words (bits (slice_index a 1) 5 4) (bits (slice_index a 1) 3 0)) a b →
    long_one_operand op a ≡ long_one_operand op b
unfolding long_one_operand
long_one_same op a b s =
    let m = bits (slice_index a 1) 5 4 in
    let r = bits (slice_index a 1) 3 0 in
    let e = s 0 (omega arith) in
    let f = s 1 (omega arith) in
    let p =
    source_same true (bits (slice_index a 0) 3 0) m r (slice_index a 2) (slice_index b 2)
    (source_words m r) (omega arith) refl (λ k. s 2 (omega arith)) in
    cc

long_two_same : (op : Op2) (a b : List ℕ) →
    SameFront
    (2 +
    (source_words (bits (slice_index a 1) 5 4) (bits (slice_index a 1) 11 8) + bits
    (slice_index a 1) 7 7)) a b →
    long_two_operands op a ≡ long_two_operands op b
unfolding long_two_operands
long_two_same op a b s =
    let m = bits (slice_index a 1) 5 4 in
    let r = bits (slice_index a 1) 11 8 in
    let e = s 0 (omega arith) in
    let f = s 1 (omega arith) in
    let p =
    source_same true (bits (slice_index a 0) 10 7) m r (slice_index a 2) (slice_index b 2)
    (source_words m r) (omega arith) refl (λ k. s 2 (omega arith)) in
    let d =
    destination_same true (bits (slice_index a 0) 3 0) (bits (slice_index a 1) 7 7)
    (bits (slice_index a 1) 3 0) (slice_index a (2 + source_words m r))
    (slice_index b (2 + source_words m r)) (bits (slice_index a 1) 7 7) refl
    (λ k. s (2 + source_words m r) (omega arith)) in
    cc

same_by_first : {A : Type 0} (f : ℕ → A) (n : ℕ) (a b : List ℕ) → 0 < n → SameFront n a b →
    f (slice_index a 0) ≡ f (slice_index b 0)
same_by_first f n a b h s = ap f (s 0 h)

instruction_same : (form : Form) (a b : List ℕ) →
    SameFront (field_words form + operand_words form (slice_index a 0) (slice_index a 1)) a b →
    instruction_of form a ≡ instruction_of form b
unfolding instruction_of operand_words
instruction_same (One op) a b s = one_same op a b s
instruction_same (Two op) a b s = two_same op a b s
instruction_same (LongOne op) a b s = long_one_same op a b s
instruction_same (LongTwo op) a b s = long_two_same op a b s
instruction_same Reserved a b s = refl
instruction_same Reti a b s = refl
instruction_same MoveAt a b s = rw (s 0 (lit< tt)) refl
instruction_same MoveAtPlus a b s = rw (s 0 (lit< tt)) refl
instruction_same MoveReg a b s = rw (s 0 (lit< tt)) refl
instruction_same (AddrReg op) a b s = rw (s 0 (lit< tt)) refl
instruction_same ShiftMany a b s = ap shift_many (s 0 (lit< tt))
instruction_same CallReg a b s = rw (s 0 (lit< tt)) refl
instruction_same CallAt a b s = rw (s 0 (lit< tt)) refl
instruction_same CallAtPlus a b s = rw (s 0 (lit< tt)) refl
instruction_same PushMany a b s = rw (s 0 (lit< tt)) refl
instruction_same PopMany a b s = rw (s 0 (lit< tt)) refl
instruction_same Jump a b s = ap jump (s 0 (lit< tt))
instruction_same MoveAbsolute a b s = rw (s 0 (lit< tt), s 1 (lit< tt)) refl
instruction_same MoveIndexed a b s = rw (s 0 (lit< tt), s 1 (lit< tt)) refl
instruction_same MoveToAbsolute a b s = rw (s 0 (lit< tt), s 1 (lit< tt)) refl
instruction_same MoveToIndexed a b s = rw (s 0 (lit< tt), s 1 (lit< tt)) refl
instruction_same MoveImm a b s = rw (s 0 (lit< tt), s 1 (lit< tt)) refl
instruction_same (AddrImm op) a b s = rw (s 0 (lit< tt), s 1 (lit< tt)) refl
instruction_same CallIndexed a b s = rw (s 0 (lit< tt), s 1 (lit< tt)) refl
instruction_same CallAbsolute a b s = rw (s 0 (lit< tt), s 1 (lit< tt)) refl
instruction_same CallSymbolic a b s = rw (s 0 (lit< tt), s 1 (lit< tt)) refl
instruction_same CallImm a b s = rw (s 0 (lit< tt), s 1 (lit< tt)) refl

-- ---- lengths

field_words-positive : (form : Form) → 1 ≤ field_words form
field_words-positive MoveAbsolute = lit≤ tt
field_words-positive MoveIndexed = lit≤ tt
field_words-positive MoveToAbsolute = lit≤ tt
field_words-positive MoveToIndexed = lit≤ tt
field_words-positive MoveImm = lit≤ tt
field_words-positive (AddrImm op) = lit≤ tt
field_words-positive CallIndexed = lit≤ tt
field_words-positive CallAbsolute = lit≤ tt
field_words-positive CallSymbolic = lit≤ tt
field_words-positive CallImm = lit≤ tt
field_words-positive (LongOne op) = lit≤ tt
field_words-positive (LongTwo op) = lit≤ tt
field_words-positive form = lit≤ tt

pub length_of-positive : (w0 w1 : ℕ) → 1 ≤ length_of w0 w1
unfolding length_of
length_of-positive w0 w1 = omega (arith, (shape_words w0 w1).0, field_words-positive (shape_of w0 w1).form)

pub length_of-extension : (w0 w1 : ℕ) → is_extension w0 ≡ true → 2 ≤ length_of w0 w1
unfolding length_of
length_of-extension w0 w1 h = omega (arith, extension_words w0 w1 h)

-- the second word counts in a shape only where it belongs to the instruction
shape_same : (a b : List ℕ) (t : Bool) → is_extension (slice_index a 0) ≡ t →
    SameFront (length_of (slice_index a 0) (slice_index a 1)) a b →
    shape_of (slice_index a 0) (slice_index a 1) ≡ shape_of (slice_index a 0) (slice_index b 1)
shape_same a b true h s =
    ap (shape_of (slice_index a 0))
    (s 1 (omega (arith, length_of-extension (slice_index a 0) (slice_index a 1) h)))
shape_same a b false h s = shape-alone (slice_index a 0) (slice_index a 1) (slice_index b 1) h

own_words : (a b : List ℕ) → SameFront (length_of (slice_index a 0) (slice_index a 1)) a b →
    SameFront
    (field_words (shape_of (slice_index a 0) (slice_index a 1)).form + operand_words
    (shape_of (slice_index a 0) (slice_index a 1)).form (slice_index a 0) (slice_index a 1)) a b
unfolding length_of
own_words a b s k h = s k (omega (arith, (shape_words (slice_index a 0) (slice_index a 1)).0))

pub decoded-front : (a b : List ℕ) → SameFront (length_of (slice_index a 0) (slice_index a 1)) a b →
    decoded b ≡ decoded a
unfolding decoded
decoded-front a b s =
    let e = s 0 (omega (arith, length_of-positive (slice_index a 0) (slice_index a 1))) in
    let f = shape_same a b (is_extension (slice_index a 0)) refl s in
    ap (λ w. instruction_of (shape_of w (slice_index b 1)).form b) (sym e)
    ∙ ap (λ (x : Shape). instruction_of x.form b) (sym f)
    ∙ sym (instruction_same (shape_of (slice_index a 0) (slice_index a 1)).form a b (own_words a b s))

operand_words-alone : (form : Form) (w0 w1 w2 : ℕ) → is_long_form form ≡ false →
    operand_words form w0 w1 ≡ operand_words form w0 w2
unfolding operand_words
operand_words-alone (LongOne op) w0 w1 w2 h = cc
operand_words-alone (LongTwo op) w0 w1 w2 h = cc
operand_words-alone form w0 w1 w2 h = refl

pub length_of-alone : (w0 w1 w2 : ℕ) → is_extension w0 ≡ false → length_of w0 w2 ≡ length_of w0 w1
unfolding length_of
length_of-alone w0 w1 w2 h =
    ap (λ (e : Shape). e.words + operand_words e.form w0 w2) (shape-alone w0 w2 w1 h)
    ∙ ap (λ n. (shape_of w0 w1).words + n)
    (operand_words-alone (shape_of w0 w1).form w0 w2 w1 (long_form-alone w0 w1 h))

pub form_of-alone : (w0 w1 w2 : ℕ) → is_extension w0 ≡ false → form_of w0 w1 ≡ form_of w0 w2
form_of-alone w0 w1 w2 h = ap (λ (e : Shape). e.form) (shape-alone w0 w1 w2 h)

-- ---- as contracts take them

pub ruleset lengths = (shape_words-most, length_of-positive, length_of-extension, length_of-alone, form_of-alone)

pub ruleset fronts = (decoded-front)
