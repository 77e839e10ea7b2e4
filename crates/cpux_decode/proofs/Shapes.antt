-- What the table says of a pair of words, beyond its rows.
use Rattle.std.proofs.Common.{◌≡◌, ◌≢◌, ℕ, ◌≤◌, Bool, true, false, List, [], ◌∷◌, ◌++◌, refl, ap, sym, ◌∙◌, arith, ◌&&◌, ◌||◌, nat_le, not}
use Rattle.std.specs.List.{list_all, list_any}
use Rattle.std.specs.Int.Bits.{bit_and}
use Rattle.std.proofs.lemmas.Bool.Decides.{nat_tests}
use Rattle.std.proofs.lemmas.Nat.Bits.{and_high}
use Rattle.cpux_decode.specs.declared.forms.Form.{Form}
use Rattle.cpux_decode.specs.declared.forms.Form.TheVariants.{Reserved, MoveAbsolute, MoveIndexed, MoveToAbsolute, MoveToIndexed, MoveImm, AddrImm, Reti, CallIndexed, CallAbsolute, CallSymbolic, CallImm, LongOne, LongTwo}
use Rattle.cpux_decode.specs.declared.forms.Shape.{Shape}
use Rattle.cpux_decode.specs.Rows.{Row, meets, lookup}
use Rattle.cpux_decode.specs.Table.{reserved_rows, ordinary_rows, table_rows, shape_of, is_reserved, no_row, address_rows, one_operand_rows, reserved_one_operand_rows, call_rows, reserved_call_rows, many_rows, extended_rows, reserved_extended_rows, reserved_before_rows, reserved_width_rows, reserved_operand_rows, jump_rows, two_operand_rows}
use Rattle.cpux_decode.specs.Instructions.{is_extension}
use Rattle.cpux_decode.proofs.Narrow.{rest, lookup-rest}
use Rattle.cpux_decode.proofs.OneRow.{each_pair_meets_one_row, lookup-append, lookup-shape_of}
use Rattle.cpux_decode.proofs.Lookups.{lookup-passes, lookup-any, lookup-none, first_says-one, is_long, is_short, lookup-alone, lookup-passes_alone}

abbrev all_rows : List (Row Shape)
all_rows = reserved_rows ++ ordinary_rows

-- what is known of an extension word
abbrev extension : List (ℕ × ℕ)
extension = (0xF800, 0x1800) ∷ []

-- a pair of words meets a row, so the default does not count
pub lookup-shape_any : (e : Shape) (w0 w1 : ℕ) →
    lookup e all_rows w0 w1 ≡ shape_of w0 w1
unfolding shape_of
lookup-shape_any e w0 w1 =
    lookup-shape_of e w0 w1 ∙ first_says-one e no_row (table_rows w0 w1) (each_pair_meets_one_row w0 w1)

-- ---- reserved words

abbrev pub is_reserved_form : Form → Bool
is_reserved_form Reserved = true
is_reserved_form form = false

abbrev says_reserved : Shape → Bool
says_reserved shape = is_reserved_form shape.form

reserved_say : list_all (λ (row : Row Shape). says_reserved row.says) reserved_rows ≡ true
unfolding reserved_rows reserved_one_operand_rows reserved_call_rows reserved_extended_rows
    reserved_before_rows reserved_width_rows reserved_operand_rows
reserved_say = refl

ordinary_say : list_all (λ (row : Row Shape). not (says_reserved row.says)) ordinary_rows ≡ true
unfolding ordinary_rows address_rows one_operand_rows call_rows many_rows extended_rows jump_rows
    two_operand_rows
ordinary_say = refl

-- a shape that is not reserved
abbrev other : Shape
other = record { form = Reti; words = 1 }

not_true : (b : Bool) → not b ≡ true → b ≡ false
not_true true h = cc
not_true false h = refl

says_reserved-by : (w0 w1 : ℕ) (t : Bool) →
    list_any (λ (row : Row Shape). meets row w0 w1) reserved_rows ≡ t →
    says_reserved (lookup (lookup other ordinary_rows w0 w1) reserved_rows w0 w1) ≡ t
says_reserved-by w0 w1 true h =
    ap says_reserved (lookup-any (lookup other ordinary_rows w0 w1) no_row reserved_rows w0 w1 h)
    ∙ lookup-passes says_reserved no_row reserved_rows w0 w1 refl reserved_say
says_reserved-by w0 w1 false h =
    ap says_reserved (lookup-none (lookup other ordinary_rows w0 w1) reserved_rows w0 w1 h)
    ∙ not_true (says_reserved (lookup other ordinary_rows w0 w1))
    (lookup-passes (λ (e : Shape). not (says_reserved e)) other ordinary_rows w0 w1 refl ordinary_say)

-- the form is reserved exactly where a reserved row is met
pub reserved_form-shape : (w0 w1 : ℕ) → is_reserved_form (shape_of w0 w1).form ≡ is_reserved w0 w1
unfolding is_reserved
reserved_form-shape w0 w1 =
    ap says_reserved
    (sym (lookup-shape_any other w0 w1) ∙ lookup-append other reserved_rows ordinary_rows w0 w1)
    ∙ says_reserved-by w0 w1 (is_reserved w0 w1) refl

-- ---- the words of a shape

-- the words that the fields of a form lie in, but for those of addressing modes
abbrev pub field_words : Form → ℕ
field_words MoveAbsolute = 2
field_words MoveIndexed = 2
field_words MoveToAbsolute = 2
field_words MoveToIndexed = 2
field_words MoveImm = 2
field_words (AddrImm op) = 2
field_words CallIndexed = 2
field_words CallAbsolute = 2
field_words CallSymbolic = 2
field_words CallImm = 2
field_words (LongOne op) = 2
field_words (LongTwo op) = 2
field_words form = 1

abbrev has_words : Shape → Bool
has_words shape = nat_le (field_words shape.form) shape.words && nat_le shape.words 2

abbrev pub is_long_form : Form → Bool
is_long_form (LongOne op) = true
is_long_form (LongTwo op) = true
is_long_form form = false

-- tests that all rows pass
record RowsPass : Type 0 where
  have_words : list_all (λ (row : Row Shape). has_words row.says) all_rows ≡ true
  alone : list_all (λ (row : Row Shape). is_long row || is_short row) all_rows ≡ true
  short : list_all (λ (row : Row Shape). is_long row || not (is_long_form row.says.form)) all_rows ≡ true
  extended : list_all (λ (row : Row Shape). nat_le 2 row.says.words) (rest extension [] all_rows) ≡ true

tested : RowsPass
unfolding reserved_rows ordinary_rows reserved_one_operand_rows reserved_call_rows reserved_extended_rows
    reserved_before_rows reserved_width_rows reserved_operand_rows address_rows one_operand_rows call_rows
    many_rows extended_rows jump_rows two_operand_rows
tested = record { have_words = refl; alone = refl; short = refl; extended = refl }

shape_has_words : (w0 w1 : ℕ) → has_words (shape_of w0 w1) ≡ true
shape_has_words w0 w1 =
    ap has_words (sym (lookup-shape_any no_row w0 w1))
    ∙ lookup-passes has_words no_row all_rows w0 w1 refl tested.have_words

pub shape_words : (w0 w1 : ℕ) →
    (field_words (shape_of w0 w1).form ≤ (shape_of w0 w1).words) × ((shape_of w0 w1).words ≤ 2)
shape_words w0 w1 = let h = shape_has_words w0 w1 in (grind (arith, nat_tests), grind (arith, nat_tests))

pub shape_words-most : (w0 w1 : ℕ) → (shape_of w0 w1).words ≤ 2
shape_words-most w0 w1 = (shape_words w0 w1).1

-- ---- extension words

no_extension : (w : ℕ) → is_extension w ≡ false → bit_and w 0xF800 ≢ 0x1800
no_extension w h e = grind (arith, nat_tests, and_high w 5 11)

an_extension : (w : ℕ) → is_extension w ≡ true → bit_and w 0xF800 ≡ 0x1800
an_extension w h = grind (arith, nat_tests, and_high w 5 11)

-- a word that is no extension word means the same whatever stands behind it
pub shape-alone : (w0 w1 w2 : ℕ) → is_extension w0 ≡ false → shape_of w0 w1 ≡ shape_of w0 w2
shape-alone w0 w1 w2 h =
    sym (lookup-shape_any no_row w0 w1)
    ∙ lookup-alone no_row all_rows w0 w1 w2 (no_extension w0 h) tested.alone
    ∙ lookup-shape_any no_row w0 w2

pub long_form-alone : (w0 w1 : ℕ) → is_extension w0 ≡ false → is_long_form (shape_of w0 w1).form ≡ false
long_form-alone w0 w1 h =
    not_true (is_long_form (shape_of w0 w1).form)
    (ap (λ (e : Shape). not (is_long_form e.form)) (sym (lookup-shape_any no_row w0 w1))
    ∙ lookup-passes_alone (λ (e : Shape). not (is_long_form e.form)) no_row
    all_rows w0 w1 (no_extension w0 h) refl tested.short)

-- a shape of two words
abbrev two_reserved : Shape
two_reserved = record { form = Reserved; words = 2 }

two_words_tested : (w0 w1 : ℕ) → is_extension w0 ≡ true → nat_le 2 (shape_of w0 w1).words ≡ true
two_words_tested w0 w1 h =
    ap (λ (e : Shape). nat_le 2 e.words)
    (sym (lookup-shape_any two_reserved w0 w1)
    ∙ lookup-rest two_reserved extension []
    all_rows w0 w1 (an_extension w0 h, tt) tt)
    ∙ lookup-passes (λ (e : Shape). nat_le 2 e.words) two_reserved
    (rest extension [] all_rows) w0 w1 refl tested.extended

pub extension_words : (w0 w1 : ℕ) → is_extension w0 ≡ true → 2 ≤ (shape_of w0 w1).words
extension_words w0 w1 h = let t = two_words_tested w0 w1 h in grind (arith, nat_tests)
