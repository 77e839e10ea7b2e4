-- The rows that are left of the table where a branch of the code knows the upper bits of a word.
use Rattle.std.proofs.Common.{◌≡◌, ℕ, true, ◌-◌, ◌*◌, ◌/◌, ◌^◌, ◌<◌, ◌≤◌, List, [], ◌∷◌, ◌++◌, refl, sym, ◌∙◌, ap, arith, lit≤, inl, inr, ◌⊎◌}
use Rattle.std.specs.Bool.{⊤}
use Rattle.std.specs.Int.Bits.{bit_and}
use Rattle.std.proofs.lemmas.Nat.Bits.{and_high_mask, and_pow, bit_at-lt}
use Rattle.cpux_decode.specs.declared.forms.Form.{Form}
use Rattle.cpux_decode.specs.declared.forms.Form.TheVariants.{Reserved, One, LongOne, LongTwo, PushMany, PopMany, Jump, Two}
use Rattle.cpux_decode.specs.declared.forms.Shape.{Shape}
use Rattle.cpux_decode.specs.declared.operations.Op1.TheVariants.{Rrc, Swpb, Rra, Sxt, Push, Call}
use Rattle.cpux_decode.specs.declared.operations.Op2.TheVariants.{Mov, Add, Addc, Subc, Sub, Cmp, Dadd, Bit, Bic, Bis, Xor, And}
use Rattle.cpux_decode.specs.Rows.{Row, lookup}
use Rattle.cpux_decode.specs.Table.{reserved_rows, ordinary_rows, shape_of, no_row, reserved_one_operand_rows, reserved_call_rows, reserved_extended_rows, reserved_before_rows, reserved_width_rows, reserved_operand_rows, address_rows, one_operand_rows, call_rows, many_rows, extended_rows, jump_rows, two_operand_rows}
use Rattle.cpux_decode.specs.Branches.{every_word, every_pair, operand_rows, long_width_rows, long_rotate_rows, long_word_rows}
use Rattle.cpux_decode.proofs.Narrow.{Knows, rest, agree, sure, trivial}
use Rattle.cpux_decode.proofs.OneRow.{lookup-shape}

-- what an answer opens to compute which rows are left: the rows of one operand, those behind an extension
-- word, and all
unfoldable one_operand_part : ⊤
unfolding reserved_one_operand_rows one_operand_rows
one_operand_part = tt

unfoldable extended_part : ⊤
unfolding reserved_extended_rows reserved_before_rows reserved_width_rows reserved_operand_rows extended_rows
extended_part = tt

unfoldable whole_table : ⊤
unfolding reserved_rows ordinary_rows reserved_call_rows address_rows call_rows many_rows jump_rows two_operand_rows one_operand_part extended_part
whole_table = tt

abbrev one_word : Form → Shape
one_word form = record { form = form; words = 1 }

abbrev two_words : Form → Shape
two_words form = record { form = form; words = 2 }

-- the bits of a word from bit k on, as a number
abbrev high : ℕ → ℕ → List (ℕ × ℕ)
high k v = (0x10000 - 2 ^ k, v * 2 ^ k) ∷ []

upper : (k w v : ℕ) → k ≤ 16 → w < 0x10000 → w / 2 ^ k ≡ v → Knows (high k v) w
upper k w v a h e = (and_high_mask 16 k a w h ∙ ap (λ n. n * 2 ^ k) e, tt)

abbrev all_rows : List (Row Shape)
all_rows = reserved_rows ++ ordinary_rows

abbrev one_rows : List (Row Shape)
one_rows = reserved_one_operand_rows ++ one_operand_rows

abbrev long_rows : List (Row Shape)
long_rows = reserved_extended_rows ++ extended_rows

module _ (w0 w1 : ℕ) (fits : w0 < 0x10000) where
  -- what the table says where the upper bits leave these rows, or one row
  shape-lookup : (k v : ℕ) (left : List (Row Shape)) → k ≤ 16 →
      rest (high k v) [] all_rows ≡ rest (high k v) [] left → w0 / 2 ^ k ≡ v →
      shape_of w0 w1 ≡ lookup no_row left w0 w1
  shape-lookup k v left a s e =
      sym (lookup-shape w0 w1) ∙ agree no_row (high k v) [] all_rows left w0 w1 s (upper k w0 v a fits e) tt

  shape-says : (k v : ℕ) (left : Row Shape) → k ≤ 16 → rest (high k v) [] all_rows ≡ left ∷ [] →
      trivial left ≡ true → w0 / 2 ^ k ≡ v → shape_of w0 w1 ≡ left.says
  shape-says k v left a s t e =
      sym (lookup-shape w0 w1)
      ∙ sure no_row (high k v) [] all_rows left w0 w1 s t (upper k w0 v a fits e) tt

  -- ---- the first word by its upper four bits

  pub at_0 : w0 / 0x1000 ≡ 0x0 → shape_of w0 w1 ≡ lookup no_row address_rows w0 w1
  unfolding whole_table
  at_0 e = shape-lookup 12 0x0 address_rows (lit≤ tt) refl e

  pub at_2 : w0 / 0x1000 ≡ 0x2 → shape_of w0 w1 ≡ one_word Jump
  unfolding whole_table
  at_2 e = shape-says 12 0x2 (every_word Jump) (lit≤ tt) refl refl e

  pub at_3 : w0 / 0x1000 ≡ 0x3 → shape_of w0 w1 ≡ one_word Jump
  unfolding whole_table
  at_3 e = shape-says 12 0x3 (every_word Jump) (lit≤ tt) refl refl e

  pub at_4 : w0 / 0x1000 ≡ 0x4 → shape_of w0 w1 ≡ one_word (Two Mov)
  unfolding whole_table
  at_4 e = shape-says 12 0x4 (every_word (Two Mov)) (lit≤ tt) refl refl e

  pub at_5 : w0 / 0x1000 ≡ 0x5 → shape_of w0 w1 ≡ one_word (Two Add)
  unfolding whole_table
  at_5 e = shape-says 12 0x5 (every_word (Two Add)) (lit≤ tt) refl refl e

  pub at_6 : w0 / 0x1000 ≡ 0x6 → shape_of w0 w1 ≡ one_word (Two Addc)
  unfolding whole_table
  at_6 e = shape-says 12 0x6 (every_word (Two Addc)) (lit≤ tt) refl refl e

  pub at_7 : w0 / 0x1000 ≡ 0x7 → shape_of w0 w1 ≡ one_word (Two Subc)
  unfolding whole_table
  at_7 e = shape-says 12 0x7 (every_word (Two Subc)) (lit≤ tt) refl refl e

  pub at_8 : w0 / 0x1000 ≡ 0x8 → shape_of w0 w1 ≡ one_word (Two Sub)
  unfolding whole_table
  at_8 e = shape-says 12 0x8 (every_word (Two Sub)) (lit≤ tt) refl refl e

  pub at_9 : w0 / 0x1000 ≡ 0x9 → shape_of w0 w1 ≡ one_word (Two Cmp)
  unfolding whole_table
  at_9 e = shape-says 12 0x9 (every_word (Two Cmp)) (lit≤ tt) refl refl e

  pub at_A : w0 / 0x1000 ≡ 0xA → shape_of w0 w1 ≡ one_word (Two Dadd)
  unfolding whole_table
  at_A e = shape-says 12 0xA (every_word (Two Dadd)) (lit≤ tt) refl refl e

  pub at_B : w0 / 0x1000 ≡ 0xB → shape_of w0 w1 ≡ one_word (Two Bit)
  unfolding whole_table
  at_B e = shape-says 12 0xB (every_word (Two Bit)) (lit≤ tt) refl refl e

  pub at_C : w0 / 0x1000 ≡ 0xC → shape_of w0 w1 ≡ one_word (Two Bic)
  unfolding whole_table
  at_C e = shape-says 12 0xC (every_word (Two Bic)) (lit≤ tt) refl refl e

  pub at_D : w0 / 0x1000 ≡ 0xD → shape_of w0 w1 ≡ one_word (Two Bis)
  unfolding whole_table
  at_D e = shape-says 12 0xD (every_word (Two Bis)) (lit≤ tt) refl refl e

  pub at_E : w0 / 0x1000 ≡ 0xE → shape_of w0 w1 ≡ one_word (Two Xor)
  unfolding whole_table
  at_E e = shape-says 12 0xE (every_word (Two Xor)) (lit≤ tt) refl refl e

  pub at_F : w0 / 0x1000 ≡ 0xF → shape_of w0 w1 ≡ one_word (Two And)
  unfolding whole_table
  at_F e = shape-says 12 0xF (every_word (Two And)) (lit≤ tt) refl refl e

  -- ---- from 1000h on by the upper eight bits

  pub at_10 : w0 / 0x100 ≡ 0x10 → shape_of w0 w1 ≡ lookup no_row one_rows w0 w1
  unfolding whole_table
  at_10 e = shape-lookup 8 0x10 one_rows (lit≤ tt) refl e

  pub at_11 : w0 / 0x100 ≡ 0x11 → shape_of w0 w1 ≡ lookup no_row one_rows w0 w1
  unfolding whole_table
  at_11 e = shape-lookup 8 0x11 one_rows (lit≤ tt) refl e

  pub at_12 : w0 / 0x100 ≡ 0x12 → shape_of w0 w1 ≡ lookup no_row one_rows w0 w1
  unfolding whole_table
  at_12 e = shape-lookup 8 0x12 one_rows (lit≤ tt) refl e

  pub at_13 : w0 / 0x100 ≡ 0x13 → shape_of w0 w1 ≡ lookup no_row (reserved_call_rows ++ call_rows) w0 w1
  unfolding whole_table
  at_13 e = shape-lookup 8 0x13 (reserved_call_rows ++ call_rows) (lit≤ tt) refl e

  pub at_14 : w0 / 0x100 ≡ 0x14 → shape_of w0 w1 ≡ one_word PushMany
  unfolding whole_table
  at_14 e = shape-says 8 0x14 (every_word PushMany) (lit≤ tt) refl refl e

  pub at_15 : w0 / 0x100 ≡ 0x15 → shape_of w0 w1 ≡ one_word PushMany
  unfolding whole_table
  at_15 e = shape-says 8 0x15 (every_word PushMany) (lit≤ tt) refl refl e

  pub at_16 : w0 / 0x100 ≡ 0x16 → shape_of w0 w1 ≡ one_word PopMany
  unfolding whole_table
  at_16 e = shape-says 8 0x16 (every_word PopMany) (lit≤ tt) refl refl e

  pub at_17 : w0 / 0x100 ≡ 0x17 → shape_of w0 w1 ≡ one_word PopMany
  unfolding whole_table
  at_17 e = shape-says 8 0x17 (every_word PopMany) (lit≤ tt) refl refl e

  pub at_extension : w0 / 0x800 ≡ 0x3 → shape_of w0 w1 ≡ lookup no_row long_rows w0 w1
  unfolding whole_table
  at_extension e = shape-lookup 11 0x3 long_rows (lit≤ tt) refl e

  -- ---- one operand by the upper ten bits

  one-lookup : (v : ℕ) (left : List (Row Shape)) →
      rest (high 6 v) [] one_rows ≡ rest (high 6 v) [] left → w0 / 0x40 ≡ v →
      lookup no_row one_rows w0 w1 ≡ lookup no_row left w0 w1
  one-lookup v left s e =
      agree no_row (high 6 v) [] one_rows left w0 w1 s (upper 6 w0 v (lit≤ tt) fits e) tt

  one-says : (v : ℕ) (left : Row Shape) → rest (high 6 v) [] one_rows ≡ left ∷ [] → trivial left ≡ true →
      w0 / 0x40 ≡ v → lookup no_row one_rows w0 w1 ≡ left.says
  one-says v left s t e =
      sure no_row (high 6 v) [] one_rows left w0 w1 s t (upper 6 w0 v (lit≤ tt) fits e) tt

  pub one_40 : w0 / 0x40 ≡ 0x40 →
      lookup no_row one_rows w0 w1 ≡ lookup no_row (operand_rows (One Rrc)) w0 w1
  unfolding one_operand_part
  one_40 e = one-lookup 0x40 (operand_rows (One Rrc)) refl e

  pub one_41 : w0 / 0x40 ≡ 0x41 →
      lookup no_row one_rows w0 w1 ≡ lookup no_row (operand_rows (One Rrc)) w0 w1
  unfolding one_operand_part
  one_41 e = one-lookup 0x41 (operand_rows (One Rrc)) refl e

  pub one_42 : w0 / 0x40 ≡ 0x42 →
      lookup no_row one_rows w0 w1 ≡ lookup no_row (operand_rows (One Swpb)) w0 w1
  unfolding one_operand_part
  one_42 e = one-lookup 0x42 (operand_rows (One Swpb)) refl e

  pub one_44 : w0 / 0x40 ≡ 0x44 →
      lookup no_row one_rows w0 w1 ≡ lookup no_row (operand_rows (One Rra)) w0 w1
  unfolding one_operand_part
  one_44 e = one-lookup 0x44 (operand_rows (One Rra)) refl e

  pub one_45 : w0 / 0x40 ≡ 0x45 →
      lookup no_row one_rows w0 w1 ≡ lookup no_row (operand_rows (One Rra)) w0 w1
  unfolding one_operand_part
  one_45 e = one-lookup 0x45 (operand_rows (One Rra)) refl e

  pub one_46 : w0 / 0x40 ≡ 0x46 →
      lookup no_row one_rows w0 w1 ≡ lookup no_row (operand_rows (One Sxt)) w0 w1
  unfolding one_operand_part
  one_46 e = one-lookup 0x46 (operand_rows (One Sxt)) refl e

  pub one_43 : w0 / 0x40 ≡ 0x43 → lookup no_row one_rows w0 w1 ≡ one_word Reserved
  unfolding one_operand_part
  one_43 e = one-says 0x43 (every_word Reserved) refl refl e

  pub one_47 : w0 / 0x40 ≡ 0x47 → lookup no_row one_rows w0 w1 ≡ one_word Reserved
  unfolding one_operand_part
  one_47 e = one-says 0x47 (every_word Reserved) refl refl e

  pub one_48 : w0 / 0x40 ≡ 0x48 → lookup no_row one_rows w0 w1 ≡ one_word (One Push)
  unfolding one_operand_part
  one_48 e = one-says 0x48 (every_word (One Push)) refl refl e

  pub one_49 : w0 / 0x40 ≡ 0x49 → lookup no_row one_rows w0 w1 ≡ one_word (One Push)
  unfolding one_operand_part
  one_49 e = one-says 0x49 (every_word (One Push)) refl refl e

  pub one_4A : w0 / 0x40 ≡ 0x4A → lookup no_row one_rows w0 w1 ≡ one_word (One Call)
  unfolding one_operand_part
  one_4A e = one-says 0x4A (every_word (One Call)) refl refl e

  pub one_4B : w0 / 0x40 ≡ 0x4B → lookup no_row one_rows w0 w1 ≡ one_word Reserved
  unfolding one_operand_part
  one_4B e = one-says 0x4B (every_word Reserved) refl refl e

abbrev extension : List (ℕ × ℕ)
extension = (0xF800, 0x1800) ∷ []

module _ (w0 w1 : ℕ) (fits : w0 < 0x10000) (is_extension : w0 / 0x800 ≡ 3) (next_fits : w1 < 0x10000) where
  extension_known : bit_and w0 0xF800 ≡ 0x1800
  extension_known = (upper 11 w0 3 (lit≤ tt) fits is_extension).0

  -- the rows of an extension word where the upper bits of the second word leave these, or one
  long-lookup : (k v : ℕ) (left : List (Row Shape)) → k ≤ 16 →
      rest extension (high k v) long_rows ≡ rest extension (high k v) left → w1 / 2 ^ k ≡ v →
      lookup no_row long_rows w0 w1 ≡ lookup no_row left w0 w1
  long-lookup k v left a s e =
      agree no_row extension (high k v) long_rows left w0 w1 s (extension_known, tt)
      (upper k w1 v a next_fits e)

  long-reserved : (k v : ℕ) → k ≤ 16 →
      rest extension (high k v) long_rows ≡ every_pair Reserved ∷ [] →
      w1 / 2 ^ k ≡ v → lookup no_row long_rows w0 w1 ≡ two_words Reserved
  long-reserved k v a s e =
      sure no_row extension (high k v) long_rows (every_pair Reserved) w0 w1 s refl
      (extension_known, tt) (upper k w1 v a next_fits e)

  -- ---- by the upper four bits of the second word

  pub long_0 : w1 / 0x1000 ≡ 0x0 → lookup no_row long_rows w0 w1 ≡ two_words Reserved
  unfolding extended_part
  long_0 e = long-reserved 12 0x0 (lit≤ tt) refl e

  pub long_2 : w1 / 0x1000 ≡ 0x2 → lookup no_row long_rows w0 w1 ≡ two_words Reserved
  unfolding extended_part
  long_2 e = long-reserved 12 0x2 (lit≤ tt) refl e

  pub long_3 : w1 / 0x1000 ≡ 0x3 → lookup no_row long_rows w0 w1 ≡ two_words Reserved
  unfolding extended_part
  long_3 e = long-reserved 12 0x3 (lit≤ tt) refl e

  pub long_4 : w1 / 0x1000 ≡ 0x4 →
      lookup no_row long_rows w0 w1 ≡ lookup no_row (long_width_rows (LongTwo Mov)) w0 w1
  unfolding extended_part
  long_4 e = long-lookup 12 0x4 (long_width_rows (LongTwo Mov)) (lit≤ tt) refl e

  pub long_5 : w1 / 0x1000 ≡ 0x5 →
      lookup no_row long_rows w0 w1 ≡ lookup no_row (long_width_rows (LongTwo Add)) w0 w1
  unfolding extended_part
  long_5 e = long-lookup 12 0x5 (long_width_rows (LongTwo Add)) (lit≤ tt) refl e

  pub long_6 : w1 / 0x1000 ≡ 0x6 →
      lookup no_row long_rows w0 w1 ≡ lookup no_row (long_width_rows (LongTwo Addc)) w0 w1
  unfolding extended_part
  long_6 e = long-lookup 12 0x6 (long_width_rows (LongTwo Addc)) (lit≤ tt) refl e

  pub long_7 : w1 / 0x1000 ≡ 0x7 →
      lookup no_row long_rows w0 w1 ≡ lookup no_row (long_width_rows (LongTwo Subc)) w0 w1
  unfolding extended_part
  long_7 e = long-lookup 12 0x7 (long_width_rows (LongTwo Subc)) (lit≤ tt) refl e

  pub long_8 : w1 / 0x1000 ≡ 0x8 →
      lookup no_row long_rows w0 w1 ≡ lookup no_row (long_width_rows (LongTwo Sub)) w0 w1
  unfolding extended_part
  long_8 e = long-lookup 12 0x8 (long_width_rows (LongTwo Sub)) (lit≤ tt) refl e

  pub long_9 : w1 / 0x1000 ≡ 0x9 →
      lookup no_row long_rows w0 w1 ≡ lookup no_row (long_width_rows (LongTwo Cmp)) w0 w1
  unfolding extended_part
  long_9 e = long-lookup 12 0x9 (long_width_rows (LongTwo Cmp)) (lit≤ tt) refl e

  pub long_A : w1 / 0x1000 ≡ 0xA →
      lookup no_row long_rows w0 w1 ≡ lookup no_row (long_width_rows (LongTwo Dadd)) w0 w1
  unfolding extended_part
  long_A e = long-lookup 12 0xA (long_width_rows (LongTwo Dadd)) (lit≤ tt) refl e

  pub long_B : w1 / 0x1000 ≡ 0xB →
      lookup no_row long_rows w0 w1 ≡ lookup no_row (long_width_rows (LongTwo Bit)) w0 w1
  unfolding extended_part
  long_B e = long-lookup 12 0xB (long_width_rows (LongTwo Bit)) (lit≤ tt) refl e

  pub long_C : w1 / 0x1000 ≡ 0xC →
      lookup no_row long_rows w0 w1 ≡ lookup no_row (long_width_rows (LongTwo Bic)) w0 w1
  unfolding extended_part
  long_C e = long-lookup 12 0xC (long_width_rows (LongTwo Bic)) (lit≤ tt) refl e

  pub long_D : w1 / 0x1000 ≡ 0xD →
      lookup no_row long_rows w0 w1 ≡ lookup no_row (long_width_rows (LongTwo Bis)) w0 w1
  unfolding extended_part
  long_D e = long-lookup 12 0xD (long_width_rows (LongTwo Bis)) (lit≤ tt) refl e

  pub long_E : w1 / 0x1000 ≡ 0xE →
      lookup no_row long_rows w0 w1 ≡ lookup no_row (long_width_rows (LongTwo Xor)) w0 w1
  unfolding extended_part
  long_E e = long-lookup 12 0xE (long_width_rows (LongTwo Xor)) (lit≤ tt) refl e

  pub long_F : w1 / 0x1000 ≡ 0xF →
      lookup no_row long_rows w0 w1 ≡ lookup no_row (long_width_rows (LongTwo And)) w0 w1
  unfolding extended_part
  long_F e = long-lookup 12 0xF (long_width_rows (LongTwo And)) (lit≤ tt) refl e

  -- ---- and by its upper nine bits, where it has one operand

  pub long_25 : w1 / 0x80 ≡ 0x25 → lookup no_row long_rows w0 w1 ≡ two_words Reserved
  unfolding extended_part
  long_25 e = long-reserved 7 0x25 (lit≤ tt) refl e

  pub long_13 : w1 / 0x100 ≡ 0x13 → lookup no_row long_rows w0 w1 ≡ two_words Reserved
  unfolding extended_part
  long_13 e = long-reserved 8 0x13 (lit≤ tt) refl e

  pub long_14 : w1 / 0x400 ≡ 0x5 → lookup no_row long_rows w0 w1 ≡ two_words Reserved
  unfolding extended_part
  long_14 e = long-reserved 10 0x5 (lit≤ tt) refl e

  pub long_18 : w1 / 0x800 ≡ 0x3 → lookup no_row long_rows w0 w1 ≡ two_words Reserved
  unfolding extended_part
  long_18 e = long-reserved 11 0x3 (lit≤ tt) refl e

-- These rows are told apart where bits 6 of both words are known too.

bit_6 : (w : ℕ) → (bit_and w 0x40 ≡ 0) ⊎ (bit_and w 0x40 ≡ 0x40)
bit_6 w = grind (arith, and_pow w 6, bit_at-lt w 6)

-- the same rows are left behind these upper nine bits, with bits 6 of both words
abbrev SameLeft : ℕ → List (Row Shape) → ℕ → ℕ → Type 0
SameLeft v left p q =
    rest ((0xF800, 0x1800) ∷ (0x40, p) ∷ []) ((0xFF80, v * 0x80) ∷ (0x40, q) ∷ []) long_rows
    ≡ rest ((0xF800, 0x1800) ∷ (0x40, p) ∷ []) ((0xFF80, v * 0x80) ∷ (0x40, q) ∷ []) left

same_left : (v : ℕ) (left : List (Row Shape)) (p q : ℕ) → (p ≡ 0) ⊎ (p ≡ 0x40) → (q ≡ 0) ⊎ (q ≡ 0x40) →
    SameLeft v left 0 0 → SameLeft v left 0 0x40 → SameLeft v left 0x40 0 → SameLeft v left 0x40 0x40 →
    SameLeft v left p q
same_left v left p q (inl e) (inl f) a b c d = rw (e, f) a
same_left v left p q (inl e) (inr f) a b c d = rw (e, f) b
same_left v left p q (inr e) (inl f) a b c d = rw (e, f) c
same_left v left p q (inr e) (inr f) a b c d = rw (e, f) d

module _ (w0 w1 : ℕ) (fits : w0 < 0x10000) (is_extension : w0 / 0x800 ≡ 3) (next_fits : w1 < 0x10000) where
  long-lookup_bits : (v : ℕ) (left : List (Row Shape)) →
      SameLeft v left 0 0 → SameLeft v left 0 0x40 → SameLeft v left 0x40 0 → SameLeft v left 0x40 0x40 →
      w1 / 0x80 ≡ v → lookup no_row long_rows w0 w1 ≡ lookup no_row left w0 w1
  long-lookup_bits v left a b c d e =
      agree no_row
      ((0xF800, 0x1800) ∷ (0x40, bit_and w0 0x40) ∷ [])
      ((0xFF80, v * 0x80) ∷ (0x40, bit_and w1 0x40) ∷ [])
      long_rows left w0 w1
      (same_left v left (bit_and w0 0x40) (bit_and w1 0x40) (bit_6 w0) (bit_6 w1) a b c d)
      (extension_known w0 w1 fits is_extension next_fits, (refl, tt))
      ((upper 7 w1 v (lit≤ tt) next_fits e).0, (refl, tt))

  pub long_20 : w1 / 0x80 ≡ 0x20 →
      lookup no_row long_rows w0 w1 ≡ lookup no_row (long_rotate_rows (LongOne Rrc)) w0 w1
  unfolding extended_part
  long_20 e = long-lookup_bits 0x20 (long_rotate_rows (LongOne Rrc)) refl refl refl refl e

  pub long_21 : w1 / 0x80 ≡ 0x21 →
      lookup no_row long_rows w0 w1 ≡ lookup no_row (long_word_rows (LongOne Swpb)) w0 w1
  unfolding extended_part
  long_21 e = long-lookup_bits 0x21 (long_word_rows (LongOne Swpb)) refl refl refl refl e

  pub long_22 : w1 / 0x80 ≡ 0x22 →
      lookup no_row long_rows w0 w1 ≡ lookup no_row (long_rotate_rows (LongOne Rra)) w0 w1
  unfolding extended_part
  long_22 e = long-lookup_bits 0x22 (long_rotate_rows (LongOne Rra)) refl refl refl refl e

  pub long_23 : w1 / 0x80 ≡ 0x23 →
      lookup no_row long_rows w0 w1 ≡ lookup no_row (long_word_rows (LongOne Sxt)) w0 w1
  unfolding extended_part
  long_23 e = long-lookup_bits 0x23 (long_word_rows (LongOne Sxt)) refl refl refl refl e

  pub long_24 : w1 / 0x80 ≡ 0x24 →
      lookup no_row long_rows w0 w1 ≡ lookup no_row (long_width_rows (LongOne Push)) w0 w1
  unfolding extended_part
  long_24 e = long-lookup_bits 0x24 (long_width_rows (LongOne Push)) refl refl refl refl e

-- ---- as contracts take them

pub ruleset first_nibbles = (
  at_0,
  at_2,
  at_3,
  at_4,
  at_5,
  at_6,
  at_7,
  at_8,
  at_9,
  at_A,
  at_B,
  at_C,
  at_D,
  at_E,
  at_F,
)

pub ruleset second_nibbles = (at_10, at_11, at_12, at_13, at_14, at_15, at_16, at_17, at_extension)

pub ruleset one_operand_prefixes = (
  one_40,
  one_41,
  one_42,
  one_44,
  one_45,
  one_46,
  one_43,
  one_47,
  one_48,
  one_49,
  one_4A,
  one_4B,
)

pub ruleset long_nibbles = (
  long_0,
  long_2,
  long_3,
  long_4,
  long_5,
  long_6,
  long_7,
  long_8,
  long_9,
  long_A,
  long_B,
  long_C,
  long_D,
  long_E,
  long_F,
)

pub ruleset long_one_operand_prefixes = (
  long_25,
  long_13,
  long_14,
  long_18,
  long_20,
  long_21,
  long_22,
  long_23,
  long_24,
)
