-- What is known of some bits of a word leaves few rows, and drops these bits from their masks.
use Rattle.std.proofs.Common.{◌≡◌, ℕ, ◌+◌, ◌%◌, ◌<◌, min, Bool, true, false, cond, List, [], ◌∷◌, refl, ap, sym, ◌∙◌, arith, ◌==◌, ◌&&◌}
use Rattle.std.specs.Int.Bits.{bit_and, bit_xor, and_zero_r}
use Rattle.std.specs.Int.{bit_at}
use Rattle.std.proofs.lemmas.Bool.Decides.{nat_tests}
use Rattle.std.proofs.lemmas.Nat.Bits.{bit_at_and, bit_at_xor, same_from_bits, bit_at-lt}
use Rattle.cpux_decode.specs.Rows.{Row, meets, kept_row, lookup}

-- what is left of a mask or a value, without the bits that are known
abbrev pub without : ℕ → ℕ → ℕ
without m x = bit_xor x (bit_and x m)

-- a row without the bits m of the first word
abbrev pub left_row : {A : Type 0} → ℕ → Row A → Row A
left_row m row = record row { mask = without m row.mask; value = without m row.value }

-- a row without those of the second word
abbrev pub left_row_next : {A : Type 0} → ℕ → Row A → Row A
left_row_next m row =
    record row { next_mask = without m row.next_mask; next_value = without m row.next_value }

-- the rows that a word can meet whose bits in m are v, with these bits dropped from the masks
abbrev pub narrow : {A : Type 0} → ℕ → ℕ → List (Row A) → List (Row A)
narrow m v [] = []
narrow m v (row ∷ rows) =
    kept_row (bit_and v row.mask == bit_and row.value m) (left_row m row) (narrow m v rows)

-- the same of the second word
abbrev pub narrow_next : {A : Type 0} → ℕ → ℕ → List (Row A) → List (Row A)
narrow_next m v [] = []
narrow_next m v (row ∷ rows) =
    kept_row (bit_and v row.next_mask == bit_and row.next_value m) (left_row_next m row)
    (narrow_next m v rows)

-- a row that asks nothing more
abbrev pub trivial : {A : Type 0} → Row A → Bool
trivial row = (row.mask == 0) && (row.value == 0) && (row.next_mask == 0) && (row.next_value == 0)

-- the last of the rows, or one before others
abbrev pub ended : {A : Type 0} → Bool → Row A → List (Row A) → List (Row A)
ended true row rows = row ∷ []
ended false row rows = row ∷ rows

-- the rows up to the first that asks nothing
abbrev pub cut : {A : Type 0} → List (Row A) → List (Row A)
cut [] = []
cut (row ∷ rows) = ended (trivial row) row (cut rows)

-- ---- one bit: w of the word, m of the bits that are known and v of their value, rm and rv of a row's mask and value

bit_fits : (w rm rv m v : ℕ) → w < 2 → rm < 2 → rv < 2 → m < 2 → v < 2 → min w m ≡ v → min w rm ≡ rv →
    min v rm ≡ min rv m
bit_fits w rm rv m v a b c d e h k = omega arith

bit_left : (w rm rv m v : ℕ) → w < 2 → rm < 2 → rv < 2 → m < 2 → v < 2 → min w m ≡ v → min w rm ≡ rv →
    min w ((rm + min rm m) % 2) ≡ (rv + min rv m) % 2
bit_left w rm rv m v a b c d e h k = omega arith

bit_back : (w rm rv m v : ℕ) → w < 2 → rm < 2 → rv < 2 → m < 2 → v < 2 → min w m ≡ v → min v rm ≡ min rv m →
    min w ((rm + min rm m) % 2) ≡ (rv + min rv m) % 2 → min w rm ≡ rv
bit_back w rm rv m v a b c d e h k l = omega arith

-- ---- all bits

-- a row that a word meets has the known bits of the word
pub fits : (w rm rv m v : ℕ) → bit_and w m ≡ v → bit_and w rm ≡ rv → bit_and v rm ≡ bit_and rv m
fits w rm rv m v h k = same_from_bits (bit_and v rm) (bit_and rv m) (λ i.
    bit_at_and v rm i
    ∙ bit_fits (bit_at w i) (bit_at rm i) (bit_at rv i) (bit_at m i) (bit_at v i) (bit_at-lt w i)
    (bit_at-lt rm i) (bit_at-lt rv i) (bit_at-lt m i) (bit_at-lt v i)
    (sym (bit_at_and w m i) ∙ ap (λ x. bit_at x i) h) (sym (bit_at_and w rm i) ∙ ap (λ x. bit_at x i) k)
    ∙ sym (bit_at_and rv m i))

left_bit : (w x m i : ℕ) →
    bit_at (bit_and w (without m x)) i ≡ min (bit_at w i) ((bit_at x i + min (bit_at x i) (bit_at m i)) % 2)
left_bit w x m i =
    bit_at_and w (without m x) i
    ∙ ap (min (bit_at w i))
    (bit_at_xor x (bit_and x m) i ∙ ap (λ y. (bit_at x i + y) % 2) (bit_at_and x m i))

without_bit : (x m i : ℕ) → bit_at (without m x) i ≡ (bit_at x i + min (bit_at x i) (bit_at m i)) % 2
without_bit x m i = bit_at_xor x (bit_and x m) i ∙ ap (λ y. (bit_at x i + y) % 2) (bit_at_and x m i)

-- and is met without them
pub left : (w rm rv m v : ℕ) → bit_and w m ≡ v → bit_and w rm ≡ rv → bit_and w (without m rm) ≡ without m rv
left w rm rv m v h k = same_from_bits _ _ (λ i.
    left_bit w rm m i
    ∙ bit_left (bit_at w i) (bit_at rm i) (bit_at rv i) (bit_at m i) (bit_at v i) (bit_at-lt w i)
    (bit_at-lt rm i) (bit_at-lt rv i) (bit_at-lt m i) (bit_at-lt v i)
    (sym (bit_at_and w m i) ∙ ap (λ x. bit_at x i) h) (sym (bit_at_and w rm i) ∙ ap (λ x. bit_at x i) k)
    ∙ sym (without_bit rv m i))

-- a row that has the known bits, and is met without them, is met
pub back : (w rm rv m v : ℕ) → bit_and w m ≡ v → bit_and v rm ≡ bit_and rv m →
    bit_and w (without m rm) ≡ without m rv → bit_and w rm ≡ rv
back w rm rv m v h k l = same_from_bits _ _ (λ i.
    bit_at_and w rm i
    ∙ bit_back (bit_at w i) (bit_at rm i) (bit_at rv i) (bit_at m i) (bit_at v i) (bit_at-lt w i)
    (bit_at-lt rm i) (bit_at-lt rv i) (bit_at-lt m i) (bit_at-lt v i)
    (sym (bit_at_and w m i) ∙ ap (λ x. bit_at x i) h)
    (sym (bit_at_and v rm i) ∙ ap (λ x. bit_at x i) k ∙ bit_at_and rv m i)
    (sym (left_bit w rm m i) ∙ ap (λ x. bit_at x i) l ∙ without_bit rv m i))

-- the test of a row that has the known bits of a word, and of one that has not
pub test_left : (w rm rv m v : ℕ) → bit_and w m ≡ v → (bit_and v rm == bit_and rv m) ≡ true →
    (bit_and w rm == rv) ≡ (bit_and w (without m rm) == without m rv)
test_left w rm rv m v h k = grind (arith, nat_tests, left w rm rv m v h, back w rm rv m v h)

pub test_none : (w rm rv m v : ℕ) → bit_and w m ≡ v → (bit_and v rm == bit_and rv m) ≡ false →
    (bit_and w rm == rv) ≡ false
test_none w rm rv m v h k = grind (arith, nat_tests, fits w rm rv m v h)

pub and_false : (b : Bool) → (b && false) ≡ false
and_false true = refl
and_false false = refl

-- ---- lookups

lookup_keep : {A : Type 0} (e : A) (m v : ℕ) (row : Row A) (rows rest : List (Row A)) (w0 w1 : ℕ) (t : Bool) →
    bit_and w0 m ≡ v → (bit_and v row.mask == bit_and row.value m) ≡ t →
    lookup e rows w0 w1 ≡ lookup e rest w0 w1 →
    lookup e (row ∷ rows) w0 w1 ≡ lookup e (kept_row t (left_row m row) rest) w0 w1
lookup_keep {A} e m v row rows rest w0 w1 true h k r =
    ap (λ (t : Bool). cond (t && (bit_and w1 row.next_mask == row.next_value)) row.says (lookup e rows w0 w1))
    (test_left w0 row.mask row.value m v h k)
    ∙ ap (λ (x : A). cond (meets (left_row m row) w0 w1) row.says x) r
lookup_keep {A} e m v row rows rest w0 w1 false h k r =
    ap (λ (t : Bool). cond (t && (bit_and w1 row.next_mask == row.next_value)) row.says (lookup e rows w0 w1))
    (test_none w0 row.mask row.value m v h k)
    ∙ r

pub lookup-narrow : {A : Type 0} (e : A) (m v : ℕ) (rows : List (Row A)) (w0 w1 : ℕ) → bit_and w0 m ≡ v →
    lookup e rows w0 w1 ≡ lookup e (narrow m v rows) w0 w1
lookup-narrow e m v [] w0 w1 h = refl
lookup-narrow e m v (row ∷ rows) w0 w1 h =
    lookup_keep e m v row rows (narrow m v rows) w0 w1 (bit_and v row.mask == bit_and row.value m) h refl
    (lookup-narrow e m v rows w0 w1 h)

lookup_keep_next : {A : Type 0} (e : A) (m v : ℕ) (row : Row A) (rows rest : List (Row A)) (w0 w1 : ℕ) (t : Bool) →
    bit_and w1 m ≡ v → (bit_and v row.next_mask == bit_and row.next_value m) ≡ t →
    lookup e rows w0 w1 ≡ lookup e rest w0 w1 →
    lookup e (row ∷ rows) w0 w1 ≡ lookup e (kept_row t (left_row_next m row) rest) w0 w1
lookup_keep_next {A} e m v row rows rest w0 w1 true h k r =
    ap (λ (t : Bool). cond ((bit_and w0 row.mask == row.value) && t) row.says (lookup e rows w0 w1))
    (test_left w1 row.next_mask row.next_value m v h k)
    ∙ ap (λ (x : A). cond (meets (left_row_next m row) w0 w1) row.says x) r
lookup_keep_next {A} e m v row rows rest w0 w1 false h k r =
    ap (λ (t : Bool). cond ((bit_and w0 row.mask == row.value) && t) row.says (lookup e rows w0 w1))
    (test_none w1 row.next_mask row.next_value m v h k)
    ∙ ap (λ (t : Bool). cond t row.says (lookup e rows w0 w1))
    (and_false (bit_and w0 row.mask == row.value))
    ∙ r

pub lookup-narrow_next : {A : Type 0} (e : A) (m v : ℕ) (rows : List (Row A)) (w0 w1 : ℕ) →
    bit_and w1 m ≡ v → lookup e rows w0 w1 ≡ lookup e (narrow_next m v rows) w0 w1
lookup-narrow_next e m v [] w0 w1 h = refl
lookup-narrow_next e m v (row ∷ rows) w0 w1 h =
    lookup_keep_next e m v row rows (narrow_next m v rows) w0 w1
    (bit_and v row.next_mask == bit_and row.next_value m) h refl (lookup-narrow_next e m v rows w0 w1 h)

pub trivial_meets : {A : Type 0} (row : Row A) (w0 w1 : ℕ) → trivial row ≡ true → meets row w0 w1 ≡ true
trivial_meets row w0 w1 h = grind (arith, nat_tests, and_zero_r w0, and_zero_r w1)

lookup_ended : {A : Type 0} (e : A) (row : Row A) (rows rest : List (Row A)) (w0 w1 : ℕ) (t : Bool) →
    trivial row ≡ t → lookup e rows w0 w1 ≡ lookup e rest w0 w1 →
    lookup e (row ∷ rows) w0 w1 ≡ lookup e (ended t row rest) w0 w1
lookup_ended {A} e row rows rest w0 w1 true h r =
    ap (λ (t : Bool). cond t row.says (lookup e rows w0 w1)) (trivial_meets row w0 w1 h)
    ∙ sym (ap (λ (t : Bool). cond t row.says e) (trivial_meets row w0 w1 h))
lookup_ended {A} e row rows rest w0 w1 false h r = ap (λ (x : A). cond (meets row w0 w1) row.says x) r

pub lookup-cut : {A : Type 0} (e : A) (rows : List (Row A)) (w0 w1 : ℕ) →
    lookup e rows w0 w1 ≡ lookup e (cut rows) w0 w1
lookup-cut e [] w0 w1 = refl
lookup-cut e (row ∷ rows) w0 w1 =
    lookup_ended e row rows (cut rows) w0 w1 (trivial row) refl (lookup-cut e rows w0 w1)

-- what is known of a word: values under masks
abbrev pub Knows : List (ℕ × ℕ) → ℕ → Type 0
Knows [] w = Unit {0}
Knows (fact ∷ facts) w = (bit_and w fact.0 ≡ fact.1) × Knows facts w

abbrev pub narrowed : {A : Type 0} → List (ℕ × ℕ) → List (Row A) → List (Row A)
narrowed [] rows = rows
narrowed (fact ∷ facts) rows = narrowed facts (narrow fact.0 fact.1 rows)

abbrev pub narrowed_next : {A : Type 0} → List (ℕ × ℕ) → List (Row A) → List (Row A)
narrowed_next [] rows = rows
narrowed_next (fact ∷ facts) rows = narrowed_next facts (narrow_next fact.0 fact.1 rows)

lookup-narrowed : {A : Type 0} (e : A) (facts : List (ℕ × ℕ)) (rows : List (Row A)) (w0 w1 : ℕ) →
    Knows facts w0 → lookup e rows w0 w1 ≡ lookup e (narrowed facts rows) w0 w1
lookup-narrowed e [] rows w0 w1 k = refl
lookup-narrowed e (fact ∷ facts) rows w0 w1 k =
    lookup-narrow e fact.0 fact.1 rows w0 w1 k.0
    ∙ lookup-narrowed e facts (narrow fact.0 fact.1 rows) w0 w1 k.1

lookup-narrowed_next : {A : Type 0} (e : A) (facts : List (ℕ × ℕ)) (rows : List (Row A)) (w0 w1 : ℕ) →
    Knows facts w1 → lookup e rows w0 w1 ≡ lookup e (narrowed_next facts rows) w0 w1
lookup-narrowed_next e [] rows w0 w1 k = refl
lookup-narrowed_next e (fact ∷ facts) rows w0 w1 k =
    lookup-narrow_next e fact.0 fact.1 rows w0 w1 k.0
    ∙ lookup-narrowed_next e facts (narrow_next fact.0 fact.1 rows) w0 w1 k.1

-- the rows that are left
abbrev pub rest : {A : Type 0} → List (ℕ × ℕ) → List (ℕ × ℕ) → List (Row A) → List (Row A)
rest first next rows = cut (narrowed_next next (narrowed first rows))

pub lookup-rest : {A : Type 0} (e : A) (first next : List (ℕ × ℕ)) (rows : List (Row A)) (w0 w1 : ℕ) →
    Knows first w0 → Knows next w1 → lookup e rows w0 w1 ≡ lookup e (rest first next rows) w0 w1
lookup-rest e first next rows w0 w1 h k =
    lookup-narrowed e first rows w0 w1 h
    ∙ lookup-narrowed_next e next (narrowed first rows) w0 w1 k
    ∙ lookup-cut e (narrowed_next next (narrowed first rows)) w0 w1

-- two tables say the same of words of which something is known, where the same rows are left of them
pub agree : {A : Type 0} (e : A) (first next : List (ℕ × ℕ)) (a b : List (Row A)) (w0 w1 : ℕ) →
    rest first next a ≡ rest first next b → Knows first w0 → Knows next w1 →
    lookup e a w0 w1 ≡ lookup e b w0 w1
agree e first next a b w0 w1 s h k =
    lookup-rest e first next a w0 w1 h k
    ∙ ap (λ rows. lookup e rows w0 w1) s
    ∙ sym (lookup-rest e first next b w0 w1 h k)

-- one row is left
pub sure : {A : Type 0} (e : A) (first next : List (ℕ × ℕ)) (a : List (Row A)) (row : Row A) (w0 w1 : ℕ) →
    rest first next a ≡ row ∷ [] → trivial row ≡ true → Knows first w0 → Knows next w1 →
    lookup e a w0 w1 ≡ row.says
sure {A} e first next a row w0 w1 s t h k =
    lookup-rest e first next a w0 w1 h k
    ∙ ap (λ rows. lookup e rows w0 w1) s
    ∙ ap (λ (t : Bool). cond t row.says e) (trivial_meets row w0 w1 t)
