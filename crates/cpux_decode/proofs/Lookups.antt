-- What a lookup says of any table, by tests of its rows.
use Rattle.std.proofs.Common.{◌≡◌, ◌≢◌, ℕ, Bool, true, false, cond, List, [], ◌∷◌, length, refl, ap, sym, ◌∙◌, arith, ◌==◌, ◌&&◌, ◌||◌}
use Rattle.std.specs.List.{list_all, list_any}
use Rattle.std.specs.Int.Bits.{bit_and, and_zero_r}
use Rattle.std.proofs.lemmas.Bool.Decides.{nat_tests}
use Rattle.std.proofs.lemmas.Nat.{and_assoc}
use Rattle.cpux_decode.specs.Rows.{Row, meets, first_says, lookup}

pub both : (a b : Bool) → (a && b) ≡ true → (a ≡ true) × (b ≡ true)
both true b h = (refl, h)
both false b h = cc

chosen_passes : {A : Type 0} (q : A → Bool) (t : Bool) (x y : A) → (t ≡ true → q x ≡ true) → q y ≡ true →
    q (cond t x y) ≡ true
chosen_passes q true x y h k = h refl
chosen_passes q false x y h k = k

-- where each row passes a test, and the default, so does the answer
pub lookup-passes : {A : Type 0} (q : A → Bool) (e : A) (rows : List (Row A)) (w0 w1 : ℕ) → q e ≡ true →
    list_all (λ (row : Row A). q row.says) rows ≡ true → q (lookup e rows w0 w1) ≡ true
lookup-passes q e [] w0 w1 h a = h
lookup-passes {A} q e (row ∷ rows) w0 w1 h a =
    let s = both (q row.says) (list_all (λ (row : Row A). q row.says) rows) a in
    chosen_passes q (meets row w0 w1) row.says (lookup e rows w0 w1) (λ _. s.0)
    (lookup-passes q e rows w0 w1 h s.1)

kept_default : {A : Type 0} (t u : Bool) (x y z : A) → (t || u) ≡ true → (u ≡ true → y ≡ z) →
    cond t x y ≡ cond t x z
kept_default true u x y z h k = refl
kept_default false u x y z h k = k h

-- where a row is met, the default does not count
pub lookup-any : {A : Type 0} (e d : A) (rows : List (Row A)) (w0 w1 : ℕ) →
    list_any (λ (row : Row A). meets row w0 w1) rows ≡ true → lookup e rows w0 w1 ≡ lookup d rows w0 w1
lookup-any e d [] w0 w1 h = cc
lookup-any {A} e d (row ∷ rows) w0 w1 h =
    kept_default (meets row w0 w1) (list_any (λ (row : Row A). meets row w0 w1) rows) row.says
    (lookup e rows w0 w1) (lookup d rows w0 w1) h (lookup-any e d rows w0 w1)

default_left : {A : Type 0} (t u : Bool) (x y e : A) → (t || u) ≡ false → (u ≡ false → y ≡ e) →
    cond t x y ≡ e
default_left true u x y e h k = cc
default_left false u x y e h k = k h

-- where no row is met, the default is the answer
pub lookup-none : {A : Type 0} (e : A) (rows : List (Row A)) (w0 w1 : ℕ) →
    list_any (λ (row : Row A). meets row w0 w1) rows ≡ false → lookup e rows w0 w1 ≡ e
lookup-none e [] w0 w1 h = refl
lookup-none {A} e (row ∷ rows) w0 w1 h =
    default_left (meets row w0 w1) (list_any (λ (row : Row A). meets row w0 w1) rows) row.says
    (lookup e rows w0 w1) e h (lookup-none e rows w0 w1)

-- where there is one row, the default does not count
pub first_says-one : {A : Type 0} (e d : A) (rows : List (Row A)) → length rows ≡ 1 →
    first_says e rows ≡ first_says d rows
first_says-one e d [] h = cc
first_says-one e d (row ∷ rows) h = refl

-- ---- rows behind an extension word

-- a row of an extension word
abbrev pub is_long : {A : Type 0} → Row A → Bool
is_long row = (bit_and row.mask 0xF800 == 0xF800) && (bit_and row.value 0xF800 == 0x1800)

-- a row that does not look at the second word
abbrev pub is_short : {A : Type 0} → Row A → Bool
is_short row = (row.next_mask == 0) && (row.next_value == 0)

long_word : (w mask value : ℕ) → bit_and w mask ≡ value → bit_and mask 0xF800 ≡ 0xF800 →
    bit_and value 0xF800 ≡ 0x1800 → bit_and w 0xF800 ≡ 0x1800
long_word w mask value h m v =
    sym (ap (bit_and w) m) ∙ sym (and_assoc 0xF800 w mask) ∙ ap (λ x. bit_and x 0xF800) h ∙ v

-- a word that is no extension word meets none
long_unmet : {A : Type 0} (row : Row A) (w0 w1 : ℕ) → bit_and w0 0xF800 ≢ 0x1800 → is_long row ≡ true →
    meets row w0 w1 ≡ false
long_unmet row w0 w1 n l = grind (arith, nat_tests, long_word w0 row.mask row.value)

short_same : {A : Type 0} (row : Row A) (w0 w1 w2 : ℕ) → is_short row ≡ true →
    meets row w0 w1 ≡ meets row w0 w2
short_same row w0 w1 w2 s = grind (arith, nat_tests, and_zero_r w1, and_zero_r w2)

alone_same : {A : Type 0} (row : Row A) (w0 w1 w2 : ℕ) (l s : Bool) → is_long row ≡ l → is_short row ≡ s →
    (l || s) ≡ true → bit_and w0 0xF800 ≢ 0x1800 → meets row w0 w1 ≡ meets row w0 w2
alone_same row w0 w1 w2 true s a b h n = long_unmet row w0 w1 n a ∙ sym (long_unmet row w0 w2 n a)
alone_same row w0 w1 w2 false true a b h n = short_same row w0 w1 w2 b
alone_same row w0 w1 w2 false false a b h n = cc

-- a word that is no extension word is looked up alone
pub lookup-alone : {A : Type 0} (e : A) (rows : List (Row A)) (w0 w1 w2 : ℕ) → bit_and w0 0xF800 ≢ 0x1800 →
    list_all (λ (row : Row A). is_long row || is_short row) rows ≡ true →
    lookup e rows w0 w1 ≡ lookup e rows w0 w2
lookup-alone e [] w0 w1 w2 n a = refl
lookup-alone {A} e (row ∷ rows) w0 w1 w2 n a =
    let s =
    both (is_long row || is_short row) (list_all (λ (row : Row A). is_long row || is_short row) rows) a
    in
    ap (λ (t : Bool). cond t row.says (lookup e rows w0 w1))
    (alone_same row w0 w1 w2 (is_long row) (is_short row) refl refl s.0 n)
    ∙ ap (λ (x : A). cond (meets row w0 w2) row.says x) (lookup-alone e rows w0 w1 w2 n s.1)

met_passes : {A : Type 0} (q : A → Bool) (row : Row A) (w0 w1 : ℕ) (l : Bool) → is_long row ≡ l →
    (l || q row.says) ≡ true → bit_and w0 0xF800 ≢ 0x1800 → meets row w0 w1 ≡ true → q row.says ≡ true
met_passes q row w0 w1 true a h n m = let u = long_unmet row w0 w1 n a in cc
met_passes q row w0 w1 false a h n m = h

-- a test that each row passes but those of extension words
pub lookup-passes_alone : {A : Type 0} (q : A → Bool) (e : A) (rows : List (Row A)) (w0 w1 : ℕ) →
    bit_and w0 0xF800 ≢ 0x1800 → q e ≡ true →
    list_all (λ (row : Row A). is_long row || q row.says) rows ≡ true → q (lookup e rows w0 w1) ≡ true
lookup-passes_alone q e [] w0 w1 n h a = h
lookup-passes_alone {A} q e (row ∷ rows) w0 w1 n h a =
    let s =
    both (is_long row || q row.says) (list_all (λ (row : Row A). is_long row || q row.says) rows) a in
    chosen_passes q (meets row w0 w1) row.says (lookup e rows w0 w1)
    (met_passes q row w0 w1 (is_long row) refl s.0 n) (lookup-passes_alone q e rows w0 w1 n h s.1)
