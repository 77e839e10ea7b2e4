-- Tests over two tables that split on the bits of two words and drop the rows that are ruled out, until few
-- rows are left. What such a test tells of the rows that are left holds of how many rows two words meet.
use Rattle.std.proofs.Common.{◌≡◌, ℕ, zero, suc, ◌*◌, ◌^◌, ◌<◌, Bool, true, false, List, [], ◌∷◌, ◌++◌, length, refl, ap, sym, subst, ◌∙◌, arith, ◌==◌, ◌&&◌, inl, inr, ◌⊎◌}
use Rattle.std.specs.Int.Bits.{bit_and}
use Rattle.std.specs.Int.{bit_at}
use Rattle.std.proofs.lemmas.Nat.Bits.{and_pow, bit_at-lt}
use Rattle.cpux_decode.specs.Rows.{Row, meets, kept_row, rows_met}
use Rattle.cpux_decode.proofs.Narrow.{left_row, left_row_next, narrow, narrow_next, test_left, test_none, and_false}

-- whether a row asks for some of the bits
abbrev pub asks : {A : Type 0} → ℕ → List (Row A) → Bool
asks m [] = false
asks m (row ∷ rows) = elim (bit_and row.mask m == 0) [ false ↦ true | true ↦ asks m rows ]

abbrev pub asks_next : {A : Type 0} → ℕ → List (Row A) → Bool
asks_next m [] = false
asks_next m (row ∷ rows) = elim (bit_and row.next_mask m == 0) [ false ↦ true | true ↦ asks_next m rows ]

-- a row counts the same without the bits that are known
same_kept : {A : Type 0} (t : Bool) (a b : Row A) (xs ys : List (Row A)) → length xs ≡ length ys →
    length (kept_row t a xs) ≡ length (kept_row t b ys)
same_kept true a b xs ys e = ap suc e
same_kept false a b xs ys e = e

count_keep : {A : Type 0} (m v : ℕ) (row : Row A) (rows rest : List (Row A)) (w0 w1 : ℕ) (t : Bool) →
    bit_and w0 m ≡ v → (bit_and v row.mask == bit_and row.value m) ≡ t →
    length (rows_met rows w0 w1) ≡ length (rows_met rest w0 w1) →
    length (rows_met (row ∷ rows) w0 w1) ≡ length (rows_met (kept_row t (left_row m row) rest) w0 w1)
count_keep {A} m v row rows rest w0 w1 true h k r =
    ap
    (λ (t : Bool). length
    (kept_row (t && (bit_and w1 row.next_mask == row.next_value)) row (rows_met rows w0 w1)))
    (test_left w0 row.mask row.value m v h k)
    ∙ same_kept (meets (left_row m row) w0 w1) row (left_row m row) (rows_met rows w0 w1)
    (rows_met rest w0 w1) r
count_keep {A} m v row rows rest w0 w1 false h k r =
    ap
    (λ (t : Bool). length
    (kept_row (t && (bit_and w1 row.next_mask == row.next_value)) row (rows_met rows w0 w1)))
    (test_none w0 row.mask row.value m v h k)
    ∙ r

count_keep_next : {A : Type 0} (m v : ℕ) (row : Row A) (rows rest : List (Row A)) (w0 w1 : ℕ) (t : Bool) →
    bit_and w1 m ≡ v → (bit_and v row.next_mask == bit_and row.next_value m) ≡ t →
    length (rows_met rows w0 w1) ≡ length (rows_met rest w0 w1) →
    length (rows_met (row ∷ rows) w0 w1) ≡ length (rows_met (kept_row t (left_row_next m row) rest) w0 w1)
count_keep_next {A} m v row rows rest w0 w1 true h k r =
    ap (λ (t : Bool). length (kept_row ((bit_and w0 row.mask == row.value) && t) row (rows_met rows w0 w1)))
    (test_left w1 row.next_mask row.next_value m v h k)
    ∙ same_kept (meets (left_row_next m row) w0 w1) row (left_row_next m row) (rows_met rows w0 w1)
    (rows_met rest w0 w1) r
count_keep_next {A} m v row rows rest w0 w1 false h k r =
    ap (λ (t : Bool). length (kept_row ((bit_and w0 row.mask == row.value) && t) row (rows_met rows w0 w1)))
    (test_none w1 row.next_mask row.next_value m v h k)
    ∙ ap (λ (t : Bool). length (kept_row t row (rows_met rows w0 w1)))
    (and_false (bit_and w0 row.mask == row.value))
    ∙ r

count-narrow : {A : Type 0} (m v : ℕ) (rows : List (Row A)) (w0 w1 : ℕ) → bit_and w0 m ≡ v →
    length (rows_met rows w0 w1) ≡ length (rows_met (narrow m v rows) w0 w1)
count-narrow m v [] w0 w1 h = refl
count-narrow m v (row ∷ rows) w0 w1 h =
    count_keep m v row rows (narrow m v rows) w0 w1 (bit_and v row.mask == bit_and row.value m) h refl
    (count-narrow m v rows w0 w1 h)

count-narrow_next : {A : Type 0} (m v : ℕ) (rows : List (Row A)) (w0 w1 : ℕ) → bit_and w1 m ≡ v →
    length (rows_met rows w0 w1) ≡ length (rows_met (narrow_next m v rows) w0 w1)
count-narrow_next m v [] w0 w1 h = refl
count-narrow_next m v (row ∷ rows) w0 w1 h =
    count_keep_next m v row rows (narrow_next m v rows) w0 w1
    (bit_and v row.next_mask == bit_and row.next_value m) h refl (count-narrow_next m v rows w0 w1 h)

-- how many rows two words meet
-- the ways in which the test passes
ways : (d n s a b : Bool) →
    (elim d [ true ↦ true | false ↦ elim n [ false ↦ s | true ↦ elim a [ false ↦ false | true ↦ b ] ] ]) ≡ true →
    (d ≡ true) ⊎ ((s ≡ true) ⊎ ((a ≡ true) × (b ≡ true)))
ways true n s a b h = inl refl
ways false false s a b h = inr (inl h)
ways false true s true b h = inr (inr (refl, h))
ways false true s false b h = cc

bit_of : (b : ℕ) → b < 2 → (b ≡ 0) ⊎ (b ≡ 1)
bit_of zero h = inl refl
bit_of (suc zero) h = inr refl
bit_of (suc (suc n)) h = absurd (omega arith)

-- a bit is not set or set
bit_is : (w k : ℕ) → (bit_and w (2 ^ k) ≡ 0) ⊎ (bit_and w (2 ^ k) ≡ 2 ^ k)
bit_is w k = elim (bit_of (bit_at w k) (bit_at-lt w k)) as (λ _. (bit_and w (2 ^ k) ≡ 0) ⊎ (bit_and w (2 ^ k) ≡ 2 ^ k)) [
  | inl z ↦ inl (and_pow w k ∙ ap (λ b. b * 2 ^ k) z ∙ omega arith)
  | inr o ↦ inr (and_pow w k ∙ ap (λ b. b * 2 ^ k) o ∙ omega arith)
]

-- A test passes where it passes at once, or for each choice of the next bits: those of the first word, from the top,
-- and then those of the second. A bit that no row asks for is not chosen.
abbrev pub Test : Type 0 → Type 0
Test A = List (Row A) → List (Row A) → Bool

unfoldable pub passes_next : {A : Type 0} → Test A → List ℕ → Test A
passes_next test [] r o = test r o
passes_next test (k ∷ ks) r o = elim (test r o) [
  | true ↦ true
  | false ↦ elim (asks_next (2 ^ k) (r ++ o)) [
    | false ↦ passes_next test ks r o
    | true ↦ elim (passes_next test ks (narrow_next (2 ^ k) 0 r) (narrow_next (2 ^ k) 0 o)) [
      | false ↦ false
      | true ↦ passes_next test ks (narrow_next (2 ^ k) (2 ^ k) r) (narrow_next (2 ^ k) (2 ^ k) o)
    ]
  ]
]

unfoldable pub passes : {A : Type 0} → Test A → List ℕ → List ℕ → Test A
passes test [] js r o = passes_next test js r o
passes test (k ∷ ks) js r o = elim (test r o) [
  | true ↦ true
  | false ↦ elim (asks (2 ^ k) (r ++ o)) [
    | false ↦ passes test ks js r o
    | true ↦ elim (passes test ks js (narrow (2 ^ k) 0 r) (narrow (2 ^ k) 0 o)) [
      | false ↦ false
      | true ↦ passes test ks js (narrow (2 ^ k) (2 ^ k) r) (narrow (2 ^ k) (2 ^ k) o)
    ]
  ]
]

-- a fact on how many rows of two tables a pair of words meets
abbrev pub Counted : {A : Type 0} → (ℕ → ℕ → Type 0) → List (Row A) → List (Row A) → ℕ → ℕ → Type 0
Counted P r o w0 w1 = P (length (rows_met r w0 w1)) (length (rows_met o w0 w1))

Counted-narrow : {A : Type 0} (P : ℕ → ℕ → Type 0) (m v : ℕ) (r o : List (Row A)) (w0 w1 : ℕ) →
    bit_and w0 m ≡ v → Counted P (narrow m v r) (narrow m v o) w0 w1 → Counted P r o w0 w1
Counted-narrow P m v r o w0 w1 h c =
    subst (λ n. P n (length (rows_met o w0 w1))) (sym (count-narrow m v r w0 w1 h))
    (subst (P (length (rows_met (narrow m v r) w0 w1))) (sym (count-narrow m v o w0 w1 h)) c)

Counted-narrow_next : {A : Type 0} (P : ℕ → ℕ → Type 0) (m v : ℕ) (r o : List (Row A)) (w0 w1 : ℕ) →
    bit_and w1 m ≡ v → Counted P (narrow_next m v r) (narrow_next m v o) w0 w1 → Counted P r o w0 w1
Counted-narrow_next P m v r o w0 w1 h c =
    subst (λ n. P n (length (rows_met o w0 w1))) (sym (count-narrow_next m v r w0 w1 h))
    (subst (P (length (rows_met (narrow_next m v r) w0 w1))) (sym (count-narrow_next m v o w0 w1 h)) c)

passes_next-tells : {A : Type 0} (test : Test A) (P : ℕ → ℕ → Type 0) (w0 w1 : ℕ) →
    ((r o : List (Row A)) → test r o ≡ true → Counted P r o w0 w1) →
    (ks : List ℕ) (r o : List (Row A)) → passes_next test ks r o ≡ true → Counted P r o w0 w1
unfolding passes_next
passes_next-tells test P w0 w1 told [] r o h = told r o h
passes_next-tells test P w0 w1 told (k ∷ ks) r o h =
    let zero_left = passes_next test ks (narrow_next (2 ^ k) 0 r) (narrow_next (2 ^ k) 0 o) in
    let one_left = passes_next test ks (narrow_next (2 ^ k) (2 ^ k) r) (narrow_next (2 ^ k) (2 ^ k) o) in
    elim (ways (test r o) (asks_next (2 ^ k) (r ++ o)) (passes_next test ks r o) zero_left one_left h) as (λ _. Counted P r o w0 w1) [
      | inl d ↦ told r o d
      | inr s ↦ elim s as (λ _. Counted P r o w0 w1) [
        | inl t ↦ passes_next-tells test P w0 w1 told ks r o t
        | inr t ↦ elim (bit_is w1 k) as (λ _. Counted P r o w0 w1) [
          | inl z ↦ Counted-narrow_next P (2 ^ k) 0 r o w0 w1 z
              (passes_next-tells test P w0 w1 told ks (narrow_next (2 ^ k) 0 r) (narrow_next (2 ^ k) 0 o) t.0)
          | inr b ↦ Counted-narrow_next P (2 ^ k) (2 ^ k) r o w0 w1 b
              (passes_next-tells test P w0 w1 told ks (narrow_next (2 ^ k) (2 ^ k) r) (narrow_next (2 ^ k) (2 ^ k) o) t.1)
        ]
      ]
    ]

-- what a test tells of counts where it passes at once, it tells where it passes so
pub passes-tells : {A : Type 0} (test : Test A) (P : ℕ → ℕ → Type 0) (w0 w1 : ℕ) →
    ((r o : List (Row A)) → test r o ≡ true → Counted P r o w0 w1) →
    (ks js : List ℕ) (r o : List (Row A)) → passes test ks js r o ≡ true → Counted P r o w0 w1
unfolding passes
passes-tells test P w0 w1 told [] js r o h = passes_next-tells test P w0 w1 told js r o h
passes-tells test P w0 w1 told (k ∷ ks) js r o h =
    let zero_left = passes test ks js (narrow (2 ^ k) 0 r) (narrow (2 ^ k) 0 o) in
    let one_left = passes test ks js (narrow (2 ^ k) (2 ^ k) r) (narrow (2 ^ k) (2 ^ k) o) in
    elim (ways (test r o) (asks (2 ^ k) (r ++ o)) (passes test ks js r o) zero_left one_left h) as (λ _. Counted P r o w0 w1) [
      | inl d ↦ told r o d
      | inr s ↦ elim s as (λ _. Counted P r o w0 w1) [
        | inl t ↦ passes-tells test P w0 w1 told ks js r o t
        | inr t ↦ elim (bit_is w0 k) as (λ _. Counted P r o w0 w1) [
          | inl z ↦ Counted-narrow P (2 ^ k) 0 r o w0 w1 z
              (passes-tells test P w0 w1 told ks js (narrow (2 ^ k) 0 r) (narrow (2 ^ k) 0 o) t.0)
          | inr b ↦ Counted-narrow P (2 ^ k) (2 ^ k) r o w0 w1 b
              (passes-tells test P w0 w1 told ks js (narrow (2 ^ k) (2 ^ k) r) (narrow (2 ^ k) (2 ^ k) o) t.1)
        ]
      ]
    ]

abbrev pub places : List ℕ
places = 15 ∷ 14 ∷ 13 ∷ 12 ∷ 11 ∷ 10 ∷ 9 ∷ 8 ∷ 7 ∷ 6 ∷ 5 ∷ 4 ∷ 3 ∷ 2 ∷ 1 ∷ 0 ∷ []
