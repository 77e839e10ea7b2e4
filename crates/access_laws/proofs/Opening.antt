-- Two memories under another seal: each byte that is shown was shown, or is opened.
use Rattle.std.proofs.Common.{◌≡◌, ◌+◌, ℕ, List, [], ◌∷◌, Bool, true, false, slice_index, suc, arith, refl, if◌then◌else◌}
use Rattle.chip_words.specs.declared.seals.Seal.{Seal}
use Rattle.chip_words.specs.Public.{hidden, hidden_from}
use Rattle.chip_words.specs.Seals.{is_in}
use Rattle.access_laws.specs.Boots.{OpenedTellsAll}

opened_byte :
    (old new : Bool) (x y : ℕ) → (if old then 0 else x) ≡ (if old then 0 else y) →
    (old ≡ true → new ≡ false → x ≡ y) → (if new then 0 else x) ≡ (if new then 0 else y)
opened_byte true true x y shown opened = refl
opened_byte true false x y shown opened = opened refl refl
opened_byte false true x y shown opened = refl
opened_byte false false x y shown opened = shown

first_is : (x y : ℕ) (xs ys : List ℕ) → x ∷ xs ≡ y ∷ ys → x ≡ y
first_is x y xs ys same = cc

rest_is : (x y : ℕ) (xs ys : List ℕ) → x ∷ xs ≡ y ∷ ys → xs ≡ ys
rest_is x y xs ys same = cc

both_are : (x y : ℕ) (xs ys : List ℕ) → x ≡ y → xs ≡ ys → x ∷ xs ≡ y ∷ ys
both_are x y xs ys first rest = cc

hidden_from-opened :
    (old new : Seal) (at : ℕ) (one other : List ℕ) → hidden_from old at one ≡ hidden_from old at other →
    ((k : ℕ) → is_in old (at + k) ≡ true → is_in new (at + k) ≡ false → slice_index one k ≡ slice_index other k) →
    hidden_from new at one ≡ hidden_from new at other
hidden_from-opened old new at [] [] shown opened = refl
hidden_from-opened old new at [] (y ∷ ys) shown opened = cc
hidden_from-opened old new at (x ∷ xs) [] shown opened = cc
hidden_from-opened old new at (x ∷ xs) (y ∷ ys) shown opened =
    let here : at + 0 ≡ at = omega arith in
    both_are _ _ _ _
    (opened_byte (is_in old at) (is_in new at) x y (first_is _ _ _ _ shown)
    (λ inside outside. opened 0 (rw here inside) (rw here outside)))
    (hidden_from-opened old new (at + 1) xs ys (rest_is _ _ _ _ shown)
    (λ k inside outside.
    let next : at + suc k ≡ at + 1 + k = omega arith in
    opened (suc k) (rw next inside) (rw next outside)))

pub opened_tells_all : OpenedTellsAll
unfolding hidden
opened_tells_all old new one other shown opened =
    hidden_from-opened old new 0 one other shown
    (λ k inside outside.
    let same : 0 + k ≡ k = omega arith in
    opened k (rw (← same) inside) (rw (← same) outside))
