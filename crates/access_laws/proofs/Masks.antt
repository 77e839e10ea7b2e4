-- Bytes with those of a seal hidden: what reading and writing make of them. What a seal is doesn't matter here, but
-- that a word lies whole inside it or outside.
use Rattle.std.proofs.Common.{◌≡◌, ◌≤◌, ◌+◌, ◌-◌, ◌%◌, ℕ, List, [], ◌∷◌, Bool, true, false, slice_index, slice_set, zero, suc, arith, refl, ap, sym, ◌∙◌, if◌then◌else◌}
use Rattle.std.proofs.lemmas.Bool.Decides.{nat_tests}
use Rattle.chip_words.specs.declared.sizes.Size.{Size}
use Rattle.chip_words.specs.declared.sizes.Size.TheVariants.{Byte}
use Rattle.chip_words.specs.declared.regions.Region.TheVariants.{Main}
use Rattle.chip_words.specs.declared.seals.Seal.{Seal}
use Rattle.chip_words.specs.Encap.{Encap, area, is_enabled, is_locked, seal}
use Rattle.chip_words.specs.Map.{aligned, region_at}
use Rattle.chip_words.specs.Memory.{loaded, stored}
use Rattle.chip_words.specs.Public.{hidden, hidden_from}
use Rattle.chip_words.specs.Seals.{between, is_in, nowhere}
use Rattle.chip_words.specs.Segments.{border}
use Rattle.access_laws.specs.Boots.{HasBorders}

-- ---- which addresses a seal holds

between-HasBorders :
    (low high : ℕ) → low % 1024 ≡ 0 → high % 1024 ≡ 0 → HasBorders (between low high)
between-HasBorders low high l h = record { low = grind (arith, nat_tests); high = grind (arith, nat_tests) }

border-multiple : (register : ℕ) → border register % 1024 ≡ 0
border-multiple register = omega arith

area-HasBorders : (encap : Encap) → HasBorders (area encap)
unfolding area
area-HasBorders encap =
    let low = border encap.mpuipsegb1 in
    let high = border encap.mpuipsegb2 in
    elim (is_enabled encap) as (λ b. HasBorders (if b then between low high else nowhere)) [
      | true ↦ between-HasBorders low high (border-multiple encap.mpuipsegb1) (border-multiple encap.mpuipsegb2)
      | false ↦ record { low = refl; high = refl }
    ]

pub seal-HasBorders : (encap : Encap) → HasBorders (seal encap)
seal-HasBorders encap =
    elim (is_locked encap) as (λ b. HasBorders (if b then area encap else nowhere)) [
      | true ↦ area-HasBorders encap
      | false ↦ record { low = refl; high = refl }
    ]

pub is_in-nowhere : (at : ℕ) → is_in nowhere at ≡ false
unfolding is_in
is_in-nowhere at = grind (arith, nat_tests)

pub is_in-main : (seal : Seal) (at : ℕ) → is_in seal at ≡ true → region_at at ≡ Main
unfolding is_in region_at
is_in-main seal at inside = grind (arith, nat_tests)

pub is_in-high : (seal : Seal) (at : ℕ) → is_in seal at ≡ true → 0x4400 ≤ at
unfolding is_in
is_in-high seal at inside = grind (arith, nat_tests)

pub is_in-next :
    (seal : Seal) (at : ℕ) → HasBorders seal → at % 2 ≡ 0 → is_in seal (at + 1) ≡ is_in seal at
unfolding is_in
is_in-next seal at borders even = grind (arith, nat_tests, borders.low, borders.high)

pub is_in-aligned :
    (seal : Seal) (size : Size) (at : ℕ) → HasBorders seal → is_in seal (aligned size at) ≡ is_in seal at
is_in-aligned seal Byte at borders = refl
is_in-aligned seal size at borders = by_bit (at % 2) refl
  where
    by_bit : (bit : ℕ) → at % 2 ≡ bit → is_in seal (at - at % 2) ≡ is_in seal at
    by_bit zero e =
        let same : at - at % 2 ≡ at = omega arith in
        ap (is_in seal) same
    by_bit (suc n) e =
        let next : at ≡ at - at % 2 + 1 = omega arith in
        sym (ap (is_in seal) next ∙ is_in-next seal (at - at % 2) borders (omega arith))

pub aligned-aligned : (size : Size) (at : ℕ) → aligned size (aligned size at) ≡ aligned size at
aligned-aligned Byte at = refl
aligned-aligned size at = omega arith

-- ---- the bytes from an address on

hidden_from-get :
    (seal : Seal) (at : ℕ) (bytes : List ℕ) (k : ℕ) → is_in seal (at + k) ≡ false →
    slice_index (hidden_from seal at bytes) k ≡ slice_index bytes k
hidden_from-get seal at [] k outside = refl
hidden_from-get seal at (x ∷ xs) zero outside = grind arith
hidden_from-get seal at (x ∷ xs) (suc k) outside =
    let next : at + 1 + k ≡ at + suc k = omega arith in
    hidden_from-get seal (at + 1) xs k (rw next outside)

hidden_from-set :
    (seal : Seal) (at : ℕ) (bytes : List ℕ) (k value : ℕ) → is_in seal (at + k) ≡ false →
    hidden_from seal at (slice_set bytes k value) ≡ slice_set (hidden_from seal at bytes) k value
hidden_from-set seal at [] k value outside = refl
hidden_from-set seal at (x ∷ xs) zero value outside = grind arith
hidden_from-set seal at (x ∷ xs) (suc k) value outside =
    let next : at + 1 + k ≡ at + suc k = omega arith in
    ap (λ ys. (if is_in seal at then 0 else x) ∷ ys)
    (hidden_from-set seal (at + 1) xs k value (rw next outside))

hidden_from-set_inside :
    (seal : Seal) (at : ℕ) (bytes : List ℕ) (k value : ℕ) → is_in seal (at + k) ≡ true →
    hidden_from seal at (slice_set bytes k value) ≡ hidden_from seal at bytes
hidden_from-set_inside seal at [] k value inside = refl
hidden_from-set_inside seal at (x ∷ xs) zero value inside = grind arith
hidden_from-set_inside seal at (x ∷ xs) (suc k) value inside =
    let next : at + 1 + k ≡ at + suc k = omega arith in
    ap (λ ys. (if is_in seal at then 0 else x) ∷ ys)
    (hidden_from-set_inside seal (at + 1) xs k value (rw next inside))

hidden_from-twice :
    (seal : Seal) (at : ℕ) (bytes : List ℕ) →
    hidden_from seal at (hidden_from seal at bytes) ≡ hidden_from seal at bytes
hidden_from-twice seal at [] = refl
hidden_from-twice seal at (x ∷ xs) = grind (arith, hidden_from-twice seal (at + 1) xs)

hidden_from-nowhere : (at : ℕ) (bytes : List ℕ) → hidden_from nowhere at bytes ≡ bytes
hidden_from-nowhere at [] = refl
hidden_from-nowhere at (x ∷ xs) = grind (arith, is_in-nowhere at, hidden_from-nowhere (at + 1) xs)

-- ---- a memory

from_zero : (seal : Seal) (at : ℕ) (test : Bool) → is_in seal at ≡ test → is_in seal (0 + at) ≡ test
from_zero seal at test e =
    let same : 0 + at ≡ at = omega arith in
    rw same e

pub hidden-nowhere : (memory : List ℕ) → hidden nowhere memory ≡ memory
unfolding hidden
hidden-nowhere memory = hidden_from-nowhere 0 memory

pub hidden-twice : (seal : Seal) (memory : List ℕ) → hidden seal (hidden seal memory) ≡ hidden seal memory
unfolding hidden
hidden-twice seal memory = hidden_from-twice seal 0 memory

pub hidden-get :
    (seal : Seal) (memory : List ℕ) (at : ℕ) → is_in seal at ≡ false →
    slice_index (hidden seal memory) at ≡ slice_index memory at
unfolding hidden
hidden-get seal memory at outside = hidden_from-get seal 0 memory at (from_zero seal at false outside)

pub hidden-set :
    (seal : Seal) (memory : List ℕ) (at value : ℕ) → is_in seal at ≡ false →
    hidden seal (slice_set memory at value) ≡ slice_set (hidden seal memory) at value
unfolding hidden
hidden-set seal memory at value outside = hidden_from-set seal 0 memory at value (from_zero seal at false outside)

hidden-set_inside :
    (seal : Seal) (memory : List ℕ) (at value : ℕ) → is_in seal at ≡ true →
    hidden seal (slice_set memory at value) ≡ hidden seal memory
unfolding hidden
hidden-set_inside seal memory at value inside =
    hidden_from-set_inside seal 0 memory at value (from_zero seal at true inside)

-- ---- values

-- a value that is read outside the seal is the same where the seal's bytes are hidden
pub loaded-hidden :
    (seal : Seal) (memory : List ℕ) (at : ℕ) (size : Size) → HasBorders seal → aligned size at ≡ at →
    is_in seal at ≡ false → loaded memory at size ≡ loaded (hidden seal memory) at size
unfolding loaded
loaded-hidden seal memory at Byte borders even outside = sym (hidden-get seal memory at outside)
loaded-hidden seal memory at size borders even outside =
    let is_even : at % 2 ≡ 0 = omega (arith, even) in
    let first = hidden-get seal memory at outside in
    let second = hidden-get seal memory (at + 1) (rw (is_in-next seal at borders is_even) outside) in
    cc

-- one that is written outside it is hidden nowhere
stored-hidden_outside :
    (seal : Seal) (memory : List ℕ) (at : ℕ) (size : Size) (value : ℕ) → HasBorders seal → aligned size at ≡ at →
    is_in seal at ≡ false →
    hidden seal (stored memory at size value) ≡ hidden seal (stored (hidden seal memory) at size value)
unfolding stored
stored-hidden_outside seal memory at Byte value borders even outside = simp (hidden-set, hidden-twice)
stored-hidden_outside seal memory at size value borders even outside =
    let is_even : at % 2 ≡ 0 = omega (arith, even) in
    let next : is_in seal (at + 1) ≡ false = rw (is_in-next seal at borders is_even) outside in
    simp (hidden-set, hidden-twice)

-- and one that is written inside it is hidden whole
pub stored-hidden_inside :
    (seal : Seal) (memory : List ℕ) (at : ℕ) (size : Size) (value : ℕ) → HasBorders seal → aligned size at ≡ at →
    is_in seal at ≡ true → hidden seal (stored memory at size value) ≡ hidden seal memory
unfolding stored
stored-hidden_inside seal memory at Byte value borders even inside = hidden-set_inside seal memory at _ inside
stored-hidden_inside seal memory at size value borders even inside =
    let is_even : at % 2 ≡ 0 = omega (arith, even) in
    let next : is_in seal (at + 1) ≡ true = rw (is_in-next seal at borders is_even) inside in
    simp hidden-set_inside

-- so wherever it is written, what is shown goes by what was shown
pub stored-hidden :
    (seal : Seal) (memory : List ℕ) (at : ℕ) (size : Size) (value : ℕ) → HasBorders seal → aligned size at ≡ at →
    hidden seal (stored memory at size value) ≡ hidden seal (stored (hidden seal memory) at size value)
stored-hidden seal memory at size value borders even = by_place (is_in seal at) refl
  where
    by_place :
        (test : Bool) → is_in seal at ≡ test →
        hidden seal (stored memory at size value) ≡ hidden seal (stored (hidden seal memory) at size value)
    by_place true inside =
        stored-hidden_inside seal memory at size value borders even inside
        ∙ sym (hidden-twice seal memory)
        ∙ sym (stored-hidden_inside seal (hidden seal memory) at size value borders even inside)
    by_place false outside = stored-hidden_outside seal memory at size value borders even outside
