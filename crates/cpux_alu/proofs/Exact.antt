-- Signed sums and differences, and decimal sums, as numbers.
use Rattle.std.proofs.Common.{◌≡◌, ℕ, zero, suc, ◌+◌, ◌*◌, ◌/◌, ◌%◌, ◌^◌, ◌<◌, pos, ◌+ℤ◌, ◌-ℤ◌, Bool, true, false, nat_le, ◌⊎◌, refl, ap, ◌∙◌, lit<, arith}
use Rattle.std.proofs.lemmas.Bool.Decides.{nat_tests}
use Rattle.std.proofs.Math.Nat.{mul_assoc, pow-succ'}
use Rattle.chip_words.specs.declared.sizes.Size.TheVariants.{Byte, Word, Addr}
use Rattle.chip_words.specs.Bits.{bit_of}
use Rattle.chip_words.specs.Decimals.{digit_of, lowest_sum, decimal_sum, decimal_carry}
use Rattle.chip_words.specs.Signed.{signed_value}
use Rattle.chip_words.specs.Sizes.{span}
use Rattle.cpux_alu.specs.Effects.{complement}
use Rattle.cpux_alu.specs.Sums.{leaves_range, overflows}
use Rattle.cpux_alu.specs.Laws.{SignedSumIsExact, IsDifference, ComplementSubtracts, decimal_value, DecimalSumIsExact}
use Rattle.cpux_alu.proofs.Overflow.{remainder_is}

exact_at : (half span x y v : ℕ) (carry : Bool) → span ≡ 2 * half → x < span → y < span → (v ≡ x + y + bit_of carry) ⊎ (v + span ≡ x + y + bit_of carry) → v < span → overflows span x y carry ≡ false → signed_value span v ≡ (signed_value span x +ℤ signed_value span y) +ℤ pos (bit_of carry)
exact_at half span x y v true h a b s l o = grind (arith, nat_tests)
exact_at half span x y v false h a b s l o = grind (arith, nat_tests)

difference_at : (half span x y : ℕ) → span ≡ 2 * half → x < span → y < span → overflows span x (complement span y) true ≡ leaves_range span (signed_value span x -ℤ signed_value span y)
difference_at half span x y h a b = grind (arith, nat_tests)

borrow_at : (span x y : ℕ) → x < span → y < span → nat_le span (x + complement span y + 1) ≡ nat_le y x
borrow_at span x y a b = grind (arith, nat_tests)

below_twice : (span x y : ℕ) (carry : Bool) → x < span → y < span → x + y + bit_of carry < 2 * span
below_twice span x y true a b = omega arith
below_twice span x y false a b = omega arith

exact : (half span x y : ℕ) (carry : Bool) → span ≡ 2 * half → 0 < span → x < span → y < span → overflows span x y carry ≡ false → signed_value span ((x + y + bit_of carry) % span) ≡ (signed_value span x +ℤ signed_value span y) +ℤ pos (bit_of carry)
exact half span x y carry h p a b o =
    exact_at half span x y ((x + y + bit_of carry) % span) carry h a b (remainder_is span (x + y + bit_of carry) _ (below_twice span x y carry a b) refl) (omega arith) o

pub signed_sum_is_exact : SignedSumIsExact
signed_sum_is_exact Byte x y carry a b o = exact 0x80 0x100 x y carry refl (lit< tt) a b o
signed_sum_is_exact Word x y carry a b o = exact 0x8000 0x10000 x y carry refl (lit< tt) a b o
signed_sum_is_exact Addr x y carry a b o = exact 0x80000 0x100000 x y carry refl (lit< tt) a b o

difference : (half span x y : ℕ) → span ≡ 2 * half → x < span → y < span → IsDifference span x y
difference half span x y h a b = record { carry = borrow_at span x y a b; overflow = difference_at half span x y h a b }

pub complement_subtracts : ComplementSubtracts
complement_subtracts Byte x y a b = difference 0x80 0x100 x y refl a b
complement_subtracts Word x y a b = difference 0x8000 0x10000 x y refl a b
complement_subtracts Addr x y a b = difference 0x80000 0x100000 x y refl a b

-- a digit and ten times its carry are the sum of two digits of the ten and a carry
digit_at : (s : ℕ) → s < 20 → digit_of s + 10 * bit_of (nat_le 10 s) ≡ s
digit_at s h = grind (arith, nat_tests)

digit_small : (s : ℕ) → s < 20 → digit_of s < 16
digit_small s h = grind (arith, nat_tests)

lowest_small : (x y : ℕ) (carry : Bool) → x % 16 < 10 → y % 16 < 10 → lowest_sum x y carry < 20
lowest_small x y true a b = omega arith
lowest_small x y false a b = omega arith

-- one digit before others
value_of : (n d r : ℕ) → d < 16 → decimal_value (suc n) (d + 16 * r) ≡ d + 10 * decimal_value n r
value_of n d r h =
    ap (λ low. low + 10 * decimal_value n ((d + 16 * r) / 16)) (let e : (d + 16 * r) % 16 ≡ d = omega arith in e)
    ∙ ap (λ high. d + 10 * decimal_value n high) (let e : (d + 16 * r) / 16 ≡ r = omega arith in e)

-- one digit more: d is the digit with carry k, v the value of the others with carry b, p their power of ten
more : (d k v p q b x y vx vy c : ℕ) → q ≡ 10 * p → d + 10 * k ≡ x + y + c → v + p * b ≡ vx + vy + k → (d + 10 * v) + q * b ≡ (x + 10 * vx) + (y + 10 * vy) + c
more d k v p q b x y vx vy c f e g =
    let h : q * b ≡ 10 * (p * b) = ap (λ z. z * b) f ∙ mul_assoc 10 p b in omega arith

pub decimal_sum_is_exact : DecimalSumIsExact
decimal_sum_is_exact zero x y carry a b = omega arith
decimal_sum_is_exact (suc n) x y carry a b =
    let s : ℕ = lowest_sum x y carry in
    let h : s < 20 = lowest_small x y carry a.0 b.0 in
    let k : Bool = nat_le 10 s in
    let r : ℕ = decimal_sum n (x / 16) (y / 16) k in
    ap (λ v. v + 10 ^ suc n * bit_of (decimal_carry n (x / 16) (y / 16) k)) (value_of n (digit_of s) r (digit_small s h))
    ∙ more (digit_of s) (bit_of k) (decimal_value n r) (10 ^ n) (10 ^ suc n) (bit_of (decimal_carry n (x / 16) (y / 16) k)) (x % 16) (y % 16) (decimal_value n (x / 16)) (decimal_value n (y / 16)) (bit_of carry) (pow-succ' 10 n) (digit_at s h) (decimal_sum_is_exact n (x / 16) (y / 16) k a.1 b.1)
