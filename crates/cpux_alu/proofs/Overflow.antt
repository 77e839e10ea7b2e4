-- The exact signed sum leaves the range where two numbers of one sign have a sum of the other sign.
use Rattle.std.proofs.Common.{◌≡◌, ℕ, ◌+◌, ◌*◌, ◌/◌, ◌%◌, ◌<◌, Bool, true, false, not, ◌⊎◌, arith}
use Rattle.std.proofs.lemmas.Bool.Decides.{nat_tests}
use Rattle.std.proofs.Math.Nat.{mod-eq_of_lt, mod-eq-sub-mod}
use Rattle.chip_words.specs.Bits.{bit_of}
use Rattle.cpux_alu.specs.Effects.{is_negative}
use Rattle.cpux_alu.specs.Sums.{overflows}

-- two signs are one and the third is the other
abbrev pub sign_turns : Bool → Bool → Bool → Bool
sign_turns true true sign = not sign
sign_turns false false sign = sign
sign_turns x y sign = false

-- a sum below twice the span, and its remainder
pub remainder_is : (span s v : ℕ) → s < 2 * span → v ≡ s % span → (v ≡ s) ⊎ (v + span ≡ s)
remainder_is span s v h e = grind (arith, nat_tests, mod-eq_of_lt, mod-eq-sub-mod)

signs_at : (half span x y v : ℕ) (carry : Bool) → span ≡ 2 * half → x < span → y < span → (v ≡ x + y + bit_of carry) ⊎ (v + span ≡ x + y + bit_of carry) → v < span → overflows span x y carry ≡ sign_turns (is_negative span x) (is_negative span y) (is_negative span v)
signs_at half span x y v true h a b s l = grind (arith, nat_tests)
signs_at half span x y v false h a b s l = grind (arith, nat_tests)

pub overflows_by_signs : (span x y v : ℕ) (carry : Bool) → span % 2 ≡ 0 → x < span → y < span → v ≡ (x + y + bit_of carry) % span → overflows span x y carry ≡ sign_turns (is_negative span x) (is_negative span y) (is_negative span v)
overflows_by_signs span x y v carry e a b s =
    signs_at (span / 2) span x y v carry (omega arith) a b (remainder_is span (x + y + bit_of carry) v (below carry) s) (omega arith)
  where
    below : (c : Bool) → x + y + bit_of c < 2 * span
    below true = omega arith
    below false = omega arith
