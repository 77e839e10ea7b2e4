-- The least pin whose bit is set is the number of zeros below a byte's first digit 1.
use Rattle.std.proofs.Common.{◌≡◌, ℕ, zero, suc, ◌+◌, ◌/◌, ◌%◌, ◌^◌, ◌<◌, ◌≤◌, Bool, true, false, List, [], ◌∷◌, Some, None, IfSome, ◌==◌, refl, ap, ◌∙◌, arith}
use Rattle.std.proofs.lemmas.Nat.{shr-shr}
use Rattle.std.proofs.Math.Nat.{div-one, zero-div}
use lib.Count.{count_trailing_zeros}
use Rattle.std.specs.Prelude.{bit_and}
use Rattle.chip_words.specs.Bits.{has_bit}
use Rattle.chip_words.specs.Ports.{PortPair, HIGH_PORT, LOW_PORT, least_pin, pins, waiting_pin}

-- so many numbers, from one on
abbrev numbers_from : ℕ → ℕ → List ℕ
numbers_from n zero = []
numbers_from n (suc k) = n ∷ numbers_from (n + 1) k

least_pin_from : (byte n k width : ℕ) → 0 < byte / 2 ^ n → byte / 2 ^ n < 2 ^ k → k ≤ width → least_pin (numbers_from n k) byte ≡ Some (n + count_trailing_zeros width (byte / 2 ^ n))
unfolding count_trailing_zeros
least_pin_from byte n zero width some below within = absurd (omega arith)
least_pin_from byte n (suc k) zero some below within = absurd (omega arith)
least_pin_from byte n (suc k) (suc width) some below within = by_digit (λ more less. least_pin_from byte (n + 1) k width more less (omega arith)) (byte / 2 ^ n % 2) refl
  where
    by_digit : (0 < byte / 2 ^ (n + 1) → byte / 2 ^ (n + 1) < 2 ^ k → least_pin (numbers_from (n + 1) k) byte ≡ Some (n + 1 + count_trailing_zeros width (byte / 2 ^ (n + 1)))) → (d : ℕ) → byte / 2 ^ n % 2 ≡ d → least_pin (numbers_from n (suc k)) byte ≡ Some (n + count_trailing_zeros (suc width) (byte / 2 ^ n))
    by_digit rest zero e =
        let halves : byte / 2 ^ n / 2 ≡ byte / 2 ^ (n + 1) = shr-shr byte n 1 in
        let found = rest (omega arith) (omega arith) in
        rw (e, halves, found) (ap Some (omega arith))
    by_digit rest (suc zero) e = rw e (ap Some (omega arith))
    by_digit rest (suc (suc d)) e = absurd (omega arith)

-- the least pin of a byte that isn't 0
pub least_pin-zeros : (byte : ℕ) → 0 < byte → byte < 0x100 → least_pin pins byte ≡ Some (count_trailing_zeros 16 byte)
least_pin-zeros byte some below =
    let found : least_pin pins byte ≡ Some (0 + count_trailing_zeros 16 (byte / 1)) = least_pin_from byte 0 8 16 (rw div-one some) (rw div-one below) (omega arith) in
    let same : 0 + count_trailing_zeros 16 (byte / 1) ≡ count_trailing_zeros 16 byte = rw div-one (omega arith) in
    found ∙ ap Some same

least_pin_from-below : (byte n k : ℕ) → IfSome (least_pin (numbers_from n k) byte) (λ pin. pin < n + k)
least_pin_from-below byte n zero = tt
least_pin_from-below byte n (suc k) = by_bit (least_pin_from-below byte (n + 1) k) (has_bit byte n) refl
  where
    by_bit : IfSome (least_pin (numbers_from (n + 1) k) byte) (λ pin. pin < n + 1 + k) → (bit : Bool) → has_bit byte n ≡ bit → IfSome (least_pin (numbers_from n (suc k)) byte) (λ pin. pin < n + suc k)
    by_bit rest true e = rw e (omega arith)
    by_bit rest false e = let same : n + suc k ≡ n + 1 + k = omega arith in rw (e, same) rest

-- each pin is below 8
pub least_pin-below : (byte : ℕ) → IfSome (least_pin pins byte) (λ pin. pin < 8)
least_pin-below byte = least_pin_from-below byte 0 8

-- where no flag meets its enable, no pin waits
none_from : (n k : ℕ) → least_pin (numbers_from n k) 0 ≡ None
none_from n zero = refl
none_from n (suc k) = rw (no_bit n, none_from (n + 1) k) refl
  where
    no_bit : (k : ℕ) → has_bit 0 k ≡ false
    no_bit k = ap (λ n. n % 2 == 1) (zero-div (2 ^ k))

pub none_of_either : (pair : PortPair) → bit_and pair.ifg pair.ie ≡ 0 → (waiting_pin pair LOW_PORT ≡ None) × (waiting_pin pair HIGH_PORT ≡ None)
none_of_either pair none = (rw none (none_from 0 8), rw none (none_from 0 8))
