-- Shifts by several places as products and quotients.
use Rattle.std.proofs.Common.{◌≡◌, ℕ, zero, suc, ◌+◌, ◌*◌, ◌/◌, ◌%◌, ◌^◌, ◌<◌, Bool, ap, sym, ◌∙◌, arith}
use Rattle.std.proofs.Math.Nat.{mod-eq_of_lt, mul_assoc, pow-suc, div-div-eq-div-mul}
use Rattle.std.proofs.lemmas.Nat.{mul-mod_second}
use Rattle.chip_words.specs.Sizes.{span}
use Rattle.cpux_decode.specs.declared.operations.OpS.TheVariants.{Rla, Rru}
use Rattle.cpux_alu.specs.Shifts.{with_carry, shift_once, shift_places}
use Rattle.cpux_alu.specs.Laws.{ShiftsScale}

twice : (x p : ℕ) → 2 * (x * p) ≡ x * (p * 2)
twice x p = let e : x * (p * 2) ≡ x * p * 2 = sym (mul_assoc x p 2) in omega arith

left : (s count x : ℕ) (carry : Bool) → x < s → (shift_places Rla s count (with_carry x carry)).value ≡ x * 2 ^ count % s
unfolding shift_once
left s zero x carry h = let e : x % s ≡ x = mod-eq_of_lt h in let f : x * 1 ≡ x = omega arith in sym (ap (λ z. z % s) f ∙ e)
left s (suc n) x carry h =
    ap (λ v. 2 * v % s) (left s n x carry h)
    ∙ mul-mod_second 2 (x * 2 ^ n) s
    ∙ ap (λ z. z % s) (twice x (2 ^ n) ∙ sym (ap (λ p. x * p) (pow-suc 2 n)))

right : (s count x : ℕ) (carry : Bool) → (shift_places Rru s count (with_carry x carry)).value ≡ x / 2 ^ count
unfolding shift_once
right s zero x carry = omega arith
right s (suc n) x carry =
    (let e : (v : ℕ) → v / 2 + 0 ≡ v / 2 = λ v. omega arith in e (shift_places Rru s n (with_carry x carry)).value)
    ∙ ap (λ v. v / 2) (right s n x carry)
    ∙ div-div-eq-div-mul x (2 ^ n) 2
    ∙ sym (ap (λ p. x / p) (pow-suc 2 n))

pub shifts_scale : ShiftsScale
shifts_scale size count x carry h = record { left = left (span size) count x carry h; right = right (span size) count x carry }
