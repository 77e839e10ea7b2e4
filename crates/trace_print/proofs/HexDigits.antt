-- One more hexadecimal digit.
use Rattle.std.proofs.Common.{◌≡◌, ℕ, ◌+◌, ◌*◌, ◌/◌, ◌%◌, ◌^◌, [], ◌∷◌, ◌++◌, ap, sym, ◌∙◌, add-one, pow-add, arith}
use Rattle.std.proofs.Math.Nat.{div-div-eq-div-mul}
use Rattle.trace_print.specs.Digits.{hex_digit, hex_digits}

-- no digit
pub hex_digits-zero : (value count : ℕ) → count ≡ 0 → hex_digits count value ≡ []
unfolding hex_digits
hex_digits-zero value count none = rw none

-- the digits from a place on are those above it and the digit there
pub hex_digits-next : (value count above place up : ℕ) → count ≡ above + 1 → up ≡ place + 1 → hex_digits count (value / 2 ^ (4 * place)) ≡ hex_digits above (value / 2 ^ (4 * up)) ++ hex_digit (value / 2 ^ (4 * place) % 16) ∷ []
unfolding hex_digits
hex_digits-next value count above place up more higher =
    let quotient : value / 2 ^ (4 * place) / 16 ≡ value / 2 ^ (4 * up) =
    div-div-eq-div-mul value (2 ^ (4 * place)) 16 ∙ ap (λ n. value / n) (sym (pow-add 2 (4 * place) 4) ∙ ap (λ n. 2 ^ n) (omega arith)) in
    rw (more, add-one, quotient)
