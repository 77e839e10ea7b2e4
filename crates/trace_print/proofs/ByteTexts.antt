-- The digits of bytes in capitals are those of a trace.
use Rattle.std.proofs.Common.{◌≡◌, ℕ, suc, ◌<◌, ◌/◌, ◌%◌, ◌==◌, true, List, [], ◌∷◌, map, slice_index, refl, arith}
use Rattle.std.specs.Char.{to_ascii_uppercase}
use Rattle.std.proofs.lemmas.Bool.{agree_below_at, eqb-true}
use Rattle.hex.specs.Hex.{IsBytes, encode_lower, encode_with, lower_digits}
use Rattle.trace_print.specs.Digits.{bytes_text, hex_digit, hex_digits}

-- a small digit in capitals
upper_digit : (digit : ℕ) → digit < 16 → to_ascii_uppercase (slice_index lower_digits digit) ≡ hex_digit digit
upper_digit digit h =
    eqb-true (to_ascii_uppercase (slice_index lower_digits digit)) (hex_digit digit)
    (agree_below_at (λ n. to_ascii_uppercase (slice_index lower_digits n) == hex_digit n) (λ n. true) 16 digit refl h)

-- the text of some bytes in capitals
pub byte_texts : (bytes : List ℕ) → IsBytes bytes → map to_ascii_uppercase (encode_lower bytes) ≡ bytes_text bytes
unfolding encode_with hex_digits
byte_texts [] small = refl
byte_texts (byte ∷ rest) small =
    let in_byte : byte < 256 = small 0 in
    let high : byte / 16 % 16 ≡ byte / 16 = omega arith in
    let rest_text = byte_texts rest (λ i. small (suc i)) in
    rw (high, upper_digit (byte / 16) (omega arith), upper_digit (byte % 16) (omega arith), rest_text)
