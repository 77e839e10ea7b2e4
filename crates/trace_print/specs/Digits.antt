-- Numbers and bytes in hexadecimal, at a fixed width.
use Rattle.std.specs.Prelude.{ℕ, zero, suc, ◌/◌, ◌%◌, List, [], ◌∷◌, ◌++◌, slice_index, codes}
use Rattle.std.specs.List.{flat_map}

-- a digit below 16
abbrev pub hex_digit : ℕ → ℕ
hex_digit digit = slice_index (codes "0123456789ABCDEF") digit

-- the last digits of a number, as many as the count says, most significant first
unfoldable pub hex_digits : ℕ → ℕ → List ℕ
hex_digits zero value = []
hex_digits (suc count) value = hex_digits count (value / 16) ++ hex_digit (value % 16) ∷ []

-- two digits for each byte
abbrev pub bytes_text : List ℕ → List ℕ
bytes_text bytes = flat_map (λ byte. hex_digits 2 byte) bytes
