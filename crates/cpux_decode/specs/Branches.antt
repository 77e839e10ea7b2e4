-- What the table leaves to be told where the operation is known.
use Rattle.std.specs.Prelude.{ℕ, List, [], ◌∷◌}
use Rattle.cpux_decode.specs.declared.forms.Form.{Form}
use Rattle.cpux_decode.specs.declared.forms.Form.TheVariants.{Reserved}
use Rattle.cpux_decode.specs.declared.forms.Shape.{Shape}
use Rattle.cpux_decode.specs.Rows.{Row}
use Rattle.cpux_decode.specs.Table.{row, long_row}

-- a row that every word meets, and one that every pair of words meets
abbrev pub every_word : Form → Row Shape
every_word form = row 0x0000 0x0000 form 1

abbrev pub every_pair : Form → Row Shape
every_pair form = long_row 0x0000 0x0000 0x0000 0x0000 form

-- a row of the word behind an extension word alone
abbrev pub second_row : ℕ → ℕ → Form → Row Shape
second_row mask value form = long_row 0x0000 0x0000 mask value form

-- one operand: reserved on R3, on R2 with As 10 or 11 and on an immediate, and else this form
abbrev pub operand_rows : Form → List (Row Shape)
operand_rows form =
    row 0x0F 0x03 Reserved 1
    ∷ row 0x2F 0x22 Reserved 1
    ∷ row 0x3F 0x30 Reserved 1
    ∷ every_word form
    ∷ []

-- the same of the word behind an extension word
abbrev pub long_operand_rows : Form → List (Row Shape)
long_operand_rows form =
    second_row 0x0F 0x03 Reserved
    ∷ second_row 0x2F 0x22 Reserved
    ∷ second_row 0x3F 0x30 Reserved
    ∷ every_pair form
    ∷ []

-- behind an extension word: reserved with A/L 0 and B/W 0, and else this form
abbrev pub long_width_rows : Form → List (Row Shape)
long_width_rows form = long_row 0x40 0 0x40 0 Reserved ∷ every_pair form ∷ []

-- RRC and RRA behind an extension word
abbrev pub long_rotate_rows : Form → List (Row Shape)
long_rotate_rows form = long_row 0x40 0 0x40 0 Reserved ∷ long_operand_rows form

-- SWPB and SXT behind an extension word: reserved but with A/L 1 and B/W 0
abbrev pub long_word_rows : Form → List (Row Shape)
long_word_rows form =
    long_row 0x40 0 0 0 Reserved
    ∷ second_row 0x40 0x40 Reserved
    ∷ long_operand_rows form
