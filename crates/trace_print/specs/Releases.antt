-- The lines of a release list.
use Rattle.std.specs.Prelude.{ℕ, ◌^◌, ◌<◌, List, [], ◌++◌, All, codes, decimal}
use Rattle.std.specs.List.{flat_map}
use Rattle.chip_words.specs.declared.sizes.Size.{Size}
use Rattle.chip_words.specs.declared.sizes.Size.TheVariants.{Byte}
use Rattle.chip_words.specs.Sizes.{IsByteOrWord, span}
use Rattle.trace_print.specs.declared.releases.Item.{Item}
use Rattle.trace_print.specs.declared.releases.Item.TheVariants.{Entry, Fetch, Read, Write, Flags, Reset, Power, Struct, Opened, Exit}
use Rattle.trace_print.specs.Digits.{bytes_text, hex_digits}
use Rattle.trace_print.specs.Lines.{line_with}

-- the items that have a line of their own, within what its text has room for: addresses and registers of 20 bits, and
-- bytes and words with their values. Of opened bytes each row has a line
abbrev pub IsReleasable : Item → Type 0
IsReleasable (Entry vector) = vector < 2 ^ 20
IsReleasable (Fetch at) = at < 2 ^ 20
IsReleasable (Read at size) = (at < 2 ^ 20) × IsByteOrWord size
IsReleasable (Write at size value) = (at < 2 ^ 20) × IsByteOrWord size × (value < span size)
IsReleasable (Opened low high) = ⊥
IsReleasable (Exit registers busy) = All (λ register. register < 2 ^ 20) registers
IsReleasable item = Unit {0}

-- a width by its letter: `b` for a byte, `w` for a word
abbrev pub size_text : Size → List ℕ
size_text Byte = codes "b"
size_text size = codes "w"

-- a value of a width: two digits for a byte, four for a word
abbrev pub value_text : Size → ℕ → List ℕ
value_text Byte value = hex_digits 2 value
value_text size value = hex_digits 4 value

-- an access: its address and its width
abbrev pub access_text : ℕ → Size → List ℕ
access_text at size = hex_digits 5 at ++ codes " " ++ size_text size

-- the registers, R0 first, each behind a space
abbrev pub registers_text : List ℕ → List ℕ
registers_text registers = flat_map (λ register. codes " " ++ hex_digits 5 register) registers

-- what stands behind the tick
abbrev pub release_text : Item → List ℕ
release_text (Entry vector) = codes "ENTRY " ++ hex_digits 5 vector
release_text (Fetch at) = codes "F " ++ hex_digits 5 at
release_text (Read at size) = codes "R " ++ access_text at size
release_text (Write at size value) = codes "W " ++ access_text at size ++ codes " " ++ value_text size value
release_text (Flags bits) = codes "FLAGS " ++ hex_digits 2 bits
release_text (Reset cause) = codes "RESET " ++ hex_digits 2 cause
release_text (Power bits) = codes "POWER " ++ hex_digits 2 bits
release_text (Struct index word) = codes "STRUCT " ++ decimal index ++ codes " " ++ hex_digits 4 word
release_text (Opened low high) = []
release_text (Exit registers busy) = codes "EXIT " ++ decimal busy ++ registers_text registers

-- the line of an item
unfoldable pub release_line_of : ℕ → Item → List ℕ
release_line_of tick item = line_with tick (release_text item)

-- the line of a row of opened bytes: the address of the first, and all of them
unfoldable pub open_line_of : ℕ → ℕ → List ℕ → List ℕ
open_line_of tick at bytes =
    line_with tick (codes "OPEN " ++ hex_digits 5 at ++ codes " " ++ bytes_text bytes)
