-- Why words are reserved, rule by rule. Unlike the rows of the table these may overlap.
use Rattle.std.specs.Prelude.{◌≡◌, ℕ, ◌+◌, Bool, List, [], ◌∷◌, ◌++◌, map}
use Rattle.std.specs.List.{list_any}
use Rattle.cpux_decode.specs.declared.forms.Form.TheVariants.{Reserved}
use Rattle.cpux_decode.specs.declared.forms.Shape.{Shape}
use Rattle.cpux_decode.specs.Rows.{Row, meets}
use Rattle.cpux_decode.specs.Table.{row, long_row, is_reserved}

-- the first word
abbrev pub alone : ℕ → ℕ → Row Shape
alone mask value = row mask value Reserved 1

-- the word behind any extension word
abbrev pub behind : ℕ → ℕ → Row Shape
behind mask value = long_row 0xF800 0x1800 mask value Reserved

-- the word behind an extension word with A/L 0
abbrev pub behind_clear : ℕ → ℕ → Row Shape
behind_clear mask value = long_row 0xF840 0x1800 mask value Reserved

-- 1301h to 133Fh, 13A0h to 13AFh and 13C0h to 13FFh name no instruction
unfoldable pub unassigned : List (Row Shape)
unassigned =
    alone 0xFFFF 0x1301
    ∷ alone 0xFFFE 0x1302
    ∷ alone 0xFFFC 0x1304
    ∷ alone 0xFFF8 0x1308
    ∷ alone 0xFFF0 0x1310
    ∷ alone 0xFFE0 0x1320
    ∷ alone 0xFFF0 0x13A0
    ∷ alone 0xFFC0 0x13C0
    ∷ []

-- SWPB, SXT and CALL with B/W set
unfoldable pub bytes : List (Row Shape)
bytes = alone 0xFFC0 0x10C0 ∷ alone 0xFFC0 0x11C0 ∷ alone 0xFFC0 0x12C0 ∷ []

-- an operation on an immediate (As 11 on R0), on R2 with As 10 or 11, and on R3
abbrev pub on_constants : ℕ → List (Row Shape)
on_constants operation =
    alone 0xFFBF (operation + 0x30) ∷ alone 0xFFAF (operation + 0x22) ∷ alone 0xFF8F (operation + 0x03) ∷ []

-- RRC, SWPB, RRA and SXT, which write their operand, on these
unfoldable pub constants_written : List (Row Shape)
constants_written = on_constants 0x1000 ++ on_constants 0x1080 ++ on_constants 0x1100 ++ on_constants 0x1180

unfoldable pub reasons_alone : List (Row Shape)
reasons_alone = unassigned ++ bytes ++ constants_written

-- an extension word before another word than two operands (from 4000h on) and RRC, SWPB, RRA, SXT and PUSH (1000h to
-- 127Fh)
unfoldable pub not_extended : List (Row Shape)
not_extended =
    behind 0xF000 0x0000
    ∷ behind 0xFF80 0x1280
    ∷ behind 0xFF00 0x1300
    ∷ behind 0xFC00 0x1400
    ∷ behind 0xF800 0x1800
    ∷ behind 0xE000 0x2000
    ∷ []

-- an extension word before a word that is reserved without it
unfoldable pub reserved_without : List (Row Shape)
reserved_without = map (λ (reason : Row Shape). behind reason.mask reason.value) reasons_alone

-- an extension word with A/L 0 before a word with B/W 0
unfoldable pub no_width : List (Row Shape)
no_width = behind_clear 0x0040 0x0000 ∷ []

-- SWPB and SXT behind an extension word with A/L 0, or with B/W 1
unfoldable pub one_width : List (Row Shape)
one_width =
    behind_clear 0xFF80 0x1080
    ∷ behind 0xFFC0 0x10C0
    ∷ behind_clear 0xFF80 0x1180
    ∷ behind 0xFFC0 0x11C0
    ∷ []

unfoldable pub reasons : List (Row Shape)
reasons = reasons_alone ++ not_extended ++ reserved_without ++ no_width ++ one_width

unfoldable pub has_reason : ℕ → ℕ → Bool
has_reason w0 w1 = list_any (λ (reason : Row Shape). meets reason w0 w1) reasons

-- the reserved rows are those that have a reason, no more and no fewer
abbrev pub ReservedForReasons : Type 0
ReservedForReasons = (w0 w1 : ℕ) → is_reserved w0 w1 ≡ has_reason w0 w1
