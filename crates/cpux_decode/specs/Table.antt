-- The instruction words of the processor (SLAU367, chapter CPUX), as a list of rows over the first two words.
-- Which words are reserved is this project's own profile.
use Rattle.std.specs.Prelude.{◌≡◌, ℕ, Bool, List, [], ◌∷◌, ◌++◌, length}
use Rattle.std.specs.List.{list_any}
use Rattle.cpux_decode.specs.declared.forms.Form.{Form}
use Rattle.cpux_decode.specs.declared.forms.Form.TheVariants.{Reserved, MoveAt, MoveAtPlus, MoveAbsolute, MoveIndexed, MoveToAbsolute, MoveToIndexed, MoveImm, MoveReg, AddrImm, AddrReg, ShiftMany, One, Reti, CallReg, CallIndexed, CallAt, CallAtPlus, CallAbsolute, CallSymbolic, CallImm, PushMany, PopMany, LongOne, LongTwo, Jump, Two}
use Rattle.cpux_decode.specs.declared.forms.Shape.{Shape}
use Rattle.cpux_decode.specs.declared.operations.Op1.TheVariants.{Rrc, Swpb, Rra, Sxt, Push, Call}
use Rattle.cpux_decode.specs.declared.operations.Op2.TheVariants.{Mov, Add, Addc, Subc, Sub, Cmp, Dadd, Bit, Bic, Bis, Xor, And}
use Rattle.cpux_decode.specs.declared.operations.OpA.TheVariants as address_op
use Rattle.cpux_decode.specs.Rows.{Row, meets, rows_met, or_else, first_says}

-- a row of the first word: its mask and value, the form, and how many words the form has besides those
-- of addressing modes
abbrev pub row : ℕ → ℕ → Form → ℕ → Row Shape
row mask value form words = record {
  mask = mask;
  value = value;
  next_mask = 0;
  next_value = 0;
  says = record { form = form; words = words };
}

-- a row of an extension word, mask and value, and of the instruction word behind it, mask and value
abbrev pub long_row : ℕ → ℕ → ℕ → ℕ → Form → Row Shape
long_row mask value next_mask next_value form = record {
  mask = mask;
  value = value;
  next_mask = next_mask;
  next_value = next_value;
  says = record { form = form; words = 2 };
}

-- address instructions, by bits 7:4, and the shifts of several places
unfoldable pub address_rows : List (Row Shape)
address_rows =
    row 0xF0F0 0x0000 MoveAt 1
    ∷ row 0xF0F0 0x0010 MoveAtPlus 1
    ∷ row 0xF0F0 0x0020 MoveAbsolute 2
    ∷ row 0xF0F0 0x0030 MoveIndexed 2
    ∷ row 0xF0F0 0x0040 ShiftMany 1
    ∷ row 0xF0F0 0x0050 ShiftMany 1
    ∷ row 0xF0F0 0x0060 MoveToAbsolute 2
    ∷ row 0xF0F0 0x0070 MoveToIndexed 2
    ∷ row 0xF0F0 0x0080 MoveImm 2
    ∷ row 0xF0F0 0x0090 (AddrImm address_op.Cmp) 2
    ∷ row 0xF0F0 0x00A0 (AddrImm address_op.Add) 2
    ∷ row 0xF0F0 0x00B0 (AddrImm address_op.Sub) 2
    ∷ row 0xF0F0 0x00C0 MoveReg 1
    ∷ row 0xF0F0 0x00D0 (AddrReg address_op.Cmp) 1
    ∷ row 0xF0F0 0x00E0 (AddrReg address_op.Add) 1
    ∷ row 0xF0F0 0x00F0 (AddrReg address_op.Sub) 1
    ∷ []

-- one operand, by bits 9:7
unfoldable pub one_operand_rows : List (Row Shape)
one_operand_rows =
    row 0xFF80 0x1000 (One Rrc) 1
    ∷ row 0xFF80 0x1080 (One Swpb) 1
    ∷ row 0xFF80 0x1100 (One Rra) 1
    ∷ row 0xFF80 0x1180 (One Sxt) 1
    ∷ row 0xFF80 0x1200 (One Push) 1
    ∷ row 0xFF80 0x1280 (One Call) 1
    ∷ []

-- RETI and CALLA
unfoldable pub call_rows : List (Row Shape)
call_rows =
    row 0xFFFF 0x1300 Reti 1
    ∷ row 0xFFF0 0x1340 CallReg 1
    ∷ row 0xFFF0 0x1350 CallIndexed 2
    ∷ row 0xFFF0 0x1360 CallAt 1
    ∷ row 0xFFF0 0x1370 CallAtPlus 1
    ∷ row 0xFFF0 0x1380 CallAbsolute 2
    ∷ row 0xFFF0 0x1390 CallSymbolic 2
    ∷ row 0xFFF0 0x13B0 CallImm 2
    ∷ []

-- PUSHM.A and PUSHM.W, POPM.A and POPM.W
unfoldable pub many_rows : List (Row Shape)
many_rows =
    row 0xFF00 0x1400 PushMany 1
    ∷ row 0xFF00 0x1500 PushMany 1
    ∷ row 0xFF00 0x1600 PopMany 1
    ∷ row 0xFF00 0x1700 PopMany 1
    ∷ []

-- an extension word before an operation of one or two operands
unfoldable pub extended_rows : List (Row Shape)
extended_rows =
    long_row 0xF800 0x1800 0xFF80 0x1000 (LongOne Rrc)
    ∷ long_row 0xF800 0x1800 0xFF80 0x1080 (LongOne Swpb)
    ∷ long_row 0xF800 0x1800 0xFF80 0x1100 (LongOne Rra)
    ∷ long_row 0xF800 0x1800 0xFF80 0x1180 (LongOne Sxt)
    ∷ long_row 0xF800 0x1800 0xFF80 0x1200 (LongOne Push)
    ∷ long_row 0xF800 0x1800 0xF000 0x4000 (LongTwo Mov)
    ∷ long_row 0xF800 0x1800 0xF000 0x5000 (LongTwo Add)
    ∷ long_row 0xF800 0x1800 0xF000 0x6000 (LongTwo Addc)
    ∷ long_row 0xF800 0x1800 0xF000 0x7000 (LongTwo Subc)
    ∷ long_row 0xF800 0x1800 0xF000 0x8000 (LongTwo Sub)
    ∷ long_row 0xF800 0x1800 0xF000 0x9000 (LongTwo Cmp)
    ∷ long_row 0xF800 0x1800 0xF000 0xA000 (LongTwo Dadd)
    ∷ long_row 0xF800 0x1800 0xF000 0xB000 (LongTwo Bit)
    ∷ long_row 0xF800 0x1800 0xF000 0xC000 (LongTwo Bic)
    ∷ long_row 0xF800 0x1800 0xF000 0xD000 (LongTwo Bis)
    ∷ long_row 0xF800 0x1800 0xF000 0xE000 (LongTwo Xor)
    ∷ long_row 0xF800 0x1800 0xF000 0xF000 (LongTwo And)
    ∷ []

-- jumps, the condition in bits 12:10
unfoldable pub jump_rows : List (Row Shape)
jump_rows =
    row 0xE000 0x2000 Jump 1
    ∷ []

-- two operands, by bits 15:12
unfoldable pub two_operand_rows : List (Row Shape)
two_operand_rows =
    row 0xF000 0x4000 (Two Mov) 1
    ∷ row 0xF000 0x5000 (Two Add) 1
    ∷ row 0xF000 0x6000 (Two Addc) 1
    ∷ row 0xF000 0x7000 (Two Subc) 1
    ∷ row 0xF000 0x8000 (Two Sub) 1
    ∷ row 0xF000 0x9000 (Two Cmp) 1
    ∷ row 0xF000 0xA000 (Two Dadd) 1
    ∷ row 0xF000 0xB000 (Two Bit) 1
    ∷ row 0xF000 0xC000 (Two Bic) 1
    ∷ row 0xF000 0xD000 (Two Bis) 1
    ∷ row 0xF000 0xE000 (Two Xor) 1
    ∷ row 0xF000 0xF000 (Two And) 1
    ∷ []

-- reserved words with one operand. First SWPB, SXT and CALL with B/W (bit 6) set. Then three rows for
-- each of RRC, RRA, SWPB and SXT: on R3, on R2 with As (bits 5:4) 10 or 11, and on an immediate. Those
-- of SWPB and SXT have B/W clear, since the first rows have the others.
unfoldable pub reserved_one_operand_rows : List (Row Shape)
reserved_one_operand_rows =
    row 0xFFC0 0x10C0 Reserved 1
    ∷ row 0xFFC0 0x11C0 Reserved 1
    ∷ row 0xFFC0 0x12C0 Reserved 1
    ∷ row 0xFF8F 0x1003 Reserved 1
    ∷ row 0xFFAF 0x1022 Reserved 1
    ∷ row 0xFFBF 0x1030 Reserved 1
    ∷ row 0xFF8F 0x1103 Reserved 1
    ∷ row 0xFFAF 0x1122 Reserved 1
    ∷ row 0xFFBF 0x1130 Reserved 1
    ∷ row 0xFFCF 0x1083 Reserved 1
    ∷ row 0xFFEF 0x10A2 Reserved 1
    ∷ row 0xFFFF 0x10B0 Reserved 1
    ∷ row 0xFFCF 0x1183 Reserved 1
    ∷ row 0xFFEF 0x11A2 Reserved 1
    ∷ row 0xFFFF 0x11B0 Reserved 1
    ∷ []

-- the reserved words between RETI and CALLA, 1301 to 133F, and beside CALLA, 13A0 to 13AF and 13C0 to 13FF
unfoldable pub reserved_call_rows : List (Row Shape)
reserved_call_rows =
    row 0xFFFF 0x1301 Reserved 1
    ∷ row 0xFFFE 0x1302 Reserved 1
    ∷ row 0xFFFC 0x1304 Reserved 1
    ∷ row 0xFFF8 0x1308 Reserved 1
    ∷ row 0xFFF0 0x1310 Reserved 1
    ∷ row 0xFFE0 0x1320 Reserved 1
    ∷ row 0xFFF0 0x13A0 Reserved 1
    ∷ row 0xFFC0 0x13C0 Reserved 1
    ∷ []

-- an extension word before a word that takes none: an address instruction, CALL, RETI or CALLA, PUSHM or
-- POPM, another extension word, a jump
unfoldable pub reserved_before_rows : List (Row Shape)
reserved_before_rows =
    long_row 0xF800 0x1800 0xF000 0x0000 Reserved
    ∷ long_row 0xF800 0x1800 0xFF80 0x1280 Reserved
    ∷ long_row 0xF800 0x1800 0xFF00 0x1300 Reserved
    ∷ long_row 0xF800 0x1800 0xFC00 0x1400 Reserved
    ∷ long_row 0xF800 0x1800 0xF800 0x1800 Reserved
    ∷ long_row 0xF800 0x1800 0xE000 0x2000 Reserved
    ∷ []

-- an extension word without a width. Before RRC, RRA, PUSH and two operands A/L (bit 6 of the extension
-- word) and B/W (bit 6 of the instruction word) are both clear. Before SWPB and SXT there is one width, with
-- A/L set and B/W clear.
unfoldable pub reserved_width_rows : List (Row Shape)
reserved_width_rows =
    long_row 0xF840 0x1800 0xFFC0 0x1000 Reserved
    ∷ long_row 0xF840 0x1800 0xFFC0 0x1100 Reserved
    ∷ long_row 0xF840 0x1800 0xFFC0 0x1200 Reserved
    ∷ long_row 0xF840 0x1800 0xF040 0x4000 Reserved
    ∷ long_row 0xF840 0x1800 0xF040 0x5000 Reserved
    ∷ long_row 0xF840 0x1800 0xF040 0x6000 Reserved
    ∷ long_row 0xF840 0x1800 0xF040 0x7000 Reserved
    ∷ long_row 0xF840 0x1800 0xF040 0x8000 Reserved
    ∷ long_row 0xF840 0x1800 0xF040 0x9000 Reserved
    ∷ long_row 0xF840 0x1800 0xF040 0xA000 Reserved
    ∷ long_row 0xF840 0x1800 0xF040 0xB000 Reserved
    ∷ long_row 0xF840 0x1800 0xF040 0xC000 Reserved
    ∷ long_row 0xF840 0x1800 0xF040 0xD000 Reserved
    ∷ long_row 0xF840 0x1800 0xF040 0xE000 Reserved
    ∷ long_row 0xF840 0x1800 0xF040 0xF000 Reserved
    ∷ long_row 0xF840 0x1800 0xFF80 0x1080 Reserved
    ∷ long_row 0xF840 0x1840 0xFFC0 0x10C0 Reserved
    ∷ long_row 0xF840 0x1800 0xFF80 0x1180 Reserved
    ∷ long_row 0xF840 0x1840 0xFFC0 0x11C0 Reserved
    ∷ []

-- an extension word before a word that is reserved alone: on R3, on R2 with As 10 or 11, and on an
-- immediate. First RRC and RRA, each with A/L set, and then with A/L clear and B/W set; then SWPB and SXT
-- with A/L set and B/W clear. The rows without a width have the others.
unfoldable pub reserved_operand_rows : List (Row Shape)
reserved_operand_rows =
    long_row 0xF840 0x1840 0xFF8F 0x1003 Reserved
    ∷ long_row 0xF840 0x1840 0xFFAF 0x1022 Reserved
    ∷ long_row 0xF840 0x1840 0xFFBF 0x1030 Reserved
    ∷ long_row 0xF840 0x1800 0xFFCF 0x1043 Reserved
    ∷ long_row 0xF840 0x1800 0xFFEF 0x1062 Reserved
    ∷ long_row 0xF840 0x1800 0xFFFF 0x1070 Reserved
    ∷ long_row 0xF840 0x1840 0xFF8F 0x1103 Reserved
    ∷ long_row 0xF840 0x1840 0xFFAF 0x1122 Reserved
    ∷ long_row 0xF840 0x1840 0xFFBF 0x1130 Reserved
    ∷ long_row 0xF840 0x1800 0xFFCF 0x1143 Reserved
    ∷ long_row 0xF840 0x1800 0xFFEF 0x1162 Reserved
    ∷ long_row 0xF840 0x1800 0xFFFF 0x1170 Reserved
    ∷ long_row 0xF840 0x1840 0xFFCF 0x1083 Reserved
    ∷ long_row 0xF840 0x1840 0xFFEF 0x10A2 Reserved
    ∷ long_row 0xF840 0x1840 0xFFFF 0x10B0 Reserved
    ∷ long_row 0xF840 0x1840 0xFFCF 0x1183 Reserved
    ∷ long_row 0xF840 0x1840 0xFFEF 0x11A2 Reserved
    ∷ long_row 0xF840 0x1840 0xFFFF 0x11B0 Reserved
    ∷ []

unfoldable pub reserved_extended_rows : List (Row Shape)
reserved_extended_rows = reserved_before_rows ++ reserved_width_rows ++ reserved_operand_rows

unfoldable pub reserved_rows : List (Row Shape)
reserved_rows = reserved_one_operand_rows ++ reserved_call_rows ++ reserved_extended_rows

unfoldable pub ordinary_rows : List (Row Shape)
ordinary_rows =
    address_rows
    ++ one_operand_rows
    ++ call_rows
    ++ many_rows
    ++ extended_rows
    ++ jump_rows
    ++ two_operand_rows

-- the rows of the table that a pair of words meets: a reserved row stands before the others
abbrev pub table_rows : ℕ → ℕ → List (Row Shape)
table_rows w0 w1 = or_else (rows_met reserved_rows w0 w1) (rows_met ordinary_rows w0 w1)

-- the table leaves no pair of words out, and no two of its rows contradict each other
abbrev pub EachPairMeetsOneRow : Type 0
EachPairMeetsOneRow = (w0 w1 : ℕ) → length (table_rows w0 w1) ≡ 1

-- for a pair that meets no row, of which there is none
abbrev pub no_row : Shape
no_row = record { form = Reserved; words = 1 }

-- what the table says of a pair of words: the form of the instruction, and how many words the form has
unfoldable pub shape_of : ℕ → ℕ → Shape
shape_of w0 w1 = first_says no_row (table_rows w0 w1)

-- a pair of words that a reserved row names
unfoldable pub is_reserved : ℕ → ℕ → Bool
is_reserved w0 w1 = list_any (λ (row : Row Shape). meets row w0 w1) reserved_rows
