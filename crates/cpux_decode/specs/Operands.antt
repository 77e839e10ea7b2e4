-- The fields of an instruction word and the operands that they name (SLAU367, chapter CPUX).
use Rattle.std.specs.Prelude.{ℕ, ◌+◌, ◌-◌, ◌*◌, ◌/◌, ◌%◌, ◌^◌, Bool, true, false, nat_lt, ◌==◌, if◌then◌else◌}
use Rattle.chip_words.specs.declared.sizes.Size.{Size}
use Rattle.chip_words.specs.declared.sizes.Size.TheVariants.{Byte, Word, Addr}
use Rattle.chip_words.specs.Bits.{has_bit}
use Rattle.chip_words.specs.Registers.{PC, SR, CG}
use Rattle.cpux_decode.specs.declared.places.Place.{Place}
use Rattle.cpux_decode.specs.declared.places.Place.TheVariants.{Reg, Const, Near, Far, Absolute, At, AtPlus, Imm}
use Rattle.cpux_decode.specs.declared.instructions.Rep.{Rep}
use Rattle.cpux_decode.specs.declared.instructions.Count.TheVariants.{Fixed, InReg}

-- the bits of a word from a high to a low one, as the guide writes 11:8
abbrev pub bits : ℕ → ℕ → ℕ → ℕ
bits word high low = word / 2 ^ low % 2 ^ (high + 1 - low)

-- 20 bits: bits 19:16, and a word with the others
abbrev pub wide : ℕ → ℕ → ℕ
wide high low = high * 0x10000 + low

-- a number below the span `from` as a signed one, below the span `to`: its highest bit stands in all bits above it
abbrev pub sign_extended : ℕ → ℕ → ℕ → ℕ
sign_extended from to x = if nat_lt x (from / 2) then x else (to - from) + x

-- a register with an index word; behind an extension word the index has 20 bits
abbrev pub indexed : Bool → ℕ → ℕ → ℕ → Place
indexed true high r x = Far r (wide high x)
indexed false high r x = Near r x

-- As 00: a register. R3 gives the constant 0.
abbrev pub register_place : ℕ → Place
register_place r = if r == CG then Const 0 else Reg r

-- As 01: indexed, and absolute on R2. R3 gives the constant 1.
abbrev pub indexed_place : Bool → ℕ → ℕ → ℕ → Place
indexed_place long high r x =
    if r == SR then Absolute (wide high x) else if r == CG then Const 1 else indexed long high r x

-- As 10: where a register points. R2 gives the constant 4, and R3 gives 2.
abbrev pub indirect_place : ℕ → Place
indirect_place r = if r == SR then Const 4 else if r == CG then Const 2 else At r

-- As 11: where a register points, which is increased, and an immediate on R0. R2 gives the constant 8, and
-- R3 all ones.
abbrev pub increased_place : ℕ → ℕ → ℕ → Place
increased_place high r x =
    if r == PC then Imm (wide high x)
    else if r == SR then Const 8
    else if r == CG then Const 0xFFFFF
    else AtPlus r

-- a source by As and its register. x is the word that may belong to it; high has its bits 19:16, from
-- an extension word.
unfoldable pub source_place : Bool → ℕ → ℕ → ℕ → ℕ → Place
source_place long high mode r x =
    if mode == 0 then register_place r
    else if mode == 1 then indexed_place long high r x
    else if mode == 2 then indirect_place r
    else increased_place high r x

-- how many words belong to a source: one in indexed and absolute mode and to an immediate
unfoldable pub source_words : ℕ → ℕ → ℕ
source_words mode r =
    if mode == 1 then (if r == CG then 0 else 1)
    else if mode == 3 then (if r == PC then 1 else 0)
    else 0

-- a destination by Ad and its register: Ad 0 a register, Ad 1 indexed, and absolute on R2. One word
-- belongs to Ad 1.
unfoldable pub destination_place : Bool → ℕ → ℕ → ℕ → ℕ → Place
destination_place long high mode r x =
    if mode == 0 then Reg r
    else if r == SR then Absolute (wide high x)
    else indexed long high r x

-- the bits of an instruction word and of an extension word that have names: B/W of the former, and A/L, # and ZC of the
-- latter
abbrev pub B_W : ℕ
B_W = 6

abbrev pub A_L : ℕ
A_L = 6

abbrev pub COUNT_IN_REGISTER : ℕ
COUNT_IN_REGISTER = 7

abbrev pub ZC : ℕ
ZC = 8

-- the width by B/W of the instruction word
abbrev pub size_of : ℕ → Size
size_of word = if has_bit word B_W then Byte else Word

-- the width by A/L of the extension word, and by B/W
abbrev pub long_size_of : ℕ → ℕ → Size
long_size_of extension word = if has_bit extension A_L then size_of word else Addr

-- an operation that is done once, with the carry as it is
abbrev pub once : Rep
once = record { zero_carry = false; count = Fixed 1 }

-- the repeats that an extension word gives to a register form
unfoldable pub rep_of : Bool → ℕ → Rep
rep_of true extension = record {
  zero_carry = has_bit extension ZC;
  count = (if has_bit extension COUNT_IN_REGISTER then InReg (bits extension 3 0) else Fixed (bits extension 3 0 + 1));
}
rep_of false extension = once
