-- Where an operand is, and how it is read and written (SLAU367, chapter CPUX, addressing modes).
use Rattle.std.specs.Prelude.{ℕ, ◌+◌, ◌*◌, ◌/◌, ◌%◌, ◌<◌, ◌==◌, ◌||◌, Bool, false, if◌then◌else◌, List, slice_index}
use Rattle.chip_words.specs.declared.sizes.Size.{Size}
use Rattle.chip_words.specs.declared.sizes.Size.TheVariants.{Byte, Word, Addr}
use Rattle.chip_words.specs.declared.accesses.Kind.TheVariants.{Read, Write}
use Rattle.chip_words.specs.Sizes.{span}
use Rattle.chip_words.specs.Registers.{PC, SP, SR, with_register}
use Rattle.chip_words.specs.Script.{Script, Return, Ask, and_then}
use Rattle.cpux_decode.specs.declared.places.Place.{Place}
use Rattle.cpux_decode.specs.declared.places.Place.TheVariants.{Reg, Const, Near, Far, Absolute, At, AtPlus, Imm}
use Rattle.cpux_alu.specs.Addresses.{near_address}

-- the value of a register, where PC stands at an address
abbrev pub register_at : List ℕ → ℕ → ℕ → ℕ
register_at registers pc n = if n == PC then pc else slice_index registers n

-- the address of an operand in memory. PC stands at the operand's index word.
unfoldable pub address_of : List ℕ → ℕ → Place → ℕ
address_of registers pc (Near r index) = near_address (register_at registers pc r) index
address_of registers pc (Far r index) = (register_at registers pc r + index) % 0x100000
address_of registers pc (Absolute at) = at
address_of registers pc (At r) = register_at registers pc r
address_of registers pc (AtPlus r) = register_at registers pc r
address_of registers pc place = 0

-- two bytes behind an address
abbrev pub above : ℕ → ℕ
above at = (at + 2) % 0x100000

-- 20 bits of two words: 15:0 of the lower, and 19:16 in bits 3:0 of the higher
abbrev pub joined : ℕ → ℕ → ℕ
joined low high = low + 0x10000 * (high % 0x10)

-- how many accesses a value in memory takes
abbrev pub accesses_of : Size → ℕ
accesses_of Addr = 2
accesses_of size = 1

-- the value in memory at an address. 20 bits are the word there, and then the word above it.
unfoldable pub asked : ℕ → Size → Script ℕ
asked at Addr = Ask Read at Word 0 (λ low. Ask Read (above at) Word 0 (λ high. Return (joined low high)))
asked at size = Ask Read at size 0 (λ answer. Return answer)

-- a value written in memory at an address. 20 bits are written low word first.
unfoldable pub put : ℕ → Size → ℕ → Script (Unit {0})
put at Addr value =
    Ask Write at Word (value % 0x10000) (λ low. Ask Write (above at) Word (value / 0x10000) (λ high. Return tt))
put at size value = Ask Write at size value (λ answer. Return tt)

-- the value of a source. PC stands behind the instruction word, which is where an index word of the source is.
unfoldable pub source : Size → List ℕ → ℕ → Place → Script ℕ
source size registers pc (Reg r) = Return (register_at registers pc r)
source size registers pc (Const value) = Return value
source size registers pc (Imm value) = Return value
source size registers pc place = asked (address_of registers pc place) size

-- how far an autoincrement goes: PC and SP stay even
abbrev pub step_of : Size → ℕ → ℕ
step_of Byte r = if r == PC || r == SP then 2 else 1
step_of Word r = 2
step_of Addr r = 4

-- the registers after a source was read
unfoldable pub increased : Size → Place → List ℕ → List ℕ
increased size (AtPlus r) registers = with_register registers r ((slice_index registers r + step_of size r) % 0x100000)
increased size place registers = registers

-- the value of a destination: a register, or what is at an address
unfoldable pub target : Size → List ℕ → ℕ → Place → Script ℕ
target size registers at (Reg r) = Return (slice_index registers r)
target size registers at place = asked at size

-- a value written to a destination: a register, or memory at an address. The script's value is the registers.
unfoldable pub stored_to : Size → List ℕ → ℕ → Place → ℕ → Script (List ℕ)
stored_to size registers at (Reg r) value = Return (with_register registers r value)
stored_to size registers at place value = and_then (put at size value) (λ done. Return registers)

unfoldable pub is_status : Place → Bool
is_status (Reg r) = r == SR
is_status place = false

-- SR takes the flags, unless the result itself was written there
abbrev pub flagged : Bool → Place → ℕ → List ℕ → List ℕ
flagged written place status registers =
    if written then (if is_status place then registers else with_register registers SR status)
    else with_register registers SR status

-- two bytes before an address
abbrev pub before : ℕ → ℕ
before at = (at + 0xFFFFE) % 0x100000

-- a value that can be written: a register takes any, and memory what fits the width
abbrev pub IsFor : Place → Size → ℕ → Type 0
IsFor (Reg r) size value = Unit {0}
IsFor place size value = value < span size
