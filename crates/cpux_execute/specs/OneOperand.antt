-- Instructions of one operand, and RETI, as scripts.
use Rattle.std.specs.Prelude.{ℕ, ◌+◌, ◌*◌, ◌/◌, ◌%◌, true, List, slice_index}
use Rattle.chip_words.specs.declared.sizes.Size.{Size}
use Rattle.chip_words.specs.declared.sizes.Size.TheVariants.{Word, Addr}
use Rattle.chip_words.specs.declared.accesses.Kind.TheVariants.{Read, Write}
use Rattle.chip_words.specs.Sizes.{span}
use Rattle.chip_words.specs.Registers.{PC, SP, SR, with_register}
use Rattle.chip_words.specs.Script.{Script, Return, Ask, and_then}
use Rattle.cpux_decode.specs.declared.places.Place.{Place}
use Rattle.cpux_decode.specs.declared.places.Place.TheVariants.{Reg}
use Rattle.cpux_decode.specs.declared.operations.Op1.{Op1}
use Rattle.cpux_decode.specs.declared.operations.Op1.TheVariants.{Sxt}
use Rattle.cpux_alu.specs.Operations.{one_value, one_status}
use Rattle.cpux_execute.specs.Operands.{above, address_of, before, flagged, increased, source, stored_to}

-- SXT is 20 bits wide in a register
unfoldable pub width_of : Op1 → Size → Place → Size
width_of Sxt size (Reg r) = Addr
width_of op size place = size

-- RRC, SWPB, RRA and SXT change their operand where it was read
unfoldable pub changed : Op1 → Size → Place → ℕ → List ℕ → Script (List ℕ)
changed op size place pc registers =
    let at = address_of registers pc place in
    let width = width_of op size place in
    let sr = slice_index registers SR in
    and_then (source size registers pc place) (λ x.
    and_then (stored_to size (increased size place registers) at place (one_value op width x sr)) (λ after.
    Return (flagged true place (one_status op width x sr) after)))

-- SP behind a push: two bytes lower, and four for 20 bits
unfoldable pub below : Size → ℕ → ℕ
below Addr sp = before (before sp)
below size sp = before sp

-- the registers with SP lowered for a value
abbrev pub lowered : Size → List ℕ → List ℕ
lowered size registers = with_register registers SP (below size (slice_index registers SP))

-- a value written in memory as a push does it: 20 bits from the high word down
unfoldable pub put_down : ℕ → Size → ℕ → Script (Unit {0})
put_down at Addr value =
    Ask Write (above at) Word (value / 0x10000) (λ high. Ask Write at Word (value % 0x10000) (λ low. Return tt))
put_down at size value = Ask Write at size value (λ answer. Return tt)

-- a value written where SP points, which was lowered before
unfoldable pub pushed : Size → ℕ → List ℕ → Script (List ℕ)
pushed size value registers = and_then (put_down (slice_index registers SP) size value) (λ done. Return registers)

-- what a width keeps of a value
abbrev pub kept : Size → ℕ → ℕ
kept size value = value % span size

unfoldable pub push : Size → Place → ℕ → List ℕ → Script (List ℕ)
push size place pc registers =
    and_then (source size registers pc place) (λ x.
    pushed size (kept size x) (lowered size (increased size place registers)))

-- CALL pushes the next address and goes to the lower 16 bits of its operand
unfoldable pub call : Place → ℕ → List ℕ → Script (List ℕ)
call place pc registers =
    let next = slice_index registers PC in
    and_then (source Word registers pc place) (λ x.
    and_then (pushed Word (kept Word next) (lowered Word (increased Word place registers))) (λ after.
    Return (with_register after PC (kept Word x))))

-- the address that RETI goes to: its bits 19:16 stand in bits 15:12 of the status, and the others in the word behind it
abbrev pub returned_address : ℕ → ℕ → ℕ
returned_address status low = status / 0x1000 * 0x10000 + low

-- the registers behind RETI, by the two words that it pops
abbrev pub returned : ℕ → ℕ → List ℕ → List ℕ
returned status low registers =
    let popped = with_register registers SP ((slice_index registers SP + 4) % 0x100000) in
    with_register (with_register popped SR status) PC (returned_address status low)

-- RETI pops SR, and then PC
unfoldable pub return_from_interrupt : List ℕ → Script (List ℕ)
return_from_interrupt registers =
    let sp = slice_index registers SP in
    Ask Read sp Word 0 (λ status.
    Ask Read (above sp) Word 0 (λ low.
    Return (returned status low registers)))
