-- Instructions of the stack that move several registers or 20 bits, as scripts. PC in the registers stands at the next
-- address, and SP where the instruction found it.
use Rattle.std.specs.Prelude.{ℕ, zero, suc, ◌+◌, ◌%◌, List, slice_index}
use Rattle.chip_words.specs.declared.sizes.Size.{Size}
use Rattle.chip_words.specs.declared.sizes.Size.TheVariants.{Addr}
use Rattle.chip_words.specs.Registers.{PC, SP, with_register}
use Rattle.chip_words.specs.Script.{Script, Return, and_then}
use Rattle.cpux_decode.specs.declared.places.Place.{Place}
use Rattle.cpux_execute.specs.Operands.{above, asked, increased, source}
use Rattle.cpux_execute.specs.OneOperand.{below, kept, lowered, pushed, put_down}

-- so many registers, from number r down and modulo 16, are pushed below an address. Each has its value of the start.
-- SP is set to the address of the last one.
unfoldable pub pushed_below : Size → ℕ → ℕ → ℕ → List ℕ → Script (List ℕ)
pushed_below size zero r at registers = Return (with_register registers SP at)
pushed_below size (suc count) r at registers =
    and_then (put_down (below size at) size (kept size (slice_index registers r))) (λ done.
    pushed_below size count ((r + 15) % 16) (below size at) registers)

-- PUSHM
abbrev pub pushed_many : Size → ℕ → ℕ → List ℕ → Script (List ℕ)
pushed_many size count r registers = pushed_below size count r (slice_index registers SP) registers

-- the address behind a value on the stack: two bytes higher, and four for 20 bits
unfoldable pub raised : Size → ℕ → ℕ
raised Addr at = above (above at)
raised size at = above at

-- so many registers, from number r up and modulo 16, are popped from an address on. SP is set behind the last value,
-- also where SP was popped.
unfoldable pub popped_from : Size → ℕ → ℕ → ℕ → List ℕ → Script (List ℕ)
popped_from size zero r at registers = Return (with_register registers SP at)
popped_from size (suc count) r at registers =
    and_then (asked at size) (λ value.
    popped_from size count ((r + 1) % 16) (raised size at) (with_register registers r value))

-- POPM
abbrev pub popped_many : Size → ℕ → ℕ → List ℕ → Script (List ℕ)
popped_many size count r registers = popped_from size count r (slice_index registers SP) registers

-- CALLA reads its target, increases a register, pushes the next address and goes to the target. PC stands at `pc`
-- behind the instruction word. An increase of PC moves the next address.
unfoldable pub called : Place → ℕ → List ℕ → Script (List ℕ)
called place pc registers =
    let ready = increased Addr place registers in
    and_then (source Addr registers pc place) (λ target.
    and_then (pushed Addr (slice_index ready PC) (lowered Addr ready)) (λ after.
    Return (with_register after PC target)))
