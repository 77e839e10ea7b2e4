-- The address instructions, which have 20 bits, and the shifts by several places (SLAU367, chapter CPUX, MSP430X
-- instructions).
use Rattle.std.specs.Prelude.{ℕ, Bool, true, false, List, slice_index}
use Rattle.chip_words.specs.declared.sizes.Size.{Size}
use Rattle.chip_words.specs.declared.sizes.Size.TheVariants.{Addr}
use Rattle.chip_words.specs.Registers.{PC, SR, with_register}
use Rattle.chip_words.specs.Script.{Script, Return, and_then}
use Rattle.cpux_decode.specs.declared.places.Place.{Place}
use Rattle.cpux_decode.specs.declared.places.Place.TheVariants.{Reg}
use Rattle.cpux_decode.specs.declared.operations.OpA.{OpA}
use Rattle.cpux_decode.specs.declared.operations.OpA.TheVariants.{Cmp}
use Rattle.cpux_decode.specs.declared.operations.OpS.{OpS}
use Rattle.cpux_alu.specs.Operations.{addr_value, addr_status, shift_value, shift_status}
use Rattle.cpux_execute.specs.Operands.{address_of, before, flagged, increased, source, stored_to}
use Rattle.cpux_extended.specs.RegisterForm.{with_result}

-- MOVA sets no flag. The index word of its destination is the last word.
unfoldable pub moved : Place → Place → ℕ → List ℕ → Script (List ℕ)
moved from to pc registers =
    let after = increased Addr from registers in
    let at = address_of after (before (slice_index registers PC)) to in
    and_then (source Addr registers pc from) (λ value. stored_to Addr after at to value)

-- CMPA writes no result
unfoldable pub writes_result : OpA → Bool
writes_result Cmp = false
writes_result op = true

-- CMPA, ADDA and SUBA of a source and a register
unfoldable pub computed : OpA → ℕ → ℕ → List ℕ → List ℕ
computed op src to registers =
    let dst = slice_index registers to in
    let sr = slice_index registers SR in
    flagged (writes_result op) (Reg to) (addr_status op src dst sr)
    (with_result (writes_result op) to (addr_value op src dst sr) registers)

unfoldable pub addressed : OpA → Place → ℕ → ℕ → List ℕ → Script (List ℕ)
addressed op from to pc registers =
    and_then (source Addr registers pc from) (λ src. Return (computed op src to registers))

-- RRCM, RRAM, RLAM and RRUM
unfoldable pub shifted : OpS → Size → ℕ → ℕ → List ℕ → List ℕ
shifted op size count r registers =
    let x = slice_index registers r in
    let sr = slice_index registers SR in
    flagged true (Reg r) (shift_status op size count x sr) (with_register registers r (shift_value op size count x sr))
