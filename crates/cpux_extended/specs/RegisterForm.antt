-- The register form behind an extension word: an operation that is done as many times as the word says, on the
-- registers alone.
use Rattle.std.specs.Prelude.{ℕ, zero, suc, ◌+◌, ◌*◌, ◌/◌, ◌%◌, Bool, true, false, ◌&&◌, if◌then◌else◌, List, slice_index}
use Rattle.chip_words.specs.declared.sizes.Size.{Size}
use Rattle.chip_words.specs.Registers.{SR, with_register}
use Rattle.cpux_decode.specs.declared.places.Place.{Place}
use Rattle.cpux_decode.specs.declared.places.Place.TheVariants.{Reg}
use Rattle.cpux_decode.specs.declared.operations.Op1.{Op1}
use Rattle.cpux_decode.specs.declared.operations.Op1.TheVariants as one
use Rattle.cpux_decode.specs.declared.operations.Op2.{Op2}
use Rattle.cpux_decode.specs.declared.operations.Op2.TheVariants.{Addc, Subc, Dadd}
use Rattle.cpux_decode.specs.declared.instructions.Count.{Count}
use Rattle.cpux_decode.specs.declared.instructions.Count.TheVariants.{Fixed, InReg}
use Rattle.cpux_decode.specs.declared.instructions.Rep.{Rep}
use Rattle.cpux_decode.specs.Operations.{writes_destination}
use Rattle.cpux_alu.specs.Operations.{one_value, one_status, two_value, two_status}
use Rattle.cpux_execute.specs.Operands.{flagged, register_at}
use Rattle.cpux_execute.specs.OneOperand.{width_of}

-- how many times: a number, or one more than the lower four bits of a register, which PC's next address is for R0
unfoldable pub count_of : Count → List ℕ → ℕ
count_of (Fixed n) registers = n
count_of (InReg r) registers = slice_index registers r % 16 + 1

-- the operations into which the carry of SR goes
unfoldable pub takes_carry : Op2 → Bool
takes_carry Addc = true
takes_carry Subc = true
takes_carry Dadd = true
takes_carry op = false

unfoldable pub one_takes_carry : Op1 → Bool
one_takes_carry one.Rrc = true
one_takes_carry op = false

-- SR as it goes into an operation: with ZC its lowest bit, the carry, is 0
abbrev pub status_in : Bool → List ℕ → ℕ
status_in without_carry registers =
    if without_carry then slice_index registers SR / 2 * 2 else slice_index registers SR

-- a source: R3 gives the constant 0
unfoldable pub register_source : List ℕ → ℕ → Place → ℕ
register_source registers pc (Reg r) = register_at registers pc r
register_source registers pc place = 0

-- the registers with a result, which CMP and BIT don't write
abbrev pub with_result : Bool → ℕ → ℕ → List ℕ → List ℕ
with_result written to value registers = if written then with_register registers to value else registers

-- two registers, once: PC as a source stands at `pc`
unfoldable pub two_once : Op2 → Size → Place → ℕ → Bool → ℕ → List ℕ → List ℕ
two_once op size from to zero_carry pc registers =
    let src = register_source registers pc from in
    let dst = slice_index registers to in
    let sr = status_in (zero_carry && takes_carry op) registers in
    flagged (writes_destination op) (Reg to) (two_status op size src dst sr)
    (with_result (writes_destination op) to (two_value op size src dst sr) registers)

-- one register, once
unfoldable pub one_once : Op1 → Size → ℕ → Bool → List ℕ → List ℕ
one_once op size r zero_carry registers =
    let x = slice_index registers r in
    let width = width_of op size (Reg r) in
    let sr = status_in (zero_carry && one_takes_carry op) registers in
    flagged true (Reg r) (one_status op width x sr) (with_register registers r (one_value op width x sr))

-- each time on the registers that the time before left
abbrev pub repeated : ℕ → (List ℕ → List ℕ) → List ℕ → List ℕ
repeated zero operation registers = registers
repeated (suc n) operation registers = operation (repeated n operation registers)

-- the register form of two operands, and of one
abbrev pub two_repeated : Op2 → Size → Place → ℕ → Rep → ℕ → List ℕ → List ℕ
two_repeated op size from to rep pc registers =
    repeated (count_of rep.count registers) (two_once op size from to rep.zero_carry pc) registers

abbrev pub one_repeated : Op1 → Size → ℕ → Rep → List ℕ → List ℕ
one_repeated op size r rep registers =
    repeated (count_of rep.count registers) (one_once op size r rep.zero_carry) registers
