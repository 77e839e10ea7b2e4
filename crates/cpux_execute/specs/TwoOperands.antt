-- Instructions of two operands as scripts: the source is read, its register steps, the destination is
-- read, the result is written, and the flags are set.
use Rattle.std.specs.Prelude.{ℕ, Bool, true, false, List, slice_index}
use Rattle.chip_words.specs.declared.sizes.Size.{Size}
use Rattle.chip_words.specs.Registers.{PC, SR}
use Rattle.chip_words.specs.Script.{Script, Return, and_then}
use Rattle.cpux_decode.specs.declared.places.Place.{Place}
use Rattle.cpux_decode.specs.declared.operations.Op2.{Op2}
use Rattle.cpux_alu.specs.Operations.{two_value, two_status}
use Rattle.cpux_decode.specs.Operations.{reads_destination, writes_destination}
use Rattle.cpux_execute.specs.Operands.{address_of, before, flagged, increased, source, stored_to, target}

-- a destination that isn't read counts as 0
abbrev pub read_if : Bool → Script ℕ → Script ℕ
read_if true script = script
read_if false script = Return 0

abbrev pub write_if : Bool → List ℕ → Script (List ℕ) → Script (List ℕ)
write_if true registers script = script
write_if false registers script = Return registers

-- the destination at an address, of an operation that may not read it
unfoldable pub two_target : Op2 → Size → List ℕ → ℕ → Place → Script ℕ
two_target op size registers at to = read_if (reads_destination op) (target size registers at to)

-- the result, of an operation that may not write it
unfoldable pub two_store : Op2 → Size → List ℕ → ℕ → Place → ℕ → Script (List ℕ)
two_store op size registers at to value =
    write_if (writes_destination op) registers (stored_to size registers at to value)

-- what follows the source; `at` is the address of the destination
abbrev pub two_rest : Op2 → Size → Place → ℕ → ℕ → ℕ → List ℕ → Script (List ℕ)
two_rest op size to at status src registers =
    and_then (two_target op size registers at to) (λ dst.
    and_then (two_store op size registers at to (two_value op size src dst status)) (λ after.
    Return (flagged (writes_destination op) to (two_status op size src dst status) after)))

-- PC stands at `pc` behind the instruction word, and at the next address in the registers. The index word
-- of the destination is the last word.
unfoldable pub two_operands : Op2 → Size → Place → Place → ℕ → List ℕ → Script (List ℕ)
two_operands op size from to pc registers =
    and_then (source size registers pc from) (λ src.
    two_rest op size to (address_of (increased size from registers) (before (slice_index registers PC)) to)
    (slice_index registers SR) src (increased size from registers))
