-- What the operations of two operands do with their destination.
use Rattle.std.specs.Prelude.{Bool, true, false}
use Rattle.cpux_decode.specs.declared.operations.Op2.{Op2}
use Rattle.cpux_decode.specs.declared.operations.Op2.TheVariants.{Mov, Cmp, Bit}

-- all but MOV read it
unfoldable pub reads_destination : Op2 → Bool
reads_destination Mov = false
reads_destination op = true

-- all but CMP and BIT write it
unfoldable pub writes_destination : Op2 → Bool
writes_destination Cmp = false
writes_destination Bit = false
writes_destination op = true
