-- What fits the width of a result can be written to its place.
use Rattle.std.proofs.Common.{ℕ, ◌<◌}
use Rattle.chip_words.specs.declared.sizes.Size.{Size}
use Rattle.chip_words.specs.Sizes.{span}
use Rattle.cpux_decode.specs.declared.operations.Op1.{Op1}
use Rattle.cpux_decode.specs.declared.operations.Op1.TheVariants.{Sxt}
use Rattle.cpux_decode.specs.declared.places.Place.{Place}
use Rattle.cpux_decode.specs.declared.places.Place.TheVariants.{Reg}
use Rattle.cpux_execute.specs.Operands.{IsFor}
use Rattle.cpux_execute.specs.OneOperand.{width_of}

pub fits_width : (op : Op1) (size : Size) (place : Place) (value : ℕ) →
    value < span (width_of op size place) → IsFor place size value
unfolding width_of
fits_width op size (Reg r) value h = tt
fits_width Sxt size place value h = h
fits_width op size place value h = h
