-- A result fits the width that was computed, and so its place.
use Rattle.cpux_execute.proofs.Widths.{fits_width}
use Rattle.cpux_execute.proofs.one_operand.change.Goals as goal

pub store-requires-clause-fits : goal.store-requires-clause-fits
store-requires-clause-fits g c =
    fits_width c.args.op c.args.size c.args.place c.one-value.result.0 (rw c.width.ensures at c.one-value.ensures.range)
