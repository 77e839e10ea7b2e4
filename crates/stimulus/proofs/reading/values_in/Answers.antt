use Rattle.std.proofs.Common.{Some, ap, sym}
use Rattle.stimulus.proofs.Views.{values_of-items_view}
use Rattle.stimulus.proofs.reading.values_in.Goals as goal

pub returns-in_ok-values-in-Some : goal.returns-in_ok-values-in-Some
returns-in_ok-values-in-Some c = rw (← c.in-Some.ensures, ← c.in_ok-values-in-Some.ensures, c.as_slice.ensures.value) (ap Some (sym (values_of-items_view _)))
