-- Each line of a tick has room for its values.
use Rattle.std.proofs.Common.{zero, suc, Bool, true, false, List, [], ◌∷◌, ◌++◌, arith}
use Rattle.std.specs.Prelude.{All, if◌then◌else◌}
use Rattle.std.proofs.lemmas.List.Elements.{All-append}
use Rattle.trace_print.specs.declared.items.TraceItem.{TraceItem}
use Rattle.trace_print.specs.declared.items.TraceItem.TheVariants.{On}
use Rattle.trace_print.specs.Lines.{IsPrintable}
use Rattle.power_schedule.specs.declared.powers.Power.{Power}
use Rattle.power_schedule.specs.declared.powers.Power.TheVariants as power
use Rattle.chip_core.specs.State.{State}
use Rattle.chip_core.specs.Lines.{power_lines}

none : All IsPrintable []
none k d h = absurd (omega (arith, h))

more : (item : TraceItem) (items : List TraceItem) → IsPrintable item → All IsPrintable items → All IsPrintable (item ∷ items)
more item items p q zero d h = p
more item items p q (suc k) d h = q k d (omega (arith, h))

one : (item : TraceItem) → IsPrintable item → All IsPrintable (item ∷ [])
one item p = more item [] p none

-- a choice of lists
either : (test : Bool) (xs ys : List TraceItem) → All IsPrintable xs → All IsPrintable ys → All IsPrintable (if test then xs else ys)
either true xs ys p q = p
either false xs ys p q = q

-- one line more
pub with_line :
    (items : List TraceItem) (item : TraceItem) → All IsPrintable items → IsPrintable item →
    All IsPrintable (items ++ item ∷ [])
with_line items item p q = All-append IsPrintable items (item ∷ []) p (one item q)

pub power_lines_printable : (power : Power) (chip : State) → All IsPrintable (power_lines power chip)
power_lines_printable power.On chip = either chip.powered [] (On ∷ []) none (one On tt)
power_lines_printable (power.Cut writes) chip = either chip.powered [] (On ∷ []) none (one On tt)
power_lines_printable power.Off chip = none
