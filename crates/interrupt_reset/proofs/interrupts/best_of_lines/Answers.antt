use Rattle.std.proofs.Common.{◌≡◌, IfSome, true, slice_get, refl, sym, ◌∙◌, arith}
use lib.Count.{count_trailing_zeros}
use Rattle.chip_words.specs.Interrupts.{vectors}
use Rattle.interrupt_reset.proofs.FirstLine.{greatest-standing, option_copied-get, slice_get-passes, is_vector, is_vector-in_range, is_vector-even}
use Rattle.interrupt_reset.proofs.interrupts.best_of_lines.Goals as goal

found : (c : goal.After-copied) → c.copied.result ≡ slice_get vectors (count_trailing_zeros 16 c.args.lines)
found c = c.copied.ensures ∙ option_copied-get _ vectors _ c.get.ensures.lookup.0 c.get.ensures.lookup.1

passes : (c : goal.After-copied) → IfSome c.copied.result (λ at. is_vector at ≡ true)
passes c = rw (found c) (slice_get-passes is_vector vectors _ refl)

pub returns-clause-vector : goal.returns-clause-vector
returns-clause-vector c = found c ∙ sym (greatest-standing 0x10000 c.args.lines 16 vectors refl (omega arith))

pub returns-clause-range : goal.returns-clause-range
returns-clause-range c = is_vector-in_range c.copied.result (passes c)

pub returns-clause-even : goal.returns-clause-even
returns-clause-even c = is_vector-even c.copied.result (passes c)
