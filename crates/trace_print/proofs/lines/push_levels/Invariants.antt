use Rattle.std.proofs.Common.{◌≡◌, ◌++◌, map}
use Rattle.trace_print.specs.Levels.{letter_of}
use Rattle.trace_print.proofs.lines.push_levels.Given as goal

-- the letters of the levels so far are written
abbrev pub invariant-loop-level : goal.invariant-loop-level
invariant-loop-level l =
    (goal.iterator-loop-level).can_next l.level-iterator ×
    (goal.iterator-loop-level).is_finite l.level-iterator ×
    (l.line.items ≡ l.fn.line.items ++ map (λ level. letter_of level.now) l.yielded)
