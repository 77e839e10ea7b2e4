-- The last line of a comparison.
use Rattle.std.specs.Prelude.{ℕ, ◌^◌, ◌<◌, List, ◌++◌, codes, decimal}
use Rattle.trace_print.specs.declared.verdicts.Verdict.{Verdict}
use Rattle.trace_print.specs.declared.verdicts.Verdict.TheVariants.{Seal, Outside, Release, Same}
use Rattle.trace_print.specs.Digits.{hex_digits}

-- the text has room for addresses of 20 bits
abbrev pub IsTellable : Verdict → Type 0
IsTellable (Outside at) = at < 2 ^ 20
IsTellable verdict = Unit {0}

-- what a verdict says
abbrev pub verdict_text : Verdict → List ℕ
verdict_text Seal = codes "differ seal"
verdict_text (Outside at) = codes "differ outside " ++ hex_digits 5 at
verdict_text (Release tick) = codes "differ release " ++ decimal tick
verdict_text Same = codes "same"

-- its line, which has no tick in front
unfoldable pub verdict_line_of : Verdict → List ℕ
verdict_line_of verdict = verdict_text verdict ++ codes "\n"
