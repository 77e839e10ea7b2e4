-- A step in which nothing was noted ends as it is.
use Rattle.std.proofs.Common.{◌≡◌, ◌∙◌, sym, ap}
use Rattle.chip_words.specs.BusPart.{BusPart}
use Rattle.chip_words.specs.Steps.{ended_with, step_ended}

pub nothing_ends : (part : BusPart) → part.noted ≡ 0 → part ≡ step_ended part
unfolding ended_with
nothing_ends part none =
    ap (λ noted. record part { noted = noted }) none
    ∙ ap (λ noted. ended_with noted (record part { noted = 0 })) (sym none)
