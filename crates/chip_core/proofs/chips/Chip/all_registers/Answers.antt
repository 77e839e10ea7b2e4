use Rattle.std.proofs.Common.{List, [], ◌∷◌, ℕ}
use Rattle.chip_core.proofs.Given.{four_registers, last_four}
use Rattle.chip_core.proofs.chips.Chip.all_registers.Goals as goal

pub returns-clause-small : goal.returns-clause-small
returns-clause-small c =
    let fourth : List ℕ = c.get-13.result ∷ c.get-14.result ∷ c.get-15.result ∷ c.get-16.result ∷ [] in
    let third : List ℕ = c.get-9.result ∷ c.get-10.result ∷ c.get-11.result ∷ c.get-12.result ∷ fourth in
    let second : List ℕ = c.get-5.result ∷ c.get-6.result ∷ c.get-7.result ∷ c.get-8.result ∷ third in
    four_registers c.get.result c.get-2.result c.get-3.result c.get-4.result second
    c.get.ensures.small c.get-2.ensures.small c.get-3.ensures.small c.get-4.ensures.small
    (four_registers c.get-5.result c.get-6.result c.get-7.result c.get-8.result third
    c.get-5.ensures.small c.get-6.ensures.small c.get-7.ensures.small c.get-8.ensures.small
    (four_registers c.get-9.result c.get-10.result c.get-11.result c.get-12.result fourth
    c.get-9.ensures.small c.get-10.ensures.small c.get-11.ensures.small c.get-12.ensures.small
    (last_four c.get-13.result c.get-14.result c.get-15.result c.get-16.result
    c.get-13.ensures.small c.get-14.ensures.small c.get-15.ensures.small c.get-16.ensures.small)))
