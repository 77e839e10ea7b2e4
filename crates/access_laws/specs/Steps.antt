-- What a step from outside the seal goes by and leaves as it is, and what every step keeps.
use Rattle.std.specs.Prelude.{◌≡◌, ℕ, true, List, slice_index}
use Rattle.chip_words.specs.declared.accesses.Agent.{Agent}
use Rattle.chip_words.specs.BusPart.{BusPart}
use Rattle.chip_words.specs.Public.{IsOutside, IsSettled}
use Rattle.chip_words.specs.Script.{Ran, Script, run}
use Rattle.chip_words.specs.Seals.{is_in}
use Rattle.chip_words.specs.Steps.{begun}
use Rattle.access_laws.specs.Locality.{AreAlike}

-- two steps end in the same, leave chips that are alike, and made equal accesses, which their waits go by
pub record RanAlike {A : Type 0} (a b : Ran A) : Type 0 where
  pub value : a.value ≡ b.value
  pub part : AreAlike a.part b.part
  pub accesses : (a.part).accesses ≡ (b.part).accesses

-- One and the same step is made in two chips that are alike, by an entry, DMA, the debugger, or the processor whose
-- instruction is outside the seal: it ends alike. The step may set the seal.
abbrev pub PublicStepSeesPublic : Type 0
PublicStepSeesPublic =
    (who : Agent) (step : Script (List ℕ)) (a b : BusPart) →
    IsSettled a → IsSettled b → AreAlike a b → IsOutside (a.units).encap who →
    RanAlike (run who step (begun a)) (run who step (begun b))

-- Whatever step is made from outside the seal, by an entry, DMA, the debugger or the processor, each byte of the seal
-- stays as it was.
abbrev pub PublicStepKeepsBytes : Type 0
PublicStepKeepsBytes =
    (who : Agent) (step : Script (List ℕ)) (part : BusPart) (at : ℕ) →
    IsSettled part → IsOutside (part.units).encap who → is_in part.kept at ≡ true →
    slice_index ((run who step part).part).memory at ≡ slice_index part.memory at

-- whatever step is made, by whomever, the addresses that stay secret are still those of the seal
abbrev pub StepKeepsSeal : Type 0
StepKeepsSeal =
    (who : Agent) (step : Script (List ℕ)) (part : BusPart) →
    IsSettled part → IsSettled (run who step part).part
