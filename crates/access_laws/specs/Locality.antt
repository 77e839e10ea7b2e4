-- Access locality: which part of a chip one access goes by, and which it changes.
--
-- A chip is its bus part here, since an access reads and changes nothing else of it. Its power is on and its boot is
-- done: it is settled, which says that the addresses that stay secret are those of the seal. The public part leaves out
-- the bytes at these addresses, and what stands within a tick alone. No law asks anything of the width or the value of
-- an access.
use Rattle.std.specs.Prelude.{◌≡◌, ℕ, Bool, true, false}
use Rattle.chip_words.specs.declared.sizes.Size.{Size}
use Rattle.chip_words.specs.declared.accesses.Agent.{Agent}
use Rattle.chip_words.specs.declared.accesses.Agent.TheVariants.{Cpu, Entry}
use Rattle.chip_words.specs.declared.accesses.Kind.{Kind}
use Rattle.chip_words.specs.declared.accesses.Kind.TheVariants.{Write}
use Rattle.chip_words.specs.Access.{Accessed, access, is_over, next_number}
use Rattle.chip_words.specs.BusPart.{BusPart}
use Rattle.chip_words.specs.Encap.{Encap, seal}
use Rattle.chip_words.specs.Public.{IsInside, IsOutside, IsSettled, public_part}
use Rattle.chip_words.specs.Seals.{is_in}

-- First, an access from outside the seal.

-- two chips have equal public parts, and equal budgets of writes, counts of writes, and violations noted
pub record AreAlike (a b : BusPart) : Type 0 where
  pub public : public_part a ≡ public_part b
  pub budget : a.budget ≡ b.budget
  pub writes : a.writes ≡ b.writes
  pub noted : a.noted ≡ b.noted

-- two accesses give equal answers, and leave two chips that are alike
pub record EndAlike (a b : Accessed) : Type 0 where
  pub answer : a.answer ≡ b.answer
  pub part : AreAlike a.part b.part

-- One and the same access is made in two chips that are alike, by an entry, DMA, the debugger, or the processor whose
-- instruction is outside the seal: it gives equal answers and leaves the chips alike.
abbrev pub OutsideSeesPublic : Type 0
OutsideSeesPublic =
    (who : Agent) (kind : Kind) (at : ℕ) (size : Size) (value : ℕ) (a b : BusPart) →
    IsSettled a → IsSettled b → AreAlike a b → IsOutside (a.units).encap who →
    EndAlike (access who kind at size value a) (access who kind at size value b)

-- Second, an access from inside the seal to an address outside it.

-- an access is absent: it is a write whose number is above the budget of a tick whose power is cut
abbrev pub is_absent : Kind → BusPart → Bool
is_absent Write part = is_over part.budget (next_number part.writes)
is_absent kind part = false

-- both agents are entries, or both are the processor with an instruction in the seal, which needn't be the same one
abbrev pub AreInside : Encap → Agent → Agent → Type 0
AreInside encap (Cpu one) (Cpu other) = IsInside encap (Cpu one) × IsInside encap (Cpu other)
AreInside encap Entry Entry = Unit {0}
AreInside encap one other = ⊥

-- two accesses give equal answers, and leave equal public parts
pub record EndPublic (a b : Accessed) : Type 0 where
  pub answer : a.answer ≡ b.answer
  pub part : public_part a.part ≡ public_part b.part

-- One and the same access to an address outside the seal is made in two chips with equal public parts, by entries, or
-- by the processor with instructions in the seal. It is present in both or absent in both, while budgets, counts of
-- writes and violations may differ. It gives equal answers and leaves equal public parts.
abbrev pub InsideSeesPublic : Type 0
InsideSeesPublic =
    (one other : Agent) (kind : Kind) (at : ℕ) (size : Size) (value : ℕ) (a b : BusPart) →
    IsSettled a → IsSettled b → public_part a ≡ public_part b →
    AreInside (a.units).encap one other → is_in (seal (a.units).encap) at ≡ false →
    is_absent kind a ≡ is_absent kind b →
    EndPublic (access one kind at size value a) (access other kind at size value b)

-- Third, an access from inside the seal to an address of the seal.

-- Made by an entry, or by the processor whose instruction is in the seal, it leaves the public part as it was: also
-- where it is refused, and in either phase.
abbrev pub InsideIsHidden : Type 0
InsideIsHidden =
    (who : Agent) (kind : Kind) (at : ℕ) (size : Size) (value : ℕ) (part : BusPart) →
    IsSettled part → IsInside (part.units).encap who → is_in (seal (part.units).encap) at ≡ true →
    public_part (access who kind at size value part).part ≡ public_part part
