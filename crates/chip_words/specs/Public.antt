-- The public part of the bus part: all but the bytes of the kept set, and what stands within one tick alone. And who is
-- inside the seal, and who outside it.
use Rattle.std.specs.Prelude.{◌≡◌, ℕ, ◌+◌, true, false, if◌then◌else◌, List, [], ◌∷◌, None}
use Rattle.chip_words.specs.declared.seals.Seal.{Seal}
use Rattle.chip_words.specs.declared.accesses.Agent.{Agent}
use Rattle.chip_words.specs.declared.accesses.Agent.TheVariants.{Cpu, Entry, Boot}
use Rattle.chip_words.specs.BusPart.{BusPart}
use Rattle.chip_words.specs.Causes.{no_causes}
use Rattle.chip_words.specs.Encap.{Encap, is_locked, seal}
use Rattle.chip_words.specs.Seals.{is_in}

-- the bytes from an address on, with 0 for each that a seal holds
abbrev pub hidden_from : Seal → ℕ → List ℕ → List ℕ
hidden_from kept at [] = []
hidden_from kept at (byte ∷ bytes) = (if is_in kept at then 0 else byte) ∷ hidden_from kept (at + 1) bytes

-- a memory without the bytes that a seal holds
unfoldable pub hidden : Seal → List ℕ → List ℕ
hidden kept memory = hidden_from kept 0 memory

abbrev pub public_part : BusPart → BusPart
public_part part = record part {
  memory = hidden part.kept part.memory;
  budget = None;
  writes = 0;
  noted = 0;
  accesses = [];
  causes = no_causes;
}

-- with power on and the boot done, the kept set is the seal
abbrev pub IsSettled : BusPart → Type 0
IsSettled part = part.kept ≡ seal (part.units).encap

-- a seal is in force, or could be
pub record IsLocked (part : BusPart) : Type 0 where
  pub settled : IsSettled part
  pub locked : is_locked (part.units).encap ≡ true

-- an agent outside the seal: the processor whose instruction isn't in it, an entry, DMA or the debugger
abbrev pub IsOutside : Encap → Agent → Type 0
IsOutside encap (Cpu ia) = is_in (seal encap) ia ≡ false
IsOutside encap Boot = ⊥
IsOutside encap who = Unit {0}

-- an agent of a private step: the processor whose instruction is in the seal, or an entry
abbrev pub IsInside : Encap → Agent → Type 0
IsInside encap (Cpu ia) = is_in (seal encap) ia ≡ true
IsInside encap Entry = Unit {0}
IsInside encap who = ⊥
