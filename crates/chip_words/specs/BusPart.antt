-- The part of the chip that an access reads or changes.
use Rattle.std.specs.Prelude.{◌<◌, List, Bool, Option, length, ℕ}
use Rattle.chip_words.specs.declared.accesses.Access.{Access}
use Rattle.chip_words.specs.declared.accesses.Agent.{Agent}
use Rattle.chip_words.specs.declared.accesses.Agent.TheVariants.{Debug}
use Rattle.chip_words.specs.declared.seals.Seal.{Seal}
use Rattle.chip_words.specs.Units.{Units}

pub record BusPart : Type 0 where
  -- the bytes of FRAM and SRAM by address
  pub memory : List ℕ
  pub units : Units
  -- the addresses whose bytes stay secret, also while power is off and while a boot runs
  pub kept : Seal
  -- what SRAM holds when power comes on, which nothing changes
  pub fill : ℕ
  -- an NMI is requested
  pub nmi : Bool
  -- how many writes of the tick are present, where its power is cut
  pub budget : Option ℕ
  -- how many writes the tick has had
  pub writes : ℕ
  -- the places of the step's violations so far, by the bits of their flags
  pub noted : ℕ
  -- the accesses of the step so far
  pub accesses : List Access
  -- the causes of the resets that its accesses have requested so far
  pub causes : List Bool

-- a step has room for one more access; those of the debugger aren't listed
abbrev pub HasRoom : Agent → BusPart → Type 0
HasRoom Debug part = Unit {0}
HasRoom who part = length part.accesses < 64
