-- Which accesses can be refused at all.
use Rattle.std.specs.Prelude.{◌≡◌, ℕ, false}
use Rattle.chip_words.specs.declared.accesses.Agent.{Agent}
use Rattle.chip_words.specs.declared.accesses.Agent.TheVariants.{Entry, Debug, Boot}
use Rattle.chip_words.specs.declared.accesses.Kind.{Kind}
use Rattle.chip_words.specs.declared.segments.Right.TheVariants.{Yes}
use Rattle.chip_words.specs.Bits.{has_bit}
use Rattle.chip_words.specs.Encap.{MPUIPENA, area}
use Rattle.chip_words.specs.Map.{is_fram}
use Rattle.chip_words.specs.Mpu.{MPUENA}
use Rattle.chip_words.specs.Right.{right_of}
use Rattle.chip_words.specs.Seals.{is_in}
use Rattle.chip_words.specs.Units.{Units}
use Rattle.right_laws.specs.Insiders.{IsLeftToSegments}

-- an agent has the right to every access
abbrev pub HasAllRights : Units → Agent → Type 0
HasAllRights units who = (kind : Kind) (at : ℕ) → right_of units who kind at ≡ Yes

-- an agent has the right to every access off the area
abbrev pub HasRightsOffArea : Units → Agent → Type 0
HasRightsOffArea units who =
    (kind : Kind) (at : ℕ) → is_in (area units.encap) at ≡ false → right_of units who kind at ≡ Yes

-- with MPUENA clear no access is refused that the area leaves to the segments; with MPUIPENA clear too, none at all
pub record DisabledRefusesNothing : Type 0 where
  pub segments :
      (units : Units) (who : Agent) (kind : Kind) (at : ℕ) → has_bit (units.mpu).mpuctl0 MPUENA ≡ false →
      IsLeftToSegments units.encap who kind at → right_of units who kind at ≡ Yes
  pub both :
      (units : Units) (who : Agent) → has_bit (units.mpu).mpuctl0 MPUENA ≡ false →
      has_bit (units.encap).mpuipc0 MPUIPENA ≡ false → HasAllRights units who

-- whatever the registers hold, no segment refuses these agents, and nothing refuses the boot
pub record OthersAreNotJudged : Type 0 where
  pub entry : (units : Units) → HasRightsOffArea units Entry
  pub debug : (units : Units) → HasRightsOffArea units Debug
  pub boot : (units : Units) → HasAllRights units Boot

-- whatever the registers hold, every agent has every right off FRAM
abbrev pub OnlyFramIsJudged : Type 0
OnlyFramIsJudged =
    (units : Units) (who : Agent) (kind : Kind) (at : ℕ) → is_fram at ≡ false → right_of units who kind at ≡ Yes
