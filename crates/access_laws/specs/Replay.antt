-- What a step from inside the seal releases, and that its releases alone change the public part.
use Rattle.std.specs.Prelude.{◌≡◌, ℕ, ◌&&◌, not, Bool, List, [], filter, fold, map}
use Rattle.chip_words.specs.declared.accesses.Access.{Access}
use Rattle.chip_words.specs.declared.accesses.Agent.{Agent}
use Rattle.chip_words.specs.declared.accesses.Agent.TheVariants.{Cpu}
use Rattle.chip_words.specs.declared.accesses.Kind.{Kind}
use Rattle.chip_words.specs.declared.accesses.Kind.TheVariants.{Write}
use Rattle.chip_words.specs.declared.seals.Seal.{Seal}
use Rattle.chip_words.specs.Access.{access_present}
use Rattle.chip_words.specs.BusPart.{BusPart}
use Rattle.chip_words.specs.Public.{IsInside, IsLocked, public_part}
use Rattle.chip_words.specs.Script.{Script, run}
use Rattle.chip_words.specs.Seals.{is_in}

-- an access is released: it is to an address outside the seal, and isn't absent
abbrev pub is_released : Seal → Access → Bool
is_released seal access = not (is_in seal access.at) && access.done

-- what a release tells of a value: what is written, and of a read nothing
abbrev pub told_value : Kind → ℕ → ℕ
told_value Write value = value
told_value kind value = 0

-- an access as its release tells it
abbrev pub told : Access → Access
told access = record access { value = told_value access.kind access.value }

-- the releases of a step, from the list of its accesses
abbrev pub released : Seal → List Access → List Access
released seal accesses = map told (filter (is_released seal) accesses)

-- an address without memory, so that no area holds it, and not of the peripherals, where no instruction may begin
abbrev pub NO_MEMORY : ℕ
NO_MEMORY = 0x1000

-- the agent without the place of its instruction
abbrev pub anyone : Agent → Agent
anyone (Cpu ia) = Cpu NO_MEMORY
anyone who = who

-- the public part behind a release, which is made again on it
abbrev pub replayed : Agent → BusPart → Access → BusPart
replayed who part access =
    public_part
    (access_present (anyone who) access.kind access.at access.size access.value part).part

-- the public part behind releases, of which the first comes first
abbrev pub replay : Agent → BusPart → List Access → BusPart
replay who part releases = fold (replayed who) part releases

-- Whatever step is made from inside the seal, the public part behind it is what its releases make of the public part
-- before it. So a private step does nothing to the public part that its releases don't tell.
abbrev pub PrivateStepIsReplayed : Type 0
PrivateStepIsReplayed =
    (who : Agent) (step : Script (List ℕ)) (part : BusPart) →
    IsLocked part → IsInside (part.units).encap who → part.accesses ≡ [] →
    public_part (run who step part).part
    ≡ replay who (public_part part) (released part.kept ((run who step part).part).accesses)
