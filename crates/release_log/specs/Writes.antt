-- The writes of a step: memory behind the first of them, as a cut of power leaves it, and the bytes that they miss.
use Rattle.std.specs.Prelude.{◌≡◌, ◌≢◌, ◌<◌, ◌+◌, ◌-◌, ◌&&◌, ℕ, Bool, true, false, if◌then◌else◌, List, [], ◌∷◌, ◌++◌, Some, All, fold, length, slice_index, take}
use Rattle.chip_words.specs.declared.sizes.Size.{Size}
use Rattle.chip_words.specs.declared.sizes.Size.TheVariants.{Byte}
use Rattle.chip_words.specs.declared.accesses.Agent.{Agent}
use Rattle.chip_words.specs.declared.accesses.Kind.{Kind}
use Rattle.chip_words.specs.declared.accesses.Kind.TheVariants.{Write}
use Rattle.chip_words.specs.declared.segments.Right.{Right}
use Rattle.chip_words.specs.declared.segments.Right.TheVariants.{No, Yes}
use Rattle.chip_words.specs.Access.{access}
use Rattle.chip_words.specs.BusPart.{BusPart}
use Rattle.chip_words.specs.Map.{aligned, has_bytes, region_at}
use Rattle.chip_words.specs.Memory.{stored}
use Rattle.chip_words.specs.Right.{right_of}
use Rattle.chip_words.specs.Script.{Ask, Return, Script, run}

-- The writes.

-- a write that a step makes, present or absent, at the address that it reaches
pub record StepWrite : Type 0 where
  pub at : ℕ
  pub size : Size
  pub value : ℕ
  -- it had its right when it was made
  pub allowed : Bool

-- a right is there
abbrev pub is_allowed : Right → Bool
is_allowed Yes = true
is_allowed (No place) = false

-- a write by its right
abbrev pub write_by : Right → ℕ → Size → ℕ → StepWrite
write_by right at size value = record { at = at; size = size; value = value; allowed = is_allowed right }

-- the write that an access of kind Write makes
abbrev pub write_made : Agent → ℕ → Size → ℕ → BusPart → StepWrite
write_made who at size value part =
    write_by (right_of part.units who Write (aligned size at)) (aligned size at) size value

-- the writes of one access: of a read or a fetch there is none
abbrev pub write_of : Agent → Kind → ℕ → Size → ℕ → BusPart → List StepWrite
write_of who Write at size value part = write_made who at size value part ∷ []
write_of who kind at size value part = []

-- the writes of a step in their order
abbrev pub writes_of : {A : Type 0} → Agent → Script A → BusPart → List StepWrite
writes_of who (Return value) part = []
writes_of who (Ask kind at size value rest) part =
    let next = access who kind at size value part in
    write_of who kind at size value part ++ writes_of who (rest next.answer) next.part

-- Memory behind them.

-- behind one: it is whole, where it is allowed and its address holds a byte
abbrev pub with_write : List ℕ → StepWrite → List ℕ
with_write memory write =
    if write.allowed && has_bytes (region_at write.at) then stored memory write.at write.size write.value else memory

-- behind several, of which the first comes first
abbrev pub with_writes : List ℕ → List StepWrite → List ℕ
with_writes memory writes = fold with_write memory writes

-- the end of the count of writes
abbrev pub END_OF_COUNT : ℕ
END_OF_COUNT = 0xFFFFFFFF

-- memory holds the first of these writes, as many as the budget left, and no other; and behind them the budget leaves
-- so many fewer
pub record HoldsFirst (writes : List StepWrite) (budget : ℕ) (before after : BusPart) : Type 0 where
  pub memory : after.memory ≡ with_writes before.memory (take (budget - before.writes) writes)
  pub left : budget - after.writes ≡ budget - before.writes - length writes

-- so behind each step of a tick whose power is cut after so many writes
abbrev pub StepsHoldFirst : Type 0
StepsHoldFirst =
    (who : Agent) (step : Script (List ℕ)) (budget : ℕ) (part : BusPart) →
    part.budget ≡ Some budget → budget < END_OF_COUNT →
    HoldsFirst (writes_of who step part) budget part (run who step part).part

-- Bytes that they miss.

-- the address of the last byte of a value
abbrev pub last_of : Size → ℕ → ℕ
last_of Byte at = at
last_of size at = at + 1

-- a byte is none of those of a write, where that is allowed
pub record Misses (byte : ℕ) (write : StepWrite) : Type 0 where
  pub first : write.allowed ≡ true → byte ≢ write.at
  pub last : write.allowed ≡ true → byte ≢ last_of write.size write.at

-- a step whose writes all miss a byte leaves it as it was
abbrev pub StepsLeaveMissed : Type 0
StepsLeaveMissed =
    (who : Agent) (step : Script (List ℕ)) (part : BusPart) (byte : ℕ) →
    All (Misses byte) (writes_of who step part) →
    slice_index ((run who step part).part).memory byte ≡ slice_index part.memory byte
