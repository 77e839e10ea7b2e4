-- What MPULOCK keeps between two BORs.
use Rattle.std.specs.Prelude.{◌≡◌, ℕ, ◌%◌, true, false, List, [], ◌∷◌}
use Rattle.chip_words.specs.declared.sizes.Size.{Size}
use Rattle.chip_words.specs.declared.segments.Segment.{Segment}
use Rattle.chip_words.specs.declared.accesses.Agent.{Agent}
use Rattle.chip_words.specs.declared.accesses.Kind.{Kind}
use Rattle.chip_words.specs.Access.{access}
use Rattle.chip_words.specs.BusPart.{BusPart}
use Rattle.chip_words.specs.Bits.{has_bit}
use Rattle.chip_words.specs.Mpu.{MPULOCK, Mpu, first_mpu, mpu_at_reset, mpu_flagged, mpu_touched, mpu_written}

-- what a unit goes through between two BORs
pub data Event : Type 0 where
  -- a write, by address, width and value
  Written : ℕ → Size → ℕ → Event
  -- a read, by address
  Touched : ℕ → Event
  Puc : Event
  -- the end of a step that violated a place
  Flagged : Segment → Event

-- the unit behind an event
abbrev pub behind_event : Event → Mpu → Mpu
behind_event (Written at size value) mpu = mpu_written mpu at size value
behind_event (Touched at) mpu = mpu_touched mpu at
behind_event Puc mpu = mpu_at_reset false mpu
behind_event (Flagged place) mpu = mpu_flagged place mpu

-- the unit behind events, of which the first comes first
abbrev pub behind_events : List Event → Mpu → Mpu
behind_events [] mpu = mpu
behind_events (event ∷ events) mpu = behind_events events (behind_event event mpu)

-- both registers of borders are multiples of 64
pub record HasWholeBorders (mpu : Mpu) : Type 0 where
  pub first : mpu.mpusegb1 % 64 ≡ 0
  pub second : mpu.mpusegb2 % 64 ≡ 0

-- so from power on, behind each BOR, and behind all events
pub record BordersStayWhole : Type 0 where
  pub power_on : HasWholeBorders first_mpu
  pub bor : (mpu : Mpu) → HasWholeBorders (mpu_at_reset true mpu)
  pub events : (events : List Event) (mpu : Mpu) → HasWholeBorders mpu → HasWholeBorders (behind_events events mpu)

-- the registers that MPULOCK keeps are as before
pub record KeepsRegisters (before after : Mpu) : Type 0 where
  pub control : after.mpuctl0 ≡ before.mpuctl0
  pub first : after.mpusegb1 ≡ before.mpusegb1
  pub second : after.mpusegb2 ≡ before.mpusegb2
  pub rights : after.mpusam ≡ before.mpusam

-- so behind all events, where MPULOCK is set
abbrev pub LockKeepsRegisters : Type 0
LockKeepsRegisters =
    (events : List Event) (mpu : Mpu) → HasWholeBorders mpu → has_bit mpu.mpuctl0 MPULOCK ≡ true →
    KeepsRegisters mpu (behind_events events mpu)

-- so behind every access of every agent, whatever register it is to and whether it is refused, absent or neither
abbrev pub AccessesKeepLocked : Type 0
AccessesKeepLocked =
    (who : Agent) (kind : Kind) (at : ℕ) (size : Size) (value : ℕ) (part : BusPart) →
    HasWholeBorders (part.units).mpu → has_bit ((part.units).mpu).mpuctl0 MPULOCK ≡ true →
    KeepsRegisters (part.units).mpu ((access who kind at size value part).part.units).mpu
