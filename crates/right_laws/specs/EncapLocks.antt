-- What MPUIPLOCK and a closed latch keep of the encapsulation, and when the addresses that stay secret change.
use Rattle.std.specs.Prelude.{◌≡◌, ◌<◌, ◌⊎◌, ℕ, ◌%◌, Bool, true, false, List, [], ◌∷◌}
use Rattle.chip_words.specs.declared.sizes.Size.{Size}
use Rattle.chip_words.specs.declared.accesses.Agent.{Agent}
use Rattle.chip_words.specs.declared.accesses.Kind.{Kind}
use Rattle.chip_words.specs.Access.{access}
use Rattle.chip_words.specs.Bits.{has_bit}
use Rattle.chip_words.specs.BusPart.{BusPart}
use Rattle.chip_words.specs.Encap.{Encap, MPUIPENA, MPUIPLOCK, area, encap_at_reset, encap_written, first_encap, installed}
use Rattle.chip_words.specs.Map.{aligned}

-- what the unit goes through between two BORs, once the boot is done
pub data Event : Type 0 where
  -- a write, by whether the latch is open, address, width and value
  Written : Bool → ℕ → Size → ℕ → Event
  Puc : Event

-- the unit behind an event
abbrev pub behind_event : Event → Encap → Encap
behind_event (Written is_open at size value) encap = encap_written encap is_open at size value
behind_event Puc encap = encap_at_reset false encap

-- the unit behind events, of which the first comes first
abbrev pub behind_events : List Event → Encap → Encap
behind_events [] encap = encap
behind_events (event ∷ events) encap = behind_events events (behind_event event encap)

-- both registers of borders are multiples of 64
pub record HasWholeBorders (encap : Encap) : Type 0 where
  pub first : encap.mpuipsegb1 % 64 ≡ 0
  pub second : encap.mpuipsegb2 % 64 ≡ 0

-- so from power on, behind each BOR and each boot, and behind all events
pub record AreaBordersStayWhole : Type 0 where
  pub power_on : HasWholeBorders first_encap
  pub bor : (encap : Encap) → HasWholeBorders (encap_at_reset true encap)
  pub boot : (control second first : ℕ) → HasWholeBorders (installed control second first)
  pub events :
      (events : List Event) (encap : Encap) → HasWholeBorders encap → HasWholeBorders (behind_events events encap)

-- the registers, and so the area and the seal, are as before behind all events, where MPUIPLOCK is set
abbrev pub LockKeepsEncapsulation : Type 0
LockKeepsEncapsulation =
    (events : List Event) (encap : Encap) → has_bit encap.mpuipc0 MPUIPLOCK ≡ true →
    behind_events events encap ≡ encap

-- the registers and the addresses that stay secret are as before
pub record KeepsEncapsulation (before after : BusPart) : Type 0 where
  pub registers : (after.units).encap ≡ (before.units).encap
  pub secret : after.kept ≡ before.kept

-- an address of another register than the three
abbrev pub IsElsewhere : ℕ → Type 0
IsElsewhere at = (at < 0x05AA) ⊎ (0x05AF < at)

-- so behind every access of every agent where MPUIPLOCK is set, where the latch is closed, and where it is to another
-- address
pub record AccessesKeepEncapsulation : Type 0 where
  pub locked :
      (who : Agent) (kind : Kind) (at : ℕ) (size : Size) (value : ℕ) (part : BusPart) →
      has_bit ((part.units).encap).mpuipc0 MPUIPLOCK ≡ true →
      KeepsEncapsulation part (access who kind at size value part).part
  pub closed :
      (who : Agent) (kind : Kind) (at : ℕ) (size : Size) (value : ℕ) (part : BusPart) →
      ((part.units).mpu).is_open ≡ false → KeepsEncapsulation part (access who kind at size value part).part
  pub elsewhere :
      (who : Agent) (kind : Kind) (at : ℕ) (size : Size) (value : ℕ) (part : BusPart) →
      IsElsewhere (aligned size at) → KeepsEncapsulation part (access who kind at size value part).part

-- MPUIPLOCK, and MPUIPENA
abbrev pub lock : BusPart → Bool
lock part = has_bit ((part.units).encap).mpuipc0 MPUIPLOCK

abbrev pub enabled : BusPart → Bool
enabled part = has_bit ((part.units).encap).mpuipc0 MPUIPENA

-- the addresses that stay secret become the area where MPUIPLOCK was set with MPUIPENA, and else are as before
pub record SecretGoesByLock (before after : BusPart) : Type 0 where
  pub was_locked : lock before ≡ true → after.kept ≡ before.kept
  pub stays_unlocked : lock after ≡ false → after.kept ≡ before.kept
  pub is_disabled : enabled after ≡ false → after.kept ≡ before.kept
  pub is_sealed :
      lock before ≡ false → lock after ≡ true → enabled after ≡ true → after.kept ≡ area (after.units).encap

-- so behind every access of every agent
abbrev pub AccessesKeepSecret : Type 0
AccessesKeepSecret =
    (who : Agent) (kind : Kind) (at : ℕ) (size : Size) (value : ℕ) (part : BusPart) →
    SecretGoesByLock part (access who kind at size value part).part
