-- What MPULOCK keeps.
use Rattle.std.proofs.Common.{◌≡◌, ℕ, ◌%◌, ◌==◌, ◌&&◌, not, Bool, true, false, List, [], ◌∷◌, Option, Some, None, arith, refl, ap, ◌∙◌, if◌then◌else◌, bit_and}
use Rattle.chip_words.specs.Bits.{has_bit, with_part}
use Rattle.chip_words.specs.Addresses.{MPUCTL0, MPUSAM, MPUSEGB1, MPUSEGB2, register_address}
use Rattle.chip_words.specs.Passwords.{lower_byte}
use Rattle.chip_words.specs.Mpu.{MPULOCK, Mpu, control_after, is_taken, mpu_touched, mpu_written}
use Rattle.chip_words.specs.Segments.{border_bits}
use Rattle.right_laws.specs.Locks.{BordersStayWhole, Event, Flagged, HasWholeBorders, KeepsRegisters, LockKeepsRegisters, Puc, Touched, Written, behind_event, behind_events}

-- ---- borders

whole : (word : ℕ) → border_bits word % 64 ≡ 0
whole word = omega arith

either_whole :
    (test : Bool) (one other : ℕ) → one % 64 ≡ 0 → other % 64 ≡ 0 → (if test then one else other) % 64 ≡ 0
either_whole true one other is also = is
either_whole false one other is also = also

pub event_whole : (event : Event) (mpu : Mpu) → HasWholeBorders mpu → HasWholeBorders (behind_event event mpu)
unfolding mpu_written mpu_touched
event_whole (Written at size value) mpu is = record {
  first =
      either_whole (is_taken mpu MPUSEGB1 at) (border_bits (with_part size at mpu.mpusegb1 value)) mpu.mpusegb1
      (whole (with_part size at mpu.mpusegb1 value)) is.first;
  second =
      either_whole (is_taken mpu MPUSEGB2 at) (border_bits (with_part size at mpu.mpusegb2 value)) mpu.mpusegb2
      (whole (with_part size at mpu.mpusegb2 value)) is.second;
}
event_whole (Touched at) mpu is = record { first = is.first; second = is.second }
event_whole Puc mpu is = record { first = is.first; second = is.second }
event_whole (Flagged place) mpu is = record { first = is.first; second = is.second }

events_whole : (events : List Event) (mpu : Mpu) → HasWholeBorders mpu → HasWholeBorders (behind_events events mpu)
events_whole [] mpu is = is
events_whole (event ∷ events) mpu is = events_whole events (behind_event event mpu) (event_whole event mpu is)

pub borders_stay_whole : BordersStayWhole
borders_stay_whole = record {
  power_on = record { first = refl; second = refl };
  bor = λ mpu. record { first = refl; second = refl };
  events = events_whole;
}

-- ---- MPULOCK

closed : (here is_open : Bool) (word other : ℕ) → (if here && is_open && false then other else word) ≡ word
closed true true word other = refl
closed true false word other = refl
closed false is_open word other = refl

-- a write that MPULOCK stops leaves the register
not_taken :
    (mpu : Mpu) (register at word other : ℕ) → has_bit mpu.mpuctl0 MPULOCK ≡ true →
    (if is_taken mpu register at then other else word) ≡ word
not_taken mpu register at word other locked =
    ap (λ b. if register_address at == register && mpu.is_open && not b then other else word) locked
    ∙ closed (register_address at == register) mpu.is_open word other

control_keeps : (control : ℕ) (byte : Option ℕ) → has_bit control MPULOCK ≡ true → control_after control byte ≡ control
control_keeps control None locked = refl
control_keeps control (Some byte) locked = ap (λ b. if b then control else bit_and byte 0x13) locked

either : (test : Bool) (one other : ℕ) → one ≡ other → (if test then one else other) ≡ other
either true one other same = same
either false one other same = refl

pub same_registers : (mpu : Mpu) → KeepsRegisters mpu mpu
same_registers mpu = record { control = refl; first = refl; second = refl; rights = refl }

-- registers kept twice are kept
pub then_kept :
    {before mid after : Mpu} → KeepsRegisters before mid → KeepsRegisters mid after → KeepsRegisters before after
then_kept one more = record {
  control = more.control ∙ one.control;
  first = more.first ∙ one.first;
  second = more.second ∙ one.second;
  rights = more.rights ∙ one.rights;
}

pub event_keeps :
    (event : Event) (mpu : Mpu) → HasWholeBorders mpu → has_bit mpu.mpuctl0 MPULOCK ≡ true →
    KeepsRegisters mpu (behind_event event mpu)
unfolding mpu_written mpu_touched
event_keeps (Written at size value) mpu is locked = record {
  control =
      either (register_address at == MPUCTL0) _ mpu.mpuctl0
      (control_keeps mpu.mpuctl0 (lower_byte mpu.is_open size at value) locked);
  first = not_taken mpu MPUSEGB1 at mpu.mpusegb1 (border_bits (with_part size at mpu.mpusegb1 value)) locked;
  second = not_taken mpu MPUSEGB2 at mpu.mpusegb2 (border_bits (with_part size at mpu.mpusegb2 value)) locked;
  rights = not_taken mpu MPUSAM at mpu.mpusam (with_part size at mpu.mpusam value) locked;
}
event_keeps (Touched at) mpu is locked = record { control = refl; first = refl; second = refl; rights = refl }
event_keeps Puc mpu is locked = record { control = refl; first = refl; second = refl; rights = refl }
event_keeps (Flagged place) mpu is locked = record { control = refl; first = refl; second = refl; rights = refl }

pub lock_keeps_registers : LockKeepsRegisters
lock_keeps_registers [] mpu is locked = same_registers mpu
lock_keeps_registers (event ∷ events) mpu is locked =
    let one = event_keeps event mpu is locked in
    then_kept one
    (lock_keeps_registers events (behind_event event mpu) (event_whole event mpu is)
    (ap (λ control. has_bit control MPULOCK) one.control ∙ locked))
