-- The segments of the memory protection unit (SLAU367, MPU), and SYSSNIV, which tells its flags.
use Rattle.std.specs.Prelude.{ℕ, ◌+◌, ◌-◌, ◌^◌, ◌==◌, ◌&&◌, not, nat_le, nat_lt, Bool, false, if◌then◌else◌, Option, Some, None, bit_and, bit_or}
use Rattle.chip_words.specs.declared.sizes.Size.{Size}
use Rattle.chip_words.specs.declared.accesses.Kind.{Kind}
use Rattle.chip_words.specs.declared.accesses.Kind.TheVariants.{Fetch, Read, Write}
use Rattle.chip_words.specs.declared.segments.Segment.{Segment}
use Rattle.chip_words.specs.declared.segments.Segment.TheVariants.{One, Two, Three, Info, Sealed}
use Rattle.chip_words.specs.declared.segments.Right.{Right}
use Rattle.chip_words.specs.declared.segments.Right.TheVariants.{Yes, No}
use Rattle.chip_words.specs.Addresses.{MPUCTL0, MPUCTL1, MPUSAM, MPUSEGB1, MPUSEGB2, SYSSNIV, register_address}
use Rattle.chip_words.specs.Bits.{has_bit, with_part}
use Rattle.chip_words.specs.Causes.{MPU_PASSWORD}
use Rattle.chip_words.specs.Map.{is_fram}
use Rattle.chip_words.specs.Passwords.{is_open_after, lower_byte, has_wrong_password}
use Rattle.chip_words.specs.Segments.{MAIN_FRAM, border, border_bits, flag_of, number_of, rights_of}

pub record Mpu : Type 0 where
  -- the lower byte of MPUCTL0
  pub mpuctl0 : ℕ
  -- the latch of MPUCTL0's password, which opens the other registers too
  pub is_open : Bool
  -- MPUCTL1: the flags of violations
  pub mpuctl1 : ℕ
  -- the second border, and the first
  pub mpusegb2 : ℕ
  pub mpusegb1 : ℕ
  -- the rights of the segments
  pub mpusam : ℕ

-- every right, and no reset at a violation
abbrev pub all_rights : ℕ
all_rights = 0x7777

abbrev pub first_mpu : Mpu
first_mpu = record { mpuctl0 = 0; is_open = false; mpuctl1 = 0; mpusegb2 = 0; mpusegb1 = 0; mpusam = all_rights }

-- a BOR alone resets the registers; each reset closes the latch
abbrev pub mpu_at_reset : Bool → Mpu → Mpu
mpu_at_reset is_bor mpu = record {
  mpuctl0 = (if is_bor then 0 else mpu.mpuctl0);
  is_open = false;
  mpuctl1 = (if is_bor then 0 else mpu.mpuctl1);
  mpusegb2 = (if is_bor then 0 else mpu.mpusegb2);
  mpusegb1 = (if is_bor then 0 else mpu.mpusegb1);
  mpusam = (if is_bor then all_rights else mpu.mpusam);
}

-- The bits of MPUCTL0, and those that are kept.

abbrev pub MPUENA : ℕ
MPUENA = 0

abbrev pub MPULOCK : ℕ
MPULOCK = 1

abbrev pub MPUSEGIE : ℕ
MPUSEGIE = 4

abbrev pub kept_of_mpuctl0 : ℕ
kept_of_mpuctl0 = 0x13

-- Rights.

-- the bit of a right among those of a segment
abbrev pub right_bit : Kind → ℕ
right_bit Read = 0
right_bit Write = 1
right_bit Fetch = 2

-- and that of VS: a violation asks for a reset
abbrev pub VS : ℕ
VS = 3

-- the segment of an address of FRAM; an address at or above the second border is of segment 3, also where the first is
-- above the second
abbrev pub segment_at : Mpu → ℕ → Segment
segment_at mpu at =
    if nat_lt at MAIN_FRAM then Info
    else if nat_le (border mpu.mpusegb2) at then Three
    else if nat_le (border mpu.mpusegb1) at then Two
    else One

-- the segment has the right
abbrev pub gives : Mpu → Kind → Segment → Bool
gives mpu kind segment = has_bit mpu.mpusam (rights_of segment + right_bit kind)

-- the right of an access by the segments: where they are enabled, FRAM is judged by its segment
unfoldable pub segment_right : Mpu → Kind → ℕ → Right
segment_right mpu kind at =
    if has_bit mpu.mpuctl0 MPUENA && is_fram at && not (gives mpu kind (segment_at mpu at)) then No (segment_at mpu at)
    else Yes

-- VS of a segment
abbrev pub resets_at : Mpu → Segment → Bool
resets_at mpu segment = has_bit mpu.mpusam (rights_of segment + VS)

-- a violation of a segment without VS asks for the NMI
abbrev pub interrupts : Mpu → Bool
interrupts mpu = has_bit mpu.mpuctl0 MPUSEGIE

-- a place's flag is set
abbrev pub mpu_flagged : Segment → Mpu → Mpu
mpu_flagged segment mpu = record mpu { mpuctl1 = bit_or mpu.mpuctl1 (2 ^ flag_of segment) }

-- Registers.

-- SYSSNIV tells the area first, then information FRAM, then the segments
abbrev pub first_violation : ℕ → Option Segment
first_violation flags =
    if has_bit flags (flag_of Sealed) then Some Sealed
    else if has_bit flags (flag_of Info) then Some Info
    else if has_bit flags (flag_of One) then Some One
    else if has_bit flags (flag_of Two) then Some Two
    else if has_bit flags (flag_of Three) then Some Three
    else None

abbrev pub violation_number : Option Segment → ℕ
violation_number (Some segment) = number_of segment
violation_number None = 0

abbrev pub without_violation : Option Segment → ℕ → ℕ
without_violation (Some segment) flags = bit_and flags (0xFFFF - 2 ^ flag_of segment)
without_violation None flags = flags

-- the word of the register at an even address; MPUCTL0 reads 96h in its upper byte
unfoldable pub mpu_word : Mpu → ℕ → ℕ
mpu_word mpu at =
    if at == SYSSNIV then violation_number (first_violation mpu.mpuctl1)
    else if at == MPUCTL0 then 0x9600 + mpu.mpuctl0
    else if at == MPUCTL1 then mpu.mpuctl1
    else if at == MPUSEGB2 then mpu.mpusegb2
    else if at == MPUSEGB1 then mpu.mpusegb1
    else if at == MPUSAM then mpu.mpusam
    else 0

-- an access to SYSSNIV clears the flag that it tells
unfoldable pub mpu_touched : Mpu → ℕ → Mpu
mpu_touched mpu at = record mpu {
  mpuctl1 = (if register_address at == SYSSNIV then without_violation (first_violation mpu.mpuctl1) mpu.mpuctl1
      else mpu.mpuctl1);
}

-- MPULOCK keeps the lower byte of MPUCTL0
abbrev pub control_after : ℕ → Option ℕ → ℕ
control_after control (Some byte) = if has_bit control MPULOCK then control else bit_and byte kept_of_mpuctl0
control_after control None = control

-- a write is to the register, which the latch and MPULOCK let through
abbrev pub is_taken : Mpu → ℕ → ℕ → Bool
is_taken mpu register at = register_address at == register && mpu.is_open && not (has_bit mpu.mpuctl0 MPULOCK)

-- a write of MPUCTL1 clears the flags that it writes 0, whatever MPULOCK is
abbrev pub flags_written : Mpu → ℕ → Size → ℕ → ℕ
flags_written mpu at size value =
    if register_address at == MPUCTL1 && mpu.is_open then bit_and mpu.mpuctl1 (with_part size at mpu.mpuctl1 value)
    else (mpu_touched mpu at).mpuctl1

unfoldable pub mpu_written : Mpu → ℕ → Size → ℕ → Mpu
mpu_written mpu at size value = record {
  mpuctl0 = (if register_address at == MPUCTL0 then control_after mpu.mpuctl0 (lower_byte mpu.is_open size at value)
      else mpu.mpuctl0);
  is_open = (if register_address at == MPUCTL0 then is_open_after mpu.is_open size at value else mpu.is_open);
  mpuctl1 = flags_written mpu at size value;
  mpusegb2 = (if is_taken mpu MPUSEGB2 at then border_bits (with_part size at mpu.mpusegb2 value) else mpu.mpusegb2);
  mpusegb1 = (if is_taken mpu MPUSEGB1 at then border_bits (with_part size at mpu.mpusegb1 value) else mpu.mpusegb1);
  mpusam = (if is_taken mpu MPUSAM at then with_part size at mpu.mpusam value else mpu.mpusam);
}

-- the reset that a write asks for, by a wrong password
abbrev pub mpu_cause : ℕ → Size → ℕ → Option ℕ
mpu_cause at size value =
    if register_address at == MPUCTL0 && has_wrong_password size value then Some MPU_PASSWORD else None
