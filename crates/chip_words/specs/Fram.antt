-- The FRAM controller (SLAU367, FRCTL_A): FRCTL0 with its password, and two registers that are stored.
use Rattle.std.specs.Prelude.{ℕ, ◌+◌, ◌/◌, ◌%◌, ◌^◌, ◌==◌, ◌&&◌, Bool, false, if◌then◌else◌, Option, Some, None, bit_and}
use Rattle.chip_words.specs.declared.sizes.Size.{Size}
use Rattle.chip_words.specs.Addresses.{FRCTL0, GCCTL0, GCCTL1, register_address}
use Rattle.chip_words.specs.Bits.{with_part}
use Rattle.chip_words.specs.Causes.{FRAM_PASSWORD}
use Rattle.chip_words.specs.Passwords.{is_open_after, lower_byte, has_wrong_password}

pub record FramControl : Type 0 where
  -- the lower byte of FRCTL0
  pub frctl0 : ℕ
  -- the latch of FRCTL0's password, which opens the other registers too
  pub is_open : Bool
  pub gcctl0 : ℕ
  pub gcctl1 : ℕ

-- a reset of either kind gives these
abbrev pub first_fram : FramControl
first_fram = record { frctl0 = 0; is_open = false; gcctl0 = 0; gcctl1 = 0 }

-- NWAITS has three bits from here on, which alone are kept
abbrev pub NWAITS : ℕ
NWAITS = 4

abbrev pub kept_of_frctl0 : ℕ
kept_of_frctl0 = 0x70

-- each access to FRAM takes so many cycles more
abbrev pub waits_of : FramControl → ℕ
waits_of fram = fram.frctl0 / 2 ^ NWAITS % 8

-- the word of the register at an even address; FRCTL0 reads 96h in its upper byte
abbrev pub fram_word : FramControl → ℕ → ℕ
fram_word fram at =
    if at == FRCTL0 then 0x9600 + fram.frctl0
    else if at == GCCTL0 then fram.gcctl0
    else if at == GCCTL1 then fram.gcctl1
    else 0

-- the lower byte of FRCTL0 behind a write, where the unit takes one
abbrev pub frctl0_after : ℕ → Option ℕ → ℕ
frctl0_after word (Some byte) = bit_and byte kept_of_frctl0
frctl0_after word None = word

-- what a register that is stored behind the latch holds, where the write is to it
abbrev pub opened : FramControl → ℕ → ℕ → ℕ → Size → ℕ → ℕ
opened fram word register at size value =
    if register_address at == register && fram.is_open then with_part size at word value else word

unfoldable pub fram_written : FramControl → ℕ → Size → ℕ → FramControl
fram_written fram at size value = record {
  frctl0 = (if register_address at == FRCTL0 then frctl0_after fram.frctl0 (lower_byte fram.is_open size at value)
      else fram.frctl0);
  is_open = (if register_address at == FRCTL0 then is_open_after fram.is_open size at value else fram.is_open);
  gcctl0 = opened fram fram.gcctl0 GCCTL0 at size value;
  gcctl1 = opened fram fram.gcctl1 GCCTL1 at size value;
}

-- the reset that a write asks for, by a wrong password
abbrev pub fram_cause : ℕ → Size → ℕ → Option ℕ
fram_cause at size value =
    if register_address at == FRCTL0 && has_wrong_password size value then Some FRAM_PASSWORD else None
