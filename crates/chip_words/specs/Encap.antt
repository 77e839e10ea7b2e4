-- IP Encapsulation (SLAU367, MPU, IP Encapsulation segment): its registers, the area that they bound, who may do what
-- there, and the seal, which is the area once it is locked.
use Rattle.std.specs.Prelude.{ℕ, ◌+◌, ◌==◌, ◌&&◌, ◌||◌, not, nat_le, Bool, true, false, if◌then◌else◌, bit_and}
use Rattle.chip_words.specs.declared.sizes.Size.{Size}
use Rattle.chip_words.specs.declared.accesses.Kind.{Kind}
use Rattle.chip_words.specs.declared.accesses.Kind.TheVariants.{Fetch}
use Rattle.chip_words.specs.declared.accesses.Agent.{Agent}
use Rattle.chip_words.specs.declared.accesses.Agent.TheVariants.{Cpu, Boot}
use Rattle.chip_words.specs.declared.seals.Seal.{Seal}
use Rattle.chip_words.specs.Addresses.{MPUIPC0, MPUIPSEGB1, MPUIPSEGB2, register_address}
use Rattle.chip_words.specs.Bits.{has_bit, with_part}
use Rattle.chip_words.specs.Seals.{between, is_in, nowhere}
use Rattle.chip_words.specs.Segments.{border, border_bits}

pub record Encap : Type 0 where
  pub mpuipc0 : ℕ
  -- the second border, and the first
  pub mpuipsegb2 : ℕ
  pub mpuipsegb1 : ℕ

abbrev pub first_encap : Encap
first_encap = record { mpuipc0 = 0; mpuipsegb2 = 0; mpuipsegb1 = 0 }

-- a BOR alone resets the registers
abbrev pub encap_at_reset : Bool → Encap → Encap
encap_at_reset is_bor encap = if is_bor then first_encap else encap

-- The bits of MPUIPC0: a violation asks for a reset, the area is there, and the registers are locked.

abbrev pub MPUIPVS : ℕ
MPUIPVS = 5

abbrev pub MPUIPENA : ℕ
MPUIPENA = 6

abbrev pub MPUIPLOCK : ℕ
MPUIPLOCK = 7

abbrev pub is_enabled : Encap → Bool
is_enabled encap = has_bit encap.mpuipc0 MPUIPENA

abbrev pub is_locked : Encap → Bool
is_locked encap = has_bit encap.mpuipc0 MPUIPLOCK

-- The area, and the seal.

-- the area: where it is enabled, main FRAM between the two borders
unfoldable pub area : Encap → Seal
area encap = if is_enabled encap then between (border encap.mpuipsegb1) (border encap.mpuipsegb2) else nowhere

-- the seal: the area where it is locked too
abbrev pub seal : Encap → Seal
seal encap = if is_locked encap then area encap else nowhere

-- Rights.

-- the area begins with so many bytes whose code has no right to data of the area
abbrev pub bytes_without_data : ℕ
bytes_without_data = 8

-- the instructions at an address of the area may read and write there
abbrev pub has_data_right : Encap → ℕ → Bool
has_data_right encap ia = is_in (area encap) ia && nat_le (border encap.mpuipsegb1 + bytes_without_data) ia

-- an agent has the right to an address of the area: that of the processor goes by the address of its instruction's first
-- word, and the boot has every right. An entry, DMA and the debugger have none
abbrev pub has_area_right : Encap → Agent → Kind → Bool
has_area_right encap (Cpu ia) Fetch = is_in (area encap) ia
has_area_right encap (Cpu ia) kind = has_data_right encap ia
has_area_right encap Boot kind = true
has_area_right encap who kind = false

-- the encapsulation allows an access
unfoldable pub allows : Encap → Agent → Kind → ℕ → Bool
allows encap who kind at = not (is_in (area encap) at) || has_area_right encap who kind

-- Registers.

-- the word of the register at an even address
unfoldable pub encap_word : Encap → ℕ → ℕ
encap_word encap at =
    if at == MPUIPC0 then encap.mpuipc0
    else if at == MPUIPSEGB2 then encap.mpuipsegb2
    else if at == MPUIPSEGB1 then encap.mpuipsegb1
    else 0

-- the bits of MPUIPC0 that are kept, 7:5
abbrev pub kept_of_mpuipc0 : ℕ
kept_of_mpuipc0 = 0xE0

-- a write is to the register, and the latch of the MPU's password and MPUIPLOCK let it through
abbrev pub takes : Encap → Bool → ℕ → ℕ → Bool
takes encap is_open register at = register_address at == register && is_open && not (is_locked encap)

-- the registers behind a write, by the latch of the MPU's password
unfoldable pub encap_written : Encap → Bool → ℕ → Size → ℕ → Encap
encap_written encap is_open at size value = record {
  mpuipc0 = (if takes encap is_open MPUIPC0 at then bit_and (with_part size at encap.mpuipc0 value) kept_of_mpuipc0
      else encap.mpuipc0);
  mpuipsegb2 = (if takes encap is_open MPUIPSEGB2 at then border_bits (with_part size at encap.mpuipsegb2 value)
      else encap.mpuipsegb2);
  mpuipsegb1 = (if takes encap is_open MPUIPSEGB1 at then border_bits (with_part size at encap.mpuipsegb1 value)
      else encap.mpuipsegb1);
}

-- the registers as a boot installs them, from the words of MPUIPC0, MPUIPSEGB2 and MPUIPSEGB1
abbrev pub installed : ℕ → ℕ → ℕ → Encap
installed control second first = record {
  mpuipc0 = bit_and control kept_of_mpuipc0;
  mpuipsegb2 = border_bits second;
  mpuipsegb1 = border_bits first;
}

-- The kept set.

-- a write set MPUIPLOCK, with MPUIPENA set
abbrev pub is_sealing : Encap → Encap → Bool
is_sealing before after = not (is_locked before) && is_locked after && is_enabled after

-- the addresses that stay secret behind a write: those of the seal, where the write set it, and else those from before
abbrev pub kept_after : Seal → Encap → Encap → Seal
kept_after kept before after = if is_sealing before after then seal after else kept
