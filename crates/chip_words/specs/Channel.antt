-- One channel of DMA (SLAU367, DMA controller): its registers, and what a trigger makes of it.
use Rattle.std.specs.Prelude.{ℕ, ◌+◌, ◌*◌, ◌/◌, ◌%◌, ◌^◌, ◌==◌, ◌&&◌, nat_lt, Bool, if◌then◌else◌, bit_and}
use Rattle.chip_words.specs.declared.sizes.Size.{Size}
use Rattle.chip_words.specs.Addresses.{register_address}
use Rattle.chip_words.specs.Bits.{has_bit, with_part}

pub record Channel : Type 0 where
  -- the number of the trigger that DMACTL0 or DMACTL1 chooses
  pub trigger : ℕ
  -- CTL without DMAREQ, which reads 0
  pub ctl : ℕ
  -- DMAxSA and DMAxDA, addresses of 20 bits, and DMAxSZ
  pub sa : ℕ
  pub da : ℕ
  pub sz : ℕ
  -- the working values, with which it transfers
  pub source : ℕ
  pub destination : ℕ
  pub size : ℕ
  -- how many transfers wait
  pub waiting : ℕ
  -- the transfers since DMAEN was set, modulo 4
  pub transfers : ℕ
  -- the ticks that are left to the processor before the next transfer of a burst
  pub rest : ℕ

-- every reset gives this too
unfoldable pub first_channel : Channel
first_channel = record {
  trigger = 0;
  ctl = 0;
  sa = 0;
  da = 0;
  sz = 0;
  source = 0;
  destination = 0;
  size = 0;
  waiting = 0;
  transfers = 0;
  rest = 0;
}

-- The distances of the registers from the channel's first address. Those of addresses have their bits 19:16 in a word of
-- their own.

abbrev pub CTL : ℕ
CTL = 0x00

abbrev pub SA : ℕ
SA = 0x02

abbrev pub SA_HIGH : ℕ
SA_HIGH = 0x04

abbrev pub DA : ℕ
DA = 0x06

abbrev pub DA_HIGH : ℕ
DA_HIGH = 0x08

abbrev pub SZ : ℕ
SZ = 0x0A

-- The bits of CTL that stand alone, and where its fields begin.

abbrev pub DMAREQ : ℕ
DMAREQ = 0

abbrev pub DMAIE : ℕ
DMAIE = 2

abbrev pub DMAIFG : ℕ
DMAIFG = 3

abbrev pub DMAEN : ℕ
DMAEN = 4

abbrev pub DMASRCBYTE : ℕ
DMASRCBYTE = 6

abbrev pub DMADSTBYTE : ℕ
DMADSTBYTE = 7

abbrev pub DMASRCINCR : ℕ
DMASRCINCR = 8

abbrev pub DMADSTINCR : ℕ
DMADSTINCR = 10

abbrev pub DMADT : ℕ
DMADT = 12

-- the bits of CTL that are kept: all but bit 15 and DMAREQ
abbrev pub kept_of_ctl : ℕ
kept_of_ctl = 0x7FFE

abbrev pub is_enabled : Channel → Bool
is_enabled channel = has_bit channel.ctl DMAEN

-- its interrupt: the flag and the bit that lets it ask for one
abbrev pub is_channel_waiting : Channel → Bool
is_channel_waiting channel = has_bit channel.ctl DMAIE && has_bit channel.ctl DMAIFG

-- how it transfers: 0 single, 1 block, 2 and 3 burst-block, and from 4 on the same, repeated
abbrev pub mode : Channel → ℕ
mode channel = channel.ctl / 2 ^ DMADT % 8

-- a trigger makes one transfer wait, and no whole block
abbrev pub is_single : Channel → Bool
is_single channel = mode channel % 4 == 0

-- a trigger makes transfers wait: one, or as many as there are left. While some wait it does nothing
unfoldable pub triggered : Channel → Channel
triggered channel = record channel {
  waiting = (if is_enabled channel && nat_lt 0 channel.size && channel.waiting == 0
      then (if is_single channel then 1 else channel.size)
      else channel.waiting);
}

-- the working values are copied from the registers
abbrev pub refilled : Channel → Channel
refilled channel = record channel { source = channel.sa; destination = channel.da; size = channel.sz }

-- the channel begins anew, where its DMAEN was set from 0
abbrev pub started : Channel → Channel
started channel = record (refilled channel) { waiting = 0; transfers = 0; rest = 0 }

abbrev pub with_ctl : ℕ → Channel → Channel
with_ctl word channel = record channel { ctl = bit_and word kept_of_ctl }

-- DMAEN of a write: it starts the channel where it was 0, and drops what waits where it is 0
abbrev pub enabled_by : ℕ → Channel → Channel
enabled_by word channel =
    if has_bit word DMAEN then (if is_enabled channel then with_ctl word channel else with_ctl word (started channel))
    else with_ctl word (record channel { waiting = 0 })

-- DMAREQ of a write is a trigger, where the channel's trigger has number 0
abbrev pub requested_by : ℕ → Channel → Channel
requested_by word channel = if has_bit word DMAREQ && channel.trigger == 0 then triggered channel else channel

-- a write of CTL: DMAREQ acts behind DMAEN
unfoldable pub controlled : ℕ → Channel → Channel
controlled word channel = requested_by word (enabled_by word channel)

-- the word of the register at an even distance, as it is stored
unfoldable pub stored_word : Channel → ℕ → ℕ
stored_word channel at =
    if at == CTL then channel.ctl
    else if at == SA then channel.sa % 0x10000
    else if at == SA_HIGH then channel.sa / 0x10000
    else if at == DA then channel.da % 0x10000
    else if at == DA_HIGH then channel.da / 0x10000
    else if at == SZ then channel.sz
    else 0

-- and as it reads: SZ is the working size while the channel is enabled
unfoldable pub channel_word : Channel → ℕ → ℕ
channel_word channel at = if at == SZ && is_enabled channel then channel.size else stored_word channel at

-- an address whose lower or higher word was written
abbrev pub with_low_word : ℕ → ℕ → ℕ
with_low_word word address = address / 0x10000 * 0x10000 + word

abbrev pub with_high_word : ℕ → ℕ → ℕ
with_high_word word address = word % 0x10 * 0x10000 + address % 0x10000

-- a channel behind a write of another register than CTL
abbrev pub with_channel_word : ℕ → ℕ → Channel → Channel
with_channel_word at word channel = record channel {
  sa = (if at == SA then with_low_word word channel.sa
      else if at == SA_HIGH then with_high_word word channel.sa
      else channel.sa);
  da = (if at == DA then with_low_word word channel.da
      else if at == DA_HIGH then with_high_word word channel.da
      else channel.da);
  sz = (if at == SZ then word else channel.sz);
}

-- a channel behind a write at a distance
unfoldable pub channel_written : ℕ → Size → ℕ → Channel → Channel
channel_written at size value channel =
    if register_address at == CTL then controlled (with_part size at channel.ctl value) channel
    else with_channel_word (register_address at) (with_part size at (stored_word channel (register_address at)) value) channel
