-- The three channels of DMA (SLAU367, DMA controller). Which trigger has which number is this project's own.
use Rattle.std.specs.Prelude.{ℕ, zero, suc, ◌+◌, ◌-◌, ◌*◌, ◌/◌, ◌%◌, ◌^◌, ◌==◌, nat_le, nat_lt, if◌then◌else◌, List, [], ◌∷◌, map, Option, Some, None, is_some, slice_index, bit_and}
use Rattle.chip_words.specs.declared.sizes.Size.{Size}
use Rattle.chip_words.specs.Addresses.{DMA0CTL, DMACTL0, DMACTL1, DMACTL4, DMAIV, register_address}
use Rattle.chip_words.specs.Bits.{bit_word, has_bit, with_part}
use Rattle.chip_words.specs.Channel.{Channel, DMAIFG, channel_word, channel_written, first_channel, is_channel_waiting, triggered}
use Rattle.chip_words.specs.InterruptLines.{DMA_LINE}

pub record Dma : Type 0 where
  pub channels : List Channel
  -- DMACTL4, which is stored
  pub dmactl4 : ℕ

abbrev pub first_dma : Dma
first_dma = record { channels = first_channel ∷ first_channel ∷ first_channel ∷ []; dmactl4 = 0 }

-- the channel of a number, changed
abbrev pub at_channel : ℕ → (Channel → Channel) → List Channel → List Channel
at_channel n change [] = []
at_channel zero change (channel ∷ more) = change channel ∷ more
at_channel (suc n) change (channel ∷ more) = channel ∷ at_channel n change more

-- Triggers.

-- each channel's trigger
abbrev pub triggers_of : List Channel → List ℕ
triggers_of channels = map (λ channel. channel.trigger) channels

-- the channels with these triggers
abbrev pub with_triggers : List ℕ → List Channel → List Channel
with_triggers [] channels = channels
with_triggers (trigger ∷ triggers) [] = []
with_triggers (trigger ∷ triggers) (channel ∷ more) = record channel { trigger = trigger } ∷ with_triggers triggers more

-- a channel behind some triggers, of which bit i is that of number i
abbrev pub fired_by : ℕ → Channel → Channel
fired_by triggers channel = if has_bit triggers channel.trigger then triggered channel else channel

unfoldable pub dma_fired : ℕ → Dma → Dma
dma_fired triggers dma = record dma { channels = map (fired_by triggers) dma.channels }

-- The interrupt.

-- the least channel that waits, where the list begins with this number
abbrev pub waiting_from : ℕ → List Channel → Option ℕ
waiting_from n [] = None
waiting_from n (channel ∷ more) = if is_channel_waiting channel then Some n else waiting_from (n + 1) more

abbrev pub waiting_channel : Dma → Option ℕ
waiting_channel dma = waiting_from 0 dma.channels

-- DMAIV: 2, 4 and 6 for the three channels
abbrev pub vector_number : Option ℕ → ℕ
vector_number (Some n) = 2 * (n + 1)
vector_number None = 0

-- the interrupt lines of this unit
abbrev pub dma_lines : Dma → ℕ
dma_lines dma = bit_word DMA_LINE (is_some (waiting_channel dma))

abbrev pub without_flag : Channel → Channel
without_flag channel = record channel { ctl = bit_and channel.ctl (0xFFFF - 2 ^ DMAIFG) }

-- the flag of the channel that DMAIV tells is cleared
abbrev pub told_by : Option ℕ → Dma → Dma
told_by (Some n) dma = record dma { channels = at_channel n without_flag dma.channels }
told_by None dma = dma

-- Registers.

-- each channel has so many bytes of addresses
abbrev pub CHANNEL_BYTES : ℕ
CHANNEL_BYTES = 0x10

-- the word at an even distance from the first address of the channels
abbrev pub channels_word : ℕ → List Channel → ℕ
channels_word at [] = 0
channels_word at (channel ∷ more) =
    if nat_lt at CHANNEL_BYTES then channel_word channel at else channels_word (at - CHANNEL_BYTES) more

-- the channels behind a write at such a distance
abbrev pub channels_written : ℕ → Size → ℕ → List Channel → List Channel
channels_written at size value [] = []
channels_written at size value (channel ∷ more) =
    if nat_lt at CHANNEL_BYTES then channel_written at size value channel ∷ more
    else channel ∷ channels_written (at - CHANNEL_BYTES) size value more

-- DMACTL0 has the triggers of the channels 0 and 1, and DMACTL1 that of channel 2
abbrev pub trigger_word : List ℕ → ℕ → ℕ
trigger_word triggers at =
    if at == DMACTL0 then slice_index triggers 0 + slice_index triggers 1 * 0x100 else slice_index triggers 2

-- the word of the register at an even address
unfoldable pub dma_word : Dma → ℕ → ℕ
dma_word dma at =
    if nat_le DMA0CTL at then channels_word (at - DMA0CTL) dma.channels
    else if at == DMACTL0 then trigger_word (triggers_of dma.channels) at
    else if at == DMACTL1 then trigger_word (triggers_of dma.channels) at
    else if at == DMACTL4 then dma.dmactl4
    else if at == DMAIV then vector_number (waiting_channel dma)
    else 0

-- an access to DMAIV clears the flag that it tells
unfoldable pub dma_touched : Dma → ℕ → Dma
dma_touched dma at = if register_address at == DMAIV then told_by (waiting_channel dma) dma else dma

-- a trigger has five bits
abbrev pub trigger_in : ℕ → ℕ
trigger_in byte = byte % 0x20

-- the triggers behind a write of DMACTL0 or DMACTL1
abbrev pub triggers_written : ℕ → ℕ → List ℕ → List ℕ
triggers_written at word triggers =
    if at == DMACTL0 then trigger_in word ∷ trigger_in (word / 0x100) ∷ slice_index triggers 2 ∷ []
    else slice_index triggers 0 ∷ slice_index triggers 1 ∷ trigger_in word ∷ []

abbrev pub dma_with_triggers : ℕ → Size → ℕ → Dma → Dma
dma_with_triggers at size value dma = record dma {
  channels = with_triggers (triggers_written (register_address at) (with_part size at (dma_word dma (register_address at)) value) (triggers_of dma.channels)) dma.channels;
}

-- the unit behind a write
unfoldable pub dma_written : Dma → ℕ → Size → ℕ → Dma
dma_written dma at size value =
    if nat_le DMA0CTL at then record dma { channels = channels_written (at - DMA0CTL) size value dma.channels }
    else if register_address at == DMACTL0 then dma_with_triggers at size value dma
    else if register_address at == DMACTL1 then dma_with_triggers at size value dma
    else if register_address at == DMACTL4 then record dma { dmactl4 = with_part size at dma.dmactl4 value }
    else dma_touched dma at
