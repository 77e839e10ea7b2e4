-- Which channel of DMA is due, and what a transfer makes of it (SLAU367, DMA controller). That a transfer takes the bus for
-- two ticks, and the rest of a burst, are this project's own.
use Rattle.std.specs.Prelude.{ℕ, zero, suc, ◌+◌, ◌-◌, ◌/◌, ◌%◌, ◌^◌, ◌==◌, ◌&&◌, nat_le, nat_lt, Bool, true, if◌then◌else◌, List, [], ◌∷◌, map, Option, Some, None, bit_and, bit_or}
use Rattle.chip_words.specs.declared.sizes.Size.{Size}
use Rattle.chip_words.specs.declared.sizes.Size.TheVariants.{Byte, Word}
use Rattle.dma_unit.specs.declared.transfers.Move.{Move}
use Rattle.chip_words.specs.Bits.{has_bit}
use Rattle.chip_words.specs.Channel.{Channel, DMADSTBYTE, DMADSTINCR, DMAEN, DMAIFG, DMASRCBYTE, DMASRCINCR, is_enabled, mode, refilled}
use Rattle.chip_words.specs.Dma.{Dma, at_channel}

-- in the modes 2, 3, 6 and 7 a channel rests between its bursts of four transfers
abbrev pub has_bursts : Channel → Bool
has_bursts channel = nat_le 2 (mode channel % 4)

-- transfers wait, the channel is enabled, and it doesn't rest
abbrev pub is_due : Channel → Bool
is_due channel =
    nat_lt 0 channel.waiting && is_enabled channel && (if has_bursts channel then channel.rest == 0 else true)

-- the least channel that is due, where the list begins with this number
abbrev pub due_from : ℕ → List Channel → Option ℕ
due_from n [] = None
due_from n (channel ∷ more) = if is_due channel then Some n else due_from (n + 1) more

unfoldable pub due : Dma → Option ℕ
due dma = due_from 0 dma.channels

-- the width of an access, where a bit of CTL chooses bytes
abbrev pub width_by : ℕ → Channel → Size
width_by bit channel = if has_bit channel.ctl bit then Byte else Word

-- the working addresses, and the widths of the two accesses
abbrev pub move_of : Channel → Move
move_of channel = record {
  from = channel.source;
  to = channel.destination;
  read = width_by DMASRCBYTE channel;
  write = width_by DMADSTBYTE channel;
}

abbrev pub bytes_of : Size → ℕ
bytes_of Byte = 1
bytes_of size = 2

-- an address behind a transfer, by a field of CTL: 2 steps down, 3 steps up, 0 and 1 leave it
abbrev pub stepped_by : ℕ → ℕ → ℕ → ℕ
stepped_by way bytes at =
    if way == 2 then (at + (0x100000 - bytes)) % 0x100000
    else if way == 3 then (at + bytes) % 0x100000
    else at

-- the addresses step, and one transfer less is left and waits
abbrev pub counted : Channel → Channel
counted channel = record channel {
  source = stepped_by (channel.ctl / 2 ^ DMASRCINCR % 4) (bytes_of (width_by DMASRCBYTE channel)) channel.source;
  destination = stepped_by (channel.ctl / 2 ^ DMADSTINCR % 4) (bytes_of (width_by DMADSTBYTE channel)) channel.destination;
  size = channel.size - 1;
  waiting = channel.waiting - 1;
  transfers = (channel.transfers + 1) % 4;
}

-- DMAIFG is set; the modes from 4 on leave DMAEN
abbrev pub flagged : Channel → Channel
flagged channel = record channel {
  ctl = (if nat_lt (mode channel) 4 then bit_and (bit_or channel.ctl (2 ^ DMAIFG)) (0xFFFF - 2 ^ DMAEN)
      else bit_or channel.ctl (2 ^ DMAIFG));
}

-- the modes 6 and 7 go on by themselves
abbrev pub goes_on : Channel → Bool
goes_on channel = nat_le 6 (mode channel)

-- the channel has made its last transfer
abbrev pub ended : Channel → Channel
ended channel = record (flagged (refilled channel)) {
  waiting = (if goes_on channel then channel.sz else channel.waiting);
}

abbrev pub ended_where_empty : Channel → Channel
ended_where_empty channel = if channel.size == 0 then ended channel else channel

-- a burst of four is over
abbrev pub rested : Channel → Channel
rested channel = record channel {
  rest = (if has_bursts channel && channel.transfers == 0 then 2 else channel.rest);
}

-- a channel behind one transfer, which does all this before its two accesses
unfoldable pub channel_transferred : Channel → Channel
channel_transferred channel = rested (ended_where_empty (counted channel))

-- the unit behind a transfer of a channel
unfoldable pub transferred : ℕ → Dma → Dma
transferred n dma = record dma { channels = at_channel n channel_transferred dma.channels }

-- what the transfer of the channel of a number moves
abbrev pub move_at : ℕ → List Channel → Option Move
move_at n [] = None
move_at zero (channel ∷ more) = Some (move_of channel)
move_at (suc n) (channel ∷ more) = move_at n more

-- a tick that DMA doesn't own lowers each rest
abbrev pub channel_passed : Channel → Channel
channel_passed channel = record channel { rest = channel.rest - 1 }

unfoldable pub passed : Dma → Dma
passed dma = record dma { channels = map channel_passed dma.channels }

-- nothing waits, and no channel rests
abbrev pub is_channel_quiet : Channel → Bool
is_channel_quiet channel = channel.waiting == 0 && channel.rest == 0

abbrev pub are_quiet : List Channel → Bool
are_quiet [] = true
are_quiet (channel ∷ more) = is_channel_quiet channel && are_quiet more

unfoldable pub is_quiet : Dma → Bool
is_quiet dma = are_quiet dma.channels
