-- A channel behind transfers, and the addresses of the next one.
use Rattle.std.specs.Prelude.{◌≡◌, ◌<◌, ℕ, zero, suc, ◌+◌, ◌-◌, ◌*◌, ◌/◌, ◌%◌, ◌^◌, ◌==◌, if◌then◌else◌}
use Rattle.chip_words.specs.declared.sizes.Size.TheVariants.{Word}
use Rattle.chip_words.specs.Channel.{Channel, DMADSTBYTE, DMADSTINCR, DMASRCBYTE, DMASRCINCR}
use Rattle.dma_unit.specs.declared.transfers.Move.{Move}
use Rattle.dma_unit.specs.Transfers.{bytes_of, channel_transferred, move_of, width_by}

-- a channel behind so many transfers
unfoldable pub behind_transfers : ℕ → Channel → Channel
behind_transfers zero channel = channel
behind_transfers (suc n) channel = channel_transferred (behind_transfers n channel)

-- an address behind so many transfers, by its field of CTL and the bytes of each: 2 steps down, 3 steps up, and 0 and 1
-- leave it
abbrev pub address_behind : ℕ → ℕ → ℕ → ℕ → ℕ
address_behind way bytes k at =
    if way == 2 then (at + (0x100000 - bytes) * k) % 0x100000
    else if way == 3 then (at + bytes * k) % 0x100000
    else at

-- the fields of CTL by which the addresses step

abbrev pub source_way : Channel → ℕ
source_way channel = channel.ctl / 2 ^ DMASRCINCR % 4

abbrev pub destination_way : Channel → ℕ
destination_way channel = channel.ctl / 2 ^ DMADSTINCR % 4

-- each address steps by its own field and its own width, modulo 2^20, and no width changes, until the working size is
-- used up
abbrev pub AddressesStep : Type 0
AddressesStep =
    (channel : Channel) (k : ℕ) → channel.source < 0x100000 → channel.destination < 0x100000 → k < channel.size →
    move_of (behind_transfers k channel) ≡ record (move_of channel) {
      from = address_behind (source_way channel) (bytes_of (width_by DMASRCBYTE channel)) k channel.source;
      to = address_behind (destination_way channel) (bytes_of (width_by DMADSTBYTE channel)) k channel.destination;
    }

-- it copies words, and both of its addresses step up
pub record CopiesWordsUpward (channel : Channel) : Type 0 where
  pub source_up : source_way channel ≡ 3
  pub destination_up : destination_way channel ≡ 3
  pub source_words : width_by DMASRCBYTE channel ≡ Word
  pub destination_words : width_by DMADSTBYTE channel ≡ Word

-- a word is moved from one address to another
abbrev pub word_move : ℕ → ℕ → Move
word_move from to = record { from = from; to = to; read = Word; write = Word }

-- so these addresses step up by 2 with each transfer
abbrev pub AddressesStepUp : Type 0
AddressesStepUp =
    (channel : Channel) (k : ℕ) → CopiesWordsUpward channel →
    channel.source < 0x100000 → channel.destination < 0x100000 → k < channel.size →
    move_of (behind_transfers k channel)
    ≡ word_move ((channel.source + 2 * k) % 0x100000) ((channel.destination + 2 * k) % 0x100000)
