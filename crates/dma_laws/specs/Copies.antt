-- What transfers leave in memory.
use Rattle.std.specs.Prelude.{◌≡◌, ◌<◌, ◌≤◌, ◌⊎◌, ℕ, zero, suc, ◌+◌, ◌*◌, ◌%◌, true, List, length, None, slice_index}
use Rattle.chip_words.specs.declared.accesses.Kind.{Kind}
use Rattle.chip_words.specs.declared.accesses.Kind.TheVariants.{Read, Write}
use Rattle.chip_words.specs.declared.accesses.Agent.TheVariants.{Dma}
use Rattle.chip_words.specs.BusPart.{BusPart}
use Rattle.chip_words.specs.Channel.{Channel}
use Rattle.chip_words.specs.Map.{aligned, has_bytes, region_at}
use Rattle.chip_words.specs.Memory.{loaded, memory_size, stored}
use Rattle.chip_words.specs.declared.segments.Right.TheVariants.{Yes}
use Rattle.chip_words.specs.Right.{right_of}
use Rattle.chip_words.specs.Script.{run}
use Rattle.chip_words.specs.Units.{Units}
use Rattle.dma_unit.specs.declared.transfers.Move.{Move}
use Rattle.dma_unit.specs.Moves.{transfer}
use Rattle.dma_unit.specs.Transfers.{move_of}
use Rattle.dma_laws.specs.Iterated.{CopiesWordsUpward, behind_transfers, word_move}

-- an address holds a byte of FRAM or SRAM, and DMA has the right to this access there
pub record IsOpen (units : Units) (kind : Kind) (at : ℕ) : Type 0 where
  pub bytes : has_bytes (region_at at) ≡ true
  pub right : right_of units Dma kind at ≡ Yes

-- the bus part behind a transfer
abbrev pub behind_move : Move → BusPart → BusPart
behind_move step part = (run Dma (transfer step) part).part

-- a bus part with this memory, and with the accesses and the number of writes of another one
abbrev pub with_memory : List ℕ → BusPart → BusPart → BusPart
with_memory memory after part = record part { memory = memory; writes = after.writes; accesses = after.accesses }

-- memory with the value that stands where a transfer reads, stored where it writes
abbrev pub moved : Move → List ℕ → List ℕ
moved step memory =
    stored memory (aligned step.write step.to) step.write (loaded memory (aligned step.read step.from) step.read)

-- a transfer between places of memory, where no power is cut, changes memory so, the list of accesses and the number of
-- writes, and nothing else
abbrev pub TransfersMoveAValue : Type 0
TransfersMoveAValue =
    (step : Move) (part : BusPart) → part.budget ≡ None →
    IsOpen part.units Read (aligned step.read step.from) → IsOpen part.units Write (aligned step.write step.to) →
    behind_move step part ≡ with_memory (moved step part.memory) (behind_move step part) part

-- the bus part behind so many transfers of words, from addresses that step up by 2
unfoldable pub copied : ℕ → ℕ → ℕ → BusPart → BusPart
copied zero source destination part = part
copied (suc n) source destination part =
    behind_move (word_move (source + 2 * n) (destination + 2 * n)) (copied n source destination part)

-- so many words can be copied: all places are open, and none is written before it is read
pub record CanCopy (n source destination : ℕ) (part : BusPart) : Type 0 where
  -- a chip's memory has a byte for each address
  pub length : length part.memory ≡ memory_size
  pub bytes : (at : ℕ) → slice_index part.memory at < 0x100
  -- no power is cut
  pub budget : part.budget ≡ None
  pub even_source : source % 2 ≡ 0
  pub even_destination : destination % 2 ≡ 0
  pub sources : (k : ℕ) → k < n → IsOpen part.units Read (source + 2 * k)
  pub destinations : (k : ℕ) → k < n → IsOpen part.units Write (destination + 2 * k)
  pub apart : (destination ≤ source) ⊎ (source + 2 * n ≤ destination)

-- the bytes of so many words stand at the destination as they stood at the source, and nothing else has changed but the
-- list of accesses and the number of writes
pub record AreCopied (n source destination : ℕ) (before after : BusPart) : Type 0 where
  pub bytes :
      (k : ℕ) → k < 2 * n → slice_index after.memory (destination + k) ≡ slice_index before.memory (source + k)
  pub below : (at : ℕ) → at < destination → slice_index after.memory at ≡ slice_index before.memory at
  pub above : (at : ℕ) → destination + 2 * n ≤ at → slice_index after.memory at ≡ slice_index before.memory at
  pub rest : after ≡ with_memory after.memory after before

-- transfers of words, one after another, copy a stretch of memory
abbrev pub TransfersCopyWords : Type 0
TransfersCopyWords =
    (n source destination : ℕ) (part : BusPart) → CanCopy n source destination part →
    AreCopied n source destination part (copied n source destination part)

-- the bus part behind so many transfers of a channel
unfoldable pub behind_moves : ℕ → Channel → BusPart → BusPart
behind_moves zero channel part = part
behind_moves (suc n) channel part = behind_move (move_of (behind_transfers n channel)) (behind_moves n channel part)

-- and so do as many transfers of a channel, where its working size has them
abbrev pub ChannelsCopyWords : Type 0
ChannelsCopyWords =
    (n : ℕ) (channel : Channel) (part : BusPart) → CopiesWordsUpward channel → n ≤ channel.size →
    CanCopy n channel.source channel.destination part →
    AreCopied n channel.source channel.destination part (behind_moves n channel part)
