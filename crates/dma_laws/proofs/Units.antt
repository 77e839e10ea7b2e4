-- What waits in each channel of the unit.
use Rattle.std.proofs.Common.{ℕ, zero, suc, ◌-◌, ◌==◌, nat_le, nat_lt, Bool, true, false, List, [], ◌∷◌, map, Option, Some, None, if◌then◌else◌}
use Rattle.chip_words.specs.declared.sizes.Size.{Size}
use Rattle.chip_words.specs.Addresses.{DMA0CTL, DMACTL0, DMACTL1, DMACTL4, DMAIV, register_address}
use Rattle.chip_words.specs.Bits.{has_bit, with_part}
use Rattle.chip_words.specs.Channel.{Channel, channel_written, first_channel, triggered}
use Rattle.chip_words.specs.Dma.{CHANNEL_BYTES, Dma, at_channel, channels_written, dma_fired, dma_touched, dma_with_triggers, dma_written, fired_by, told_by, waiting_channel, with_triggers, without_flag}
use Rattle.dma_unit.specs.Transfers.{channel_passed, channel_transferred, passed, transferred}
use Rattle.dma_laws.specs.Waits.{EachWaitingIsWithin, EachWaitsWithin, KeepsEachWithin, KeepsWithin, WaitsWithin}
use Rattle.dma_laws.proofs.Counted.{waiting_is_within}

map_within :
    (change : Channel → Channel) → KeepsWithin change → (channels : List Channel) → EachWaitsWithin channels →
    EachWaitsWithin (map change channels)
map_within change keeps [] within = tt
map_within change keeps (channel ∷ more) within =
    (keeps channel within.0, map_within change keeps more within.1)

at_within :
    (n : ℕ) (change : Channel → Channel) → KeepsWithin change → (channels : List Channel) → EachWaitsWithin channels →
    EachWaitsWithin (at_channel n change channels)
at_within n change keeps [] within = tt
at_within zero change keeps (channel ∷ more) within = (keeps channel within.0, within.1)
at_within (suc n) change keeps (channel ∷ more) within = (within.0, at_within n change keeps more within.1)

triggers_within :
    (triggers : List ℕ) (channels : List Channel) → EachWaitsWithin channels →
    EachWaitsWithin (with_triggers triggers channels)
triggers_within [] channels within = within
triggers_within (trigger ∷ triggers) [] within = tt
triggers_within (trigger ∷ triggers) (channel ∷ more) within = (within.0, triggers_within triggers more within.1)

fired_within : (triggers : ℕ) → KeepsWithin (fired_by triggers)
fired_within triggers channel within = by_test (has_bit triggers channel.trigger)
  where
    by_test : (test : Bool) → WaitsWithin (if test then triggered channel else channel)
    by_test true = waiting_is_within.trigger channel within
    by_test false = within

either_within :
    (test : Bool) (one other : Dma) → EachWaitsWithin one.channels → EachWaitsWithin other.channels →
    EachWaitsWithin (if test then one else other).channels
either_within true one other h k = h
either_within false one other h k = k

written_within :
    (at : ℕ) (size : Size) (value : ℕ) (channels : List Channel) → EachWaitsWithin channels →
    EachWaitsWithin (channels_written at size value channels)
written_within at size value [] within = tt
written_within at size value (channel ∷ more) within =
    by_test (nat_lt at CHANNEL_BYTES) (waiting_is_within.write at size value channel within.0)
    (written_within (at - CHANNEL_BYTES) size value more within.1)
  where
    by_test :
        (test : Bool) → WaitsWithin (channel_written at size value channel) →
        EachWaitsWithin (channels_written (at - CHANNEL_BYTES) size value more) →
        EachWaitsWithin
        (if test then channel_written at size value channel ∷ more
        else channel ∷ channels_written (at - CHANNEL_BYTES) size value more)
    by_test true here there = (here, within.1)
    by_test false here there = (within.0, there)

told_within : (told : Option ℕ) → KeepsEachWithin (told_by told)
told_within (Some n) dma within = at_within n without_flag waiting_is_within.flag dma.channels within
told_within None dma within = within

touched_within : (at : ℕ) → KeepsEachWithin (λ dma. dma_touched dma at)
unfolding dma_touched
touched_within at dma within =
    either_within (register_address at == DMAIV) (told_by (waiting_channel dma) dma) dma
    (told_within (waiting_channel dma) dma within) within

unit_written_within : (at : ℕ) (size : Size) (value : ℕ) → KeepsEachWithin (λ dma. dma_written dma at size value)
unfolding dma_written
unit_written_within at size value dma within =
    either_within (nat_le DMA0CTL at)
    (record dma { channels = channels_written (at - DMA0CTL) size value dma.channels }) _
    (written_within (at - DMA0CTL) size value dma.channels within)
    (either_within (register_address at == DMACTL0) (dma_with_triggers at size value dma) _ chosen
    (either_within (register_address at == DMACTL1) (dma_with_triggers at size value dma) _ chosen
    (either_within (register_address at == DMACTL4) (record dma { dmactl4 = with_part size at dma.dmactl4 value })
    (dma_touched dma at) within (touched_within at dma within))))
  where
    chosen : EachWaitsWithin (dma_with_triggers at size value dma).channels
    chosen = triggers_within _ dma.channels within

first_within : WaitsWithin first_channel
first_within = waiting_is_within.reset

pub each_waiting_is_within : EachWaitingIsWithin
unfolding dma_fired transferred passed
each_waiting_is_within = record {
  reset = (first_within, (first_within, (first_within, tt)));
  triggers = λ triggers dma within. map_within (fired_by triggers) (fired_within triggers) dma.channels within;
  transfer = λ n dma within. at_within n channel_transferred waiting_is_within.transfer dma.channels within;
  read = touched_within;
  write = unit_written_within;
  pass = λ dma within. map_within channel_passed waiting_is_within.pass dma.channels within;
}
