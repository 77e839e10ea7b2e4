-- A tick that DMA doesn't own leaves quiet channels as they are.
use Rattle.std.proofs.Common.{◌≡◌, true, List, [], ◌∷◌, map, refl, ap, arith}
use Rattle.chip_words.specs.Channel.{Channel}
use Rattle.chip_words.specs.Dma.{Dma}
use Rattle.dma_unit.specs.Transfers.{are_quiet, channel_passed, is_channel_quiet, is_quiet, passed}

-- a quiet channel has no rest to lower
rests_not : (channel : Channel) → is_channel_quiet channel ≡ true → channel_passed channel ≡ channel
rests_not channel quiet = grind (arith, quiet)

none_rests : (channels : List Channel) → are_quiet channels ≡ true → map channel_passed channels ≡ channels
none_rests [] quiet = refl
none_rests (channel ∷ more) quiet = grind (arith, quiet, rests_not channel, none_rests more)

pub nothing_passes : (dma : Dma) → is_quiet dma ≡ true → passed dma ≡ dma
unfolding is_quiet passed
nothing_passes dma quiet = ap {A = List Channel} {B = Dma} (λ channels. record dma { channels = channels }) (none_rests dma.channels quiet)
