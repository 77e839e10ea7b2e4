-- Where no trigger came, each channel stays as it is.
use Rattle.std.proofs.Common.{◌≡◌, ℕ, ◌^◌, ◌%◌, ◌==◌, false, List, [], ◌∷◌, map, refl, ap}
use Rattle.std.proofs.Math.Nat.{zero-div}
use Rattle.chip_words.specs.Bits.{has_bit}
use Rattle.chip_words.specs.Channel.{Channel}
use Rattle.chip_words.specs.Dma.{Dma, dma_fired, fired_by}

no_bit : (k : ℕ) → has_bit 0 k ≡ false
no_bit k = ap (λ n. n % 2 == 1) (zero-div (2 ^ k))

pub none_fires : (channels : List Channel) → map (fired_by 0) channels ≡ channels
none_fires [] = refl
none_fires (channel ∷ more) = rw (no_bit channel.trigger, none_fires more) refl

pub nothing_fires : (dma : Dma) → dma_fired 0 dma ≡ dma
unfolding dma_fired
nothing_fires dma = ap {A = List Channel} {B = Dma} (λ channels. record dma { channels = channels }) (none_fires dma.channels)
