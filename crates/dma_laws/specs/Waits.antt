-- How many transfers wait: never more than the working size.
use Rattle.std.specs.Prelude.{◌≡◌, ◌<◌, ◌≤◌, ℕ, ◌+◌, ◌-◌, Bool, true, false, List, [], ◌∷◌, if◌then◌else◌}
use Rattle.chip_words.specs.declared.sizes.Size.{Size}
use Rattle.chip_words.specs.Bits.{bit_of}
use Rattle.chip_words.specs.Channel.{Channel, channel_written, first_channel, mode, triggered}
use Rattle.chip_words.specs.Dma.{Dma, dma_fired, dma_touched, dma_written, first_dma, without_flag}
use Rattle.dma_unit.specs.Transfers.{channel_passed, channel_transferred, is_due, passed, transferred}
use Rattle.dma_laws.specs.Iterated.{behind_transfers}

-- no more transfers wait than are left
abbrev pub WaitsWithin : Channel → Type 0
WaitsWithin channel = channel.waiting ≤ channel.size

-- that is kept by a function
abbrev pub KeepsWithin : (Channel → Channel) → Type 0
KeepsWithin change = (channel : Channel) → WaitsWithin channel → WaitsWithin (change channel)

-- all that makes a channel or changes it
pub record WaitingIsWithin : Type 0 where
  pub reset : WaitsWithin first_channel
  pub trigger : KeepsWithin triggered
  pub transfer : KeepsWithin channel_transferred
  pub write : (at : ℕ) (size : Size) (value : ℕ) → KeepsWithin (channel_written at size value)
  pub choice : (trigger : ℕ) → KeepsWithin (λ channel. record channel { trigger = trigger })
  pub flag : KeepsWithin without_flag
  pub pass : KeepsWithin channel_passed

-- that is so in each channel of the unit
abbrev pub EachWaitsWithin : List Channel → Type 0
EachWaitsWithin [] = Unit {0}
EachWaitsWithin (channel ∷ more) = WaitsWithin channel × EachWaitsWithin more

-- that is kept by a function of the unit
abbrev pub KeepsEachWithin : (Dma → Dma) → Type 0
KeepsEachWithin change = (dma : Dma) → EachWaitsWithin dma.channels → EachWaitsWithin (change dma).channels

-- all that makes the unit or changes it: a reset, triggers, a transfer, an access to its registers, and a tick that DMA
-- leaves to the processor
pub record EachWaitingIsWithin : Type 0 where
  pub reset : EachWaitsWithin first_dma.channels
  pub triggers : (triggers : ℕ) → KeepsEachWithin (dma_fired triggers)
  pub transfer : (n : ℕ) → KeepsEachWithin (transferred n)
  pub read : (at : ℕ) → KeepsEachWithin (λ dma. dma_touched dma at)
  pub write : (at : ℕ) (size : Size) (value : ℕ) → KeepsEachWithin (λ dma. dma_written dma at size value)
  pub pass : KeepsEachWithin passed

-- one trigger makes at most as many transfers wait as the size has, where none waited
abbrev pub TriggersMakeFewWait : Type 0
TriggersMakeFewWait = (channel : Channel) → channel.waiting ≡ 0 → (triggered channel).waiting ≤ channel.size

-- in the modes that don't go on by themselves one transfer less waits behind each
abbrev pub TransfersLowerWaiting : Type 0
TransfersLowerWaiting =
    (channel : Channel) → mode channel < 6 → (channel_transferred channel).waiting ≡ channel.waiting - 1

-- no transfer waits, so the channel isn't due
pub record HasNoneLeft (channel : Channel) : Type 0 where
  pub waiting : channel.waiting ≡ 0
  pub due : is_due channel ≡ false

-- and behind as many transfers as waited none is left
abbrev pub TransfersEnd : Type 0
TransfersEnd =
    (channel : Channel) → mode channel < 6 → WaitsWithin channel →
    HasNoneLeft (behind_transfers channel.waiting channel)

-- a channel behind a tick: one that is its own, if it is due, or one that DMA leaves to the processor
abbrev pub behind_tick : Bool → Channel → Channel
behind_tick true channel = if is_due channel then channel_transferred channel else channel
behind_tick false channel = channel_passed channel

-- the transfers of a tick
abbrev pub made_by : Bool → Channel → ℕ
made_by true channel = bit_of (is_due channel)
made_by false channel = 0

-- how many transfers it makes in some ticks, of which this list has those that it may own
unfoldable pub transfers_in : List Bool → Channel → ℕ
transfers_in [] channel = 0
transfers_in (own ∷ more) channel = made_by own channel + transfers_in more (behind_tick own channel)

-- one trigger makes at most as many transfers as the size has, in the modes that don't go on by themselves, whichever
-- ticks the channel may own
abbrev pub TriggersMakeFewTransfers : Type 0
TriggersMakeFewTransfers =
    (ticks : List Bool) (channel : Channel) → mode channel < 6 → channel.waiting ≡ 0 →
    transfers_in ticks (triggered channel) ≤ channel.size
