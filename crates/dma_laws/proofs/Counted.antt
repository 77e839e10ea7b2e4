-- What a channel counts.
use Rattle.std.proofs.Common.{◌⊎◌, inl, inr, List, [], ◌∷◌, ◌≡◌, ◌<◌, ◌≤◌, ℕ, zero, suc, ◌+◌, ◌-◌, ◌*◌, ◌/◌, ◌%◌, ◌^◌, ◌==◌, Bool, true, false, arith, refl, sym, ap, ◌∙◌, if◌then◌else◌}
use Rattle.std.proofs.lemmas.Bool.{cases_lt}
use Rattle.std.proofs.lemmas.Bool.Decides.{nat_tests}
use Rattle.chip_words.specs.declared.sizes.Size.{Size}
use Rattle.chip_words.specs.declared.sizes.Size.TheVariants.{Byte, Word, Addr}
use Rattle.chip_words.specs.Addresses.{register_address}
use Rattle.chip_words.specs.Bits.{bit_of, has_bit, with_part}
use Rattle.chip_words.specs.Channel.{Channel, DMADSTBYTE, DMADSTINCR, DMASRCBYTE, DMASRCINCR, channel_written, controlled, enabled_by, first_channel, is_enabled, mode, started, stored_word, triggered, with_channel_word, with_ctl}
use Rattle.dma_unit.specs.Transfers.{bytes_of, channel_passed, channel_transferred, counted, ended, ended_where_empty, goes_on, is_due, rested, stepped_by, width_by}
use Rattle.dma_laws.specs.Iterated.{AddressesStep, AddressesStepUp, address_behind, behind_transfers, destination_way, source_way}
use Rattle.dma_laws.specs.Waits.{KeepsWithin, TransfersEnd, TransfersLowerWaiting, TriggersMakeFewTransfers, TriggersMakeFewWait, WaitingIsWithin, WaitsWithin, transfers_in}

-- ---- what waits is within the size

either_within :
    (test : Bool) (one other : Channel) → WaitsWithin one → WaitsWithin other →
    WaitsWithin (if test then one else other)
either_within true one other h k = h
either_within false one other h k = k

triggered_within : KeepsWithin triggered
unfolding triggered
triggered_within channel within = grind (arith, nat_tests)

ended_within : (channel : Channel) → channel.waiting ≤ 0 → WaitsWithin (ended channel)
ended_within channel none = by_mode (goes_on channel)
  where
    by_mode : (goes : Bool) → (if goes then channel.sz else channel.waiting) ≤ channel.sz
    by_mode true = omega arith
    by_mode false = omega arith

empty_within : (channel : Channel) → WaitsWithin channel → WaitsWithin (ended_where_empty channel)
empty_within channel within = by_test (channel.size == 0) refl
  where
    by_test : (test : Bool) → (channel.size == 0) ≡ test → WaitsWithin (if test then ended channel else channel)
    by_test true is_empty = ended_within channel (grind (arith, nat_tests))
    by_test false is_not = within

transferred_within : KeepsWithin channel_transferred
unfolding channel_transferred
transferred_within channel within = empty_within (counted channel) (omega arith)

controlled_within : (word : ℕ) → KeepsWithin (controlled word)
unfolding controlled
controlled_within word channel within =
    either_within _ (triggered (enabled_by word channel)) (enabled_by word channel)
    (triggered_within (enabled_by word channel) enabled) enabled
  where
    enabled : WaitsWithin (enabled_by word channel)
    enabled =
        either_within _ _ (with_ctl word (record channel { waiting = 0 }))
        (either_within (is_enabled channel) (with_ctl word channel) (with_ctl word (started channel)) within
        (omega arith))
        (omega arith)

written_within : (at : ℕ) (size : Size) (value : ℕ) → KeepsWithin (channel_written at size value)
unfolding channel_written
written_within at size value channel within =
    let register = register_address at in
    either_within _ _ (with_channel_word register (with_part size at (stored_word channel register) value) channel)
    (controlled_within (with_part size at channel.ctl value) channel within) within

pub waiting_is_within : WaitingIsWithin
unfolding first_channel
waiting_is_within = record {
  reset = omega arith;
  trigger = triggered_within;
  transfer = transferred_within;
  write = written_within;
  choice = λ trigger channel within. within;
  flag = λ channel within. within;
  pass = λ channel within. within;
}

pub triggers_make_few_wait : TriggersMakeFewWait
unfolding triggered
triggers_make_few_wait channel none = grind (arith, nat_tests)

-- ---- transfers lower it

ended_waiting : (channel : Channel) → mode channel < 6 → (ended channel).waiting ≡ channel.waiting
ended_waiting channel small = grind (arith, nat_tests)

empty_waiting : (channel : Channel) → mode channel < 6 → (ended_where_empty channel).waiting ≡ channel.waiting
empty_waiting channel small = by_test (channel.size == 0)
  where
    by_test : (test : Bool) → (if test then ended channel else channel).waiting ≡ channel.waiting
    by_test true = ended_waiting channel small
    by_test false = refl

pub transfers_lower_waiting : TransfersLowerWaiting
unfolding channel_transferred
transfers_lower_waiting channel small = empty_waiting (counted channel) small

-- ---- behind transfers that aren't the last

-- nothing is refilled while some transfers are left
transferred_by_count : (channel : Channel) → 1 < channel.size → channel_transferred channel ≡ rested (counted channel)
unfolding channel_transferred
transferred_by_count channel more = by_test (channel.size - 1 == 0) refl
  where
    by_test :
        (test : Bool) → (channel.size - 1 == 0) ≡ test →
        rested (if test then ended (counted channel) else counted channel) ≡ rested (counted channel)
    by_test true is_empty = absurd (grind (arith, nat_tests))
    by_test false is_not = refl

record AreCounted (n : ℕ) (channel after : Channel) : Type 0 where
  ctl : after.ctl ≡ channel.ctl
  size : after.size + n ≡ channel.size
  waiting : n ≤ channel.waiting → after.waiting + n ≡ channel.waiting

counted_behind : (n : ℕ) (channel : Channel) → n < channel.size → AreCounted n channel (behind_transfers n channel)
unfolding behind_transfers
counted_behind zero channel more = record { ctl = refl; size = omega arith; waiting = λ h. omega arith }
counted_behind (suc n) channel more =
    let before = counted_behind n channel (omega arith) in
    let step = transferred_by_count (behind_transfers n channel) (omega (arith, before.size)) in
    record {
      ctl = ap (λ c. c.ctl) step ∙ before.ctl;
      size = rw step (omega (arith, before.size));
      waiting = λ h. rw step (omega (arith, before.waiting (omega arith)));
    }

none_due : (channel : Channel) → channel.waiting ≡ 0 → is_due channel ≡ false
none_due channel none = grind (arith, nat_tests)

none_left :
    (n : ℕ) (channel : Channel) → mode channel < 6 → WaitsWithin channel → channel.waiting ≡ n →
    (behind_transfers n channel).waiting ≡ 0
unfolding behind_transfers
none_left zero channel small within all = all
none_left (suc n) channel small within all =
    let before = counted_behind n channel (omega arith) in
    let one : (behind_transfers n channel).waiting + n ≡ channel.waiting = before.waiting (omega arith) in
    let same : mode (behind_transfers n channel) ≡ mode channel = ap (λ ctl. ctl / 2 ^ 12 % 8) before.ctl in
    let last = transfers_lower_waiting (behind_transfers n channel) (omega (arith, same)) in
    omega (arith, last, one)

pub transfers_end : TransfersEnd
transfers_end channel small within =
    let none = none_left channel.waiting channel small within refl in
    record { waiting = none; due = none_due (behind_transfers channel.waiting channel) none }

-- ---- the transfers of a trigger

-- what a channel keeps behind a trigger: nothing waits, or no more than the size in a mode that doesn't go on by itself
abbrev Ends : Channel → Type 0
Ends channel = (channel.waiting ≡ 0) ⊎ ((mode channel < 6) × (channel.waiting ≤ channel.size))

ends-channel_transferred :
    (channel : Channel) → mode channel < 6 → WaitsWithin channel → Ends (channel_transferred channel)
ends-channel_transferred channel small within =
    let less = transfers_lower_waiting channel small in
    elim (cases_lt 1 channel.size) as (λ _. Ends (channel_transferred channel)) [
      | inl more ↦
          let same : mode (channel_transferred channel) ≡ mode channel = ap mode (transferred_by_count channel more) in
          inr (omega (arith, same), transferred_within channel within)
      | inr last ↦ inl (omega (arith, less))
    ]

-- a tick that the channel may own, where no more transfers follow it than wait
own_tick :
    (more : List Bool) (channel : Channel) →
    ((after : Channel) → Ends after → transfers_in more after ≤ after.waiting) →
    (test : Bool) → is_due channel ≡ test → Ends channel →
    bit_of test + transfers_in more (if test then channel_transferred channel else channel) ≤ channel.waiting
own_tick more channel few false not_due ends = omega (arith, few channel ends)
own_tick more channel few true due (inl none) = absurd (grind (arith, nat_tests))
own_tick more channel few true due (inr (small, within)) =
    let less = transfers_lower_waiting channel small in
    let some : 0 < channel.waiting = grind (arith, nat_tests) in
    let rest = few (channel_transferred channel) (ends-channel_transferred channel small within) in
    omega (arith, less, rest)

-- it makes no more transfers than wait
few_transfers :
    (ticks : List Bool) (channel : Channel) → Ends channel → transfers_in ticks channel ≤ channel.waiting
unfolding transfers_in
few_transfers [] channel ends = omega arith
few_transfers (false ∷ more) channel ends = omega (arith, few_transfers more (channel_passed channel) ends)
few_transfers (true ∷ more) channel ends = own_tick more channel (few_transfers more) (is_due channel) refl ends

triggered_mode : (channel : Channel) → mode (triggered channel) ≡ mode channel
unfolding triggered
triggered_mode channel = refl

pub triggers_make_few_transfers : TriggersMakeFewTransfers
triggers_make_few_transfers ticks channel small none =
    let same : mode (triggered channel) ≡ mode channel = triggered_mode channel in
    let within = triggered_within channel (omega arith) in
    let few = few_transfers ticks (triggered channel) (inr (omega (arith, same), within)) in
    omega (arith, few, triggers_make_few_wait channel none)

-- ---- addresses

no_step : (way : ℕ) (size : Size) (at : ℕ) → at < 0x100000 → address_behind way (bytes_of size) 0 at ≡ at
no_step way Byte at small = grind (arith, nat_tests)
no_step way Word at small = grind (arith, nat_tests)
no_step way Addr at small = grind (arith, nat_tests)

one_step :
    (way : ℕ) (size : Size) (k at : ℕ) →
    stepped_by way (bytes_of size) (address_behind way (bytes_of size) k at)
    ≡ address_behind way (bytes_of size) (suc k) at
one_step way Byte k at = grind (arith, nat_tests)
one_step way Word k at = grind (arith, nat_tests)
one_step way Addr k at = grind (arith, nat_tests)

-- the source and the destination behind so many transfers
record AreStepped (k : ℕ) (channel after : Channel) : Type 0 where
  source :
      after.source
      ≡ address_behind (source_way channel) (bytes_of (width_by DMASRCBYTE channel)) k channel.source
  destination :
      after.destination
      ≡ address_behind (destination_way channel) (bytes_of (width_by DMADSTBYTE channel)) k channel.destination

-- a width by CTL alone
abbrev width : ℕ → ℕ → Size
width bit ctl = if has_bit ctl bit then Byte else Word

stepped_behind :
    (k : ℕ) (channel : Channel) → channel.source < 0x100000 → channel.destination < 0x100000 → k < channel.size →
    AreStepped k channel (behind_transfers k channel)
unfolding behind_transfers
stepped_behind zero channel source destination more = record {
  source = sym (no_step (source_way channel) (width_by DMASRCBYTE channel) channel.source source);
  destination =
      sym (no_step (destination_way channel) (width_by DMADSTBYTE channel) channel.destination destination);
}
stepped_behind (suc k) channel source destination more =
    let before = counted_behind k channel (omega arith) in
    let at = stepped_behind k channel source destination (omega arith) in
    let mid = behind_transfers k channel in
    let step = transferred_by_count mid (omega (arith, before.size)) in
    record {
      source =
          ap (λ c. c.source) step
          ∙ ap (λ ctl. stepped_by (ctl / 2 ^ DMASRCINCR % 4) (bytes_of (width DMASRCBYTE ctl)) mid.source) before.ctl
          ∙ ap (stepped_by (source_way channel) (bytes_of (width_by DMASRCBYTE channel))) at.source
          ∙ one_step (source_way channel) (width_by DMASRCBYTE channel) k channel.source;
      destination =
          ap (λ c. c.destination) step
          ∙ ap (λ ctl. stepped_by (ctl / 2 ^ DMADSTINCR % 4) (bytes_of (width DMADSTBYTE ctl)) mid.destination)
          before.ctl
          ∙ ap (stepped_by (destination_way channel) (bytes_of (width_by DMADSTBYTE channel))) at.destination
          ∙ one_step (destination_way channel) (width_by DMADSTBYTE channel) k channel.destination;
    }

pub addresses_step : AddressesStep
addresses_step channel k source destination more =
    let before = counted_behind k channel more in
    let at = stepped_behind k channel source destination more in
    λ i. record {
      from = at.source i;
      to = at.destination i;
      read = ap (width DMASRCBYTE) before.ctl i;
      write = ap (width DMADSTBYTE) before.ctl i;
    }

stepped_up :
    (way : ℕ) (size : Size) (k at : ℕ) → way ≡ 3 → size ≡ Word →
    address_behind way (bytes_of size) k at ≡ (at + 2 * k) % 0x100000
stepped_up way size k at up words =
    ap (λ w. address_behind w (bytes_of size) k at) up ∙ ap (λ s. address_behind 3 (bytes_of s) k at) words

pub addresses_step_up : AddressesStepUp
addresses_step_up channel k up source destination more =
    let from = stepped_up _ _ k channel.source up.source_up up.source_words in
    let to = stepped_up _ _ k channel.destination up.destination_up up.destination_words in
    addresses_step channel k source destination more
    ∙ (λ i. record { from = from i; to = to i; read = up.source_words i; write = up.destination_words i })
