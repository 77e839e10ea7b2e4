-- Transfers between places of memory.
use Rattle.std.proofs.Common.{◌≡◌, ◌≢◌, ◌<◌, ◌≤◌, ◌⊎◌, ℕ, zero, suc, ◌+◌, ◌-◌, ◌*◌, ◌%◌, true, List, length, None, slice_index, arith, refl, ap, subst, sym, ◌∙◌, inl, inr, if◌then◌else◌}
use Rattle.std.proofs.lemmas.Bool.Decides.{nat_tests}
use Rattle.std.proofs.lemmas.Grind.{common_steps}
use Rattle.std.proofs.lemmas.Bool.{cases_lt}
use Rattle.chip_words.specs.declared.sizes.Size.{Size}
use Rattle.chip_words.specs.declared.sizes.Size.TheVariants.{Byte, Word, Addr}
use Rattle.chip_words.specs.declared.accesses.Kind.{Kind}
use Rattle.chip_words.specs.declared.accesses.Kind.TheVariants.{Read, Write}
use Rattle.chip_words.specs.declared.accesses.Agent.TheVariants.{Dma}
use Rattle.chip_words.specs.declared.regions.Region.{Region}
use Rattle.chip_words.specs.declared.regions.Region.TheVariants.{Periph, Info, Descriptor, Sram, Main, Vacant}
use Rattle.chip_words.specs.Access.{access, access_allowed, access_by_right, access_memory, access_present, access_region, is_over, listed, next_number, numbered, write_absent}
use Rattle.chip_words.specs.BusPart.{BusPart}
use Rattle.chip_words.specs.Channel.{Channel}
use Rattle.chip_words.specs.Map.{aligned, has_bytes, region_at}
use Rattle.chip_words.specs.Memory.{loaded, memory_size, stored}
use Rattle.chip_words.specs.Right.{right_of}
use Rattle.chip_words.specs.Units.{Units}
use Rattle.dma_unit.specs.Moves.{fitted_to, transfer}
use Rattle.dma_laws.specs.Copies.{AreCopied, ChannelsCopyWords, CanCopy, IsOpen, TransfersCopyWords, TransfersMoveAValue, behind_move, behind_moves, copied, moved, with_memory}
use Rattle.dma_laws.specs.Iterated.{CopiesWordsUpward, word_move}
use Rattle.dma_laws.proofs.Counted.{addresses_step_up}

-- ---- one transfer

in_memory :
    (region : Region) (kind : Kind) (at : ℕ) (size : Size) (value : ℕ) (part : BusPart) → has_bytes region ≡ true →
    access_region region kind at size value part ≡ access_memory kind at size value part
in_memory Periph kind at size value part holds = cc
in_memory Descriptor kind at size value part holds = cc
in_memory Vacant kind at size value part holds = cc
in_memory Info kind at size value part holds = refl
in_memory Sram kind at size value part holds = refl
in_memory Main kind at size value part holds = refl

open_access :
    (kind : Kind) (at : ℕ) (size : Size) (value : ℕ) (part : BusPart) → IsOpen part.units kind at →
    access_allowed Dma kind at size value part ≡ access_memory kind at size value part
open_access kind at size value part opened =
    ap (λ place. access_by_right place Dma kind at size value part) opened.right
    ∙ in_memory (region_at at) kind at size value part opened.bytes

read :
    (at : ℕ) (size : Size) (part : BusPart) → IsOpen part.units Read (aligned size at) →
    access Dma Read at size 0 part
    ≡ listed Dma Read (aligned size at) size true (access_memory Read (aligned size at) size 0 part)
unfolding access
read at size part opened =
    ap (listed Dma Read (aligned size at) size true) (open_access Read (aligned size at) size 0 part opened)

pub write :
    (at : ℕ) (size : Size) (value : ℕ) (part : BusPart) → part.budget ≡ None →
    IsOpen part.units Write (aligned size at) →
    access Dma Write at size value part
    ≡ listed Dma Write (aligned size at) size true (access_memory Write (aligned size at) size value (numbered part))
unfolding access
write at size value part whole opened =
    let place = aligned size at in
    ap
    (λ budget. if is_over budget (next_number part.writes) then write_absent Dma place size value (numbered part)
    else access_present Dma Write place size value (numbered part))
    whole
    ∙ ap (listed Dma Write place size true) (open_access Write place size value (numbered part) opened)

pub stored-fitted :
    (memory : List ℕ) (at : ℕ) (size : Size) (value : ℕ) →
    stored memory at size (fitted_to size value) ≡ stored memory at size value
unfolding stored
stored-fitted memory at Byte value =
    let same : value % 0x100 % 0x100 ≡ value % 0x100 = omega arith in rw same
stored-fitted memory at Word value = refl
stored-fitted memory at Addr value = refl

pub transfers_move_a_value : TransfersMoveAValue
unfolding transfer
transfers_move_a_value step part whole from to =
    let from_at = aligned step.read step.from in
    let to_at = aligned step.write step.to in
    let got = listed Dma Read from_at step.read true (access_memory Read from_at step.read 0 part) in
    let value = fitted_to step.write got.answer in
    let put =
    listed Dma Write to_at step.write true (access_memory Write to_at step.write value (numbered got.part)) in
    let read_first =
    ap (λ r. (access Dma Write step.to step.write (fitted_to step.write r.answer) r.part).part)
    (read step.from step.read part from) in
    let same : behind_move step part ≡ put.part =
    read_first ∙ ap (λ a. a.part) (write step.to step.write value got.part whole to) in
    let fitted = stored-fitted part.memory to_at step.write got.answer in
    same ∙ ap (λ memory. with_memory memory put.part part) fitted
    ∙ sym (ap (λ after. with_memory (moved step part.memory) after part) same)

-- ---- words in memory

in_range : (at : ℕ) → has_bytes (region_at at) ≡ true → at < 0x14000
unfolding region_at
in_range at holds = grind (arith, nat_tests)

-- memory with the word of one place at another
abbrev with_word : List ℕ → ℕ → ℕ → List ℕ
with_word memory from to = stored memory to Word (loaded memory from Word)

length-with_word : (memory : List ℕ) (from to : ℕ) → length (with_word memory from to) ≡ length memory
unfolding stored
length-with_word memory from to = grind (arith, common_steps)

word_low :
    (memory : List ℕ) (from to : ℕ) → to + 1 < length memory → slice_index memory from < 0x100 →
    slice_index (with_word memory from to) to ≡ slice_index memory from
unfolding stored loaded
word_low memory from to within byte = grind (arith, common_steps)

word_high :
    (memory : List ℕ) (from to : ℕ) → to + 1 < length memory → slice_index memory from < 0x100 →
    slice_index memory (from + 1) < 0x100 →
    slice_index (with_word memory from to) (to + 1) ≡ slice_index memory (from + 1)
unfolding stored loaded
word_high memory from to within low high = grind (arith, common_steps)

word_other :
    (memory : List ℕ) (from to at : ℕ) → at ≢ to → at ≢ to + 1 →
    slice_index (with_word memory from to) at ≡ slice_index memory at
unfolding stored
word_other memory from to at not_low not_high = grind (arith, common_steps)

-- ---- many transfers

memory_ends : memory_size ≡ 0x14000
unfolding memory_size
memory_ends = refl

-- what the bytes of memory are behind copies
record AreWords (n source destination : ℕ) (before after : List ℕ) : Type 0 where
  length : length after ≡ length before
  bytes : (k : ℕ) → k < 2 * n → slice_index after (destination + k) ≡ slice_index before (source + k)
  below : (at : ℕ) → at < destination → slice_index after at ≡ slice_index before at
  above : (at : ℕ) → destination + 2 * n ≤ at → slice_index after at ≡ slice_index before at

-- a byte of the source that is still to be copied stands
still_there :
    (n source destination at : ℕ) (before after : List ℕ) → AreWords n source destination before after →
    (destination ≤ source) ⊎ (source + 2 * suc n ≤ destination) → source + 2 * n ≤ at → at < source + 2 * suc n →
    slice_index after at ≡ slice_index before at
still_there n source destination at before after words (inl lower) from to = words.above at (omega arith)
still_there n source destination at before after words (inr higher) from to = words.below at (omega arith)

same_bytes :
    (new old : List ℕ) (at at' from from' : ℕ) → at ≡ at' → from ≡ from' →
    slice_index new at' ≡ slice_index old from' → slice_index new at ≡ slice_index old from
same_bytes new old at at' from from' same_at same_from same =
    ap (slice_index new) same_at ∙ same ∙ ap (slice_index old) (sym same_from)

-- the bytes behind the word that comes next, of which two are new
with_next :
    (n source destination : ℕ) (before mid after : List ℕ) → AreWords n source destination before mid →
    ((at : ℕ) → at ≢ destination + 2 * n → at ≢ destination + 2 * n + 1 → slice_index after at ≡ slice_index mid at) →
    slice_index after (destination + 2 * n) ≡ slice_index before (source + 2 * n) →
    slice_index after (destination + 2 * n + 1) ≡ slice_index before (source + 2 * n + 1) →
    (k : ℕ) → k < 2 * suc n → slice_index after (destination + k) ≡ slice_index before (source + k)
with_next n source destination before mid after words other low high k within =
    elim (cases_lt k (2 * n)) as (λ _. slice_index after (destination + k) ≡ slice_index before (source + k)) [
      | inl less ↦ other (destination + k) (omega arith) (omega arith) ∙ words.bytes k less
      | inr not_less ↦ new_bytes (cases_lt k (2 * n + 1)) not_less
    ]
  where
    new_bytes :
        (k < 2 * n + 1) ⊎ (2 * n + 1 ≤ k) → 2 * n ≤ k →
        slice_index after (destination + k) ≡ slice_index before (source + k)
    new_bytes (inl is_low) least = same_bytes after before _ _ _ _ (omega arith) (omega arith) low
    new_bytes (inr is_high) least = same_bytes after before _ _ _ _ (omega arith) (omega arith) high

one_more :
    (n source destination : ℕ) (before after : List ℕ) → AreWords n source destination before after →
    ((at : ℕ) → slice_index before at < 0x100) → (destination ≤ source) ⊎ (source + 2 * suc n ≤ destination) →
    destination + 2 * n + 1 < length before →
    AreWords (suc n) source destination before (with_word after (source + 2 * n) (destination + 2 * n))
one_more n source destination before after words small apart within =
    let from = source + 2 * n in
    let to = destination + 2 * n in
    let low = still_there n source destination from before after words apart (omega arith) (omega arith) in
    let high = still_there n source destination (from + 1) before after words apart (omega arith) (omega arith) in
    let small_low : slice_index after from < 0x100 = omega (arith, low, small from) in
    let small_high : slice_index after (from + 1) < 0x100 = omega (arith, high, small (from + 1)) in
    let inside : to + 1 < length after = omega (arith, words.length) in
    let other = word_other after from to in
    record {
      length = length-with_word after from to ∙ words.length;
      bytes =
          with_next n source destination before after (with_word after from to) words other
          (word_low after from to inside small_low ∙ low) (word_high after from to inside small_low small_high ∙ high);
      below = λ at h. other at (omega arith) (omega arith) ∙ words.below at h;
      above = λ at h. other at (omega arith) (omega arith) ∙ words.above at (omega arith);
    }

open_again :
    (a b : Units) (kind : Kind) (x y : ℕ) → a ≡ b → x ≡ y → IsOpen b kind y → IsOpen a kind x
open_again a b kind x y same_units same_place opened = record {
  bytes = ap (λ at. has_bytes (region_at at)) same_place ∙ opened.bytes;
  right =
      ap (λ units. right_of units Dma kind x) same_units ∙ ap (λ at. right_of b Dma kind at) same_place ∙ opened.right;
}

sooner :
    (n source destination : ℕ) → (destination ≤ source) ⊎ (source + 2 * suc n ≤ destination) →
    (destination ≤ source) ⊎ (source + 2 * n ≤ destination)
sooner n source destination (inl lower) = inl lower
sooner n source destination (inr higher) = inr (omega arith)

fewer :
    (n source destination : ℕ) (part : BusPart) → CanCopy (suc n) source destination part →
    CanCopy n source destination part
fewer n source destination part can = record {
  length = can.length;
  bytes = can.bytes;
  budget = can.budget;
  even_source = can.even_source;
  even_destination = can.even_destination;
  sources = λ k h. can.sources k (omega arith);
  destinations = λ k h. can.destinations k (omega arith);
  apart = sooner n source destination can.apart;
}

-- the bytes, and that nothing but memory and the accesses changes
record AreMoved (n source destination : ℕ) (before after : BusPart) : Type 0 where
  words : AreWords n source destination before.memory after.memory
  rest : after ≡ with_memory after.memory after before

word_moved :
    (from to : ℕ) (part : BusPart) → part.budget ≡ None → from % 2 ≡ 0 → to % 2 ≡ 0 → IsOpen part.units Read from →
    IsOpen part.units Write to →
    behind_move (word_move from to) part
    ≡ with_memory (with_word part.memory from to) (behind_move (word_move from to) part) part
word_moved from to part whole even_from even_to opened_from opened_to =
    let same_from : from - from % 2 ≡ from = omega arith in
    let same_to : to - to % 2 ≡ to = omega arith in
    let behind = λ (memory : List ℕ). with_memory memory (behind_move (word_move from to) part) part in
    transfers_move_a_value (word_move from to) part whole
    (open_again part.units part.units Read (from - from % 2) from refl same_from opened_from)
    (open_again part.units part.units Write (to - to % 2) to refl same_to opened_to)
    ∙ ap (λ at. behind (stored part.memory (to - to % 2) Word (loaded part.memory at Word))) same_from
    ∙ ap (λ at. behind (stored part.memory at Word (loaded part.memory from Word))) same_to

all_moved :
    (n source destination : ℕ) (part : BusPart) → CanCopy n source destination part →
    AreMoved n source destination part (copied n source destination part)
unfolding copied
all_moved zero source destination part can = record {
  words = record { length = refl; bytes = λ k h. absurd (omega arith); below = λ at h. refl; above = λ at h. refl };
  rest = refl;
}
all_moved (suc n) source destination part can =
    let before = all_moved n source destination part (fewer n source destination part can) in
    let from = source + 2 * n in
    let to = destination + 2 * n in
    let mid = copied n source destination part in
    let after = behind_move (word_move from to) mid in
    let same_units = ap (λ p. p.units) before.rest in
    let opened_to = can.destinations n (omega arith) in
    let within = in_range to opened_to.bytes in
    let step =
    word_moved from to mid (ap (λ p. p.budget) before.rest ∙ can.budget) (omega (arith, can.even_source))
    (omega (arith, can.even_destination))
    (open_again mid.units part.units Read from from same_units refl (can.sources n (omega arith)))
    (open_again mid.units part.units Write to to same_units refl opened_to) in
    let bytes =
    one_more n source destination part.memory mid.memory before.words can.bytes can.apart
    (omega (arith, within, can.length, memory_ends, can.even_destination)) in
    let same_memory = ap (λ p. p.memory) step in
    record {
      words = subst (AreWords (suc n) source destination part.memory) (sym same_memory) bytes;
      rest =
          step ∙ ap (with_memory (with_word mid.memory from to) after) before.rest
          ∙ ap (λ memory. with_memory memory after part) (sym same_memory);
    }

pub transfers_copy_words : TransfersCopyWords
transfers_copy_words n source destination part can =
    let all = all_moved n source destination part can in
    record { bytes = all.words.bytes; below = all.words.below; above = all.words.above; rest = all.rest }

-- ---- the transfers of a channel

channel_moves :
    (n : ℕ) (channel : Channel) (part : BusPart) → CopiesWordsUpward channel → n ≤ channel.size →
    CanCopy n channel.source channel.destination part →
    behind_moves n channel part ≡ copied n channel.source channel.destination part
unfolding behind_moves copied
channel_moves zero channel part up fits can = refl
channel_moves (suc n) channel part up fits can =
    let from = channel.source + 2 * n in
    let to = channel.destination + 2 * n in
    let low : from < 0x14000 = in_range from (can.sources n (omega arith)).bytes in
    let high : to < 0x14000 = in_range to (can.destinations n (omega arith)).bytes in
    let same_from : from % 0x100000 ≡ from = omega arith in
    let same_to : to % 0x100000 ≡ to = omega arith in
    let before =
    channel_moves n channel part up (omega arith) (fewer n channel.source channel.destination part can) in
    let next = addresses_step_up channel n up (omega arith) (omega arith) (omega arith) in
    ap (λ step. behind_move step (behind_moves n channel part)) next
    ∙ ap (λ at. behind_move (word_move at (to % 0x100000)) (behind_moves n channel part)) same_from
    ∙ ap (λ at. behind_move (word_move from at) (behind_moves n channel part)) same_to
    ∙ ap (behind_move (word_move from to)) before

pub channels_copy_words : ChannelsCopyWords
channels_copy_words n channel part up fits can =
    subst (AreCopied n channel.source channel.destination part) (sym (channel_moves n channel part up fits can))
    (transfers_copy_words n channel.source channel.destination part can)
