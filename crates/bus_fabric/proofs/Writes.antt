-- A whole memory behind writes of its parts.
use Rattle.std.proofs.Common.{◌≡◌, ℕ, ◌≤◌, ◌<◌, ◌∙◌, refl, sym, List, length, ap}
use Rattle.std.specs.Prelude.{if◌then◌else◌, slice_index}
use Rattle.memory_map.specs.declared.TheConstants.{INFO_START, INFO_END, SRAM_START, SRAM_END, MAIN_START, MAIN_END}
use Rattle.chip_words.specs.Map.{is_fram, is_sram}
use Rattle.chip_words.specs.Memory.{memory_size}
use Rattle.bus_fabric.specs.Memory.{first_memory, first_byte, erased_byte, fram_copied, no_bytes, sram_filled}
use Rattle.bus_fabric.proofs.MemoryBy.{is_memory_by, slice_index-replicate}
use Rattle.bus_fabric.proofs.Places.{IsWritten, byte_of_all, byte_of_fram, byte_of_sram, is_told}

size_of_memory : memory_size ≡ MAIN_END
unfolding memory_size
size_of_memory = refl

-- the addresses from `low` up to `high` were written
pub record Writes (low high : ℕ) (byte : ℕ → ℕ) (old new : List ℕ) : Type 0 where
  pub inside : (at : ℕ) → low ≤ at → at < high → slice_index new at ≡ byte at
  pub below : (at : ℕ) → at < low → slice_index new at ≡ slice_index old at
  pub above : (at : ℕ) → high ≤ at → slice_index new at ≡ slice_index old at

at_one : {low high : ℕ} {byte : ℕ → ℕ} {old new : List ℕ} → Writes low high byte old new → (at : ℕ) → IsWritten low high at (slice_index old at) (byte at) (slice_index new at)
at_one writes at = record { inside = writes.inside at; below = writes.below at; above = writes.above at }

pub fills_sram : (fill : ℕ) (old new : List ℕ) → length new ≡ MAIN_END → Writes SRAM_START SRAM_END (λ at. fill) old new → new ≡ sram_filled fill old
fills_sram fill old new whole sram =
    is_memory_by (λ at. if is_sram at then fill else slice_index old at) new (whole ∙ sym size_of_memory)
    (λ at within. byte_of_sram at (slice_index old at) fill (slice_index new at) (is_told at) (at_one sram at))

pub copies_fram : (bytes old half new : List ℕ) → length new ≡ MAIN_END → Writes INFO_START INFO_END (slice_index bytes) old half → Writes MAIN_START MAIN_END (slice_index bytes) half new → new ≡ fram_copied bytes old
copies_fram bytes old half new whole info main =
    is_memory_by (λ at. if is_fram at then slice_index bytes at else slice_index old at) new (whole ∙ sym size_of_memory)
    (λ at within. byte_of_fram at (slice_index old at) (slice_index bytes at) (slice_index half at) (slice_index new at) (is_told at) (at_one info at) (at_one main at))

pub is_first_memory : (fill : ℕ) (old first second new : List ℕ) → old ≡ no_bytes → length new ≡ MAIN_END → Writes INFO_START INFO_END (λ at. erased_byte) old first → Writes SRAM_START SRAM_END (λ at. fill) first second → Writes MAIN_START MAIN_END (λ at. erased_byte) second new → new ≡ first_memory fill
is_first_memory fill old first second new blank whole info sram main =
    is_memory_by (first_byte fill) new (whole ∙ sym size_of_memory)
    (λ at within. byte_of_all at (slice_index old at) erased_byte fill (slice_index first at) (slice_index second at) (slice_index new at) (is_told at) (at_one info at) (at_one sram at) (at_one main at)
    ∙ ap (λ byte. if is_fram at then erased_byte else if is_sram at then fill else byte) (ap (λ bytes. slice_index bytes at) blank ∙ slice_index-replicate memory_size at))
