-- All of memory at once: what it holds at first, and after many of its bytes were written.
use Rattle.std.specs.Prelude.{◌≡◌, ◌<◌, ◌≤◌, ℕ, List, map, replicate, slice_index, if◌then◌else◌}
use Rattle.std.specs.List.{range_with_len}
use Rattle.chip_words.specs.Map.{is_fram, is_sram}
use Rattle.chip_words.specs.Memory.{memory_size}

-- the memory in which each address has the byte that is told
unfoldable pub memory_by : (ℕ → ℕ) → List ℕ
memory_by byte = map byte (range_with_len 0 memory_size)

-- a memory that is 0 all over
abbrev pub no_bytes : List ℕ
no_bytes = replicate memory_size 0

-- what FRAM holds where nothing was written
abbrev pub erased_byte : ℕ
erased_byte = 0xFF

-- the byte of an address where nothing was written: FRAM is erased, SRAM is filled, and where there is no memory there is 0
abbrev pub first_byte : ℕ → ℕ → ℕ
first_byte fill at = if is_fram at then erased_byte else if is_sram at then fill else 0

abbrev pub first_memory : ℕ → List ℕ
first_memory fill = memory_by (first_byte fill)

-- a memory whose SRAM was filled
abbrev pub sram_filled : ℕ → List ℕ → List ℕ
sram_filled fill memory = memory_by (λ at. if is_sram at then fill else slice_index memory at)

-- a memory whose FRAM was given the bytes of another
abbrev pub fram_copied : List ℕ → List ℕ → List ℕ
fram_copied bytes memory = memory_by (λ at. if is_fram at then slice_index bytes at else slice_index memory at)

-- two memories have the same bytes at the addresses from low up to and without high
abbrev pub AgreeWithin : ℕ → ℕ → List ℕ → List ℕ → Type 0
AgreeWithin low high bytes memory = (at : ℕ) → low ≤ at → at < high → slice_index memory at ≡ slice_index bytes at
