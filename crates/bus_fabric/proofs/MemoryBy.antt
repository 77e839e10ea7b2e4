-- A memory by the bytes of its addresses.
use Rattle.std.proofs.Common.{◌≡◌, ℕ, zero, suc, ◌<◌, ◌∙◌, refl, sym, List, length, replicate, arith}
use Rattle.std.specs.Prelude.{slice_index}
use Rattle.std.proofs.lemmas.List.{same_lists}
use Rattle.std.proofs.lemmas.List.FromFn.{get_or-map-range_with_len, length-map-range_with_len}
use Rattle.std.proofs.lemmas.Grind.{get_or_default_zero}
use Rattle.chip_words.specs.Memory.{memory_size}
use Rattle.bus_fabric.specs.Memory.{memory_by}

pub length-memory_by : (byte : ℕ → ℕ) → length (memory_by byte) ≡ memory_size
unfolding memory_by
length-memory_by byte = length-map-range_with_len byte 0 memory_size

pub slice_index-memory_by : (byte : ℕ → ℕ) (at : ℕ) → at < memory_size → slice_index (memory_by byte) at ≡ byte at
unfolding memory_by
slice_index-memory_by byte at within = get_or-map-range_with_len byte 0 memory_size at at 0 within (omega arith)

-- a list of the right length is the memory that has its bytes
pub is_memory_by : (byte : ℕ → ℕ) (memory : List ℕ) → length memory ≡ memory_size → ((at : ℕ) → at < memory_size → slice_index memory at ≡ byte at) → memory ≡ memory_by byte
is_memory_by byte memory size holds =
    same_lists memory (memory_by byte) (size ∙ sym (length-memory_by byte))
    (λ k d h. let within : k < memory_size = omega (arith, size) in get_or_default_zero memory k d h ∙ holds k within ∙ sym (slice_index-memory_by byte k within) ∙ sym (get_or_default_zero (memory_by byte) k d (omega (arith, length-memory_by byte))))

-- two memories with the same bytes
pub same_memory : (one other : ℕ → ℕ) → ((at : ℕ) → at < memory_size → one at ≡ other at) → memory_by one ≡ memory_by other
same_memory one other same =
    is_memory_by other (memory_by one) (length-memory_by one) (λ at within. slice_index-memory_by one at within ∙ same at within)

-- each place of a list of zeros is 0, and so is each place behind it
pub slice_index-replicate : (n at : ℕ) → slice_index (replicate n 0) at ≡ 0
slice_index-replicate zero at = refl
slice_index-replicate (suc n) zero = refl
slice_index-replicate (suc n) (suc at) = slice_index-replicate n at
