-- FRAM and SRAM by the constants of the memory map.
use Rattle.std.proofs.Common.{◌≡◌, ℕ, ◌+◌, ◌%◌, true, false, ◌≤◌, ◌<◌, ◌⊎◌, arith}
use Rattle.std.specs.Prelude.{IsTrue, if◌then◌else◌}
use Rattle.std.proofs.lemmas.Bool.Decides.{nat_tests}
use Rattle.chip_words.specs.Map.{has_bytes, is_fram, is_sram, region_at}
use Rattle.memory_map.specs.declared.TheConstants.{INFO_START, INFO_END, SRAM_START, SRAM_END, MAIN_START, MAIN_END}

-- what the tests of an address tell, in the form that `grind` takes
abbrev pub IsTold : ℕ → Type 0
IsTold at =
    ((is_fram at ≡ true) × (is_sram at ≡ false) × (INFO_START ≤ at) × (at < INFO_END))
    ⊎ ((is_fram at ≡ true) × (is_sram at ≡ false) × (MAIN_START ≤ at) × (at < MAIN_END))
    ⊎ ((is_fram at ≡ false) × (is_sram at ≡ true) × (SRAM_START ≤ at) × (at < SRAM_END))
    ⊎ ((is_fram at ≡ false) × (is_sram at ≡ false) × (at < INFO_START))
    ⊎ ((is_fram at ≡ false) × (is_sram at ≡ false) × (INFO_END ≤ at) × (at < SRAM_START))
    ⊎ ((is_fram at ≡ false) × (is_sram at ≡ false) × (SRAM_END ≤ at) × (at < MAIN_START))
    ⊎ ((is_fram at ≡ false) × (is_sram at ≡ false) × (MAIN_END ≤ at))

pub is_told : (at : ℕ) → IsTold at
unfolding is_fram is_sram region_at
is_told at = grind (arith, nat_tests)

-- all memory lies below its end
pub memory_is_low : (at : ℕ) → IsTrue (has_bytes (region_at at)) → at < MAIN_END
unfolding region_at
memory_is_low at h = grind (arith, nat_tests)

-- and so does the byte behind an even address of it
pub words_are_low : (at : ℕ) → IsTrue (has_bytes (region_at at)) → at % 2 ≡ 0 → at + 2 ≤ MAIN_END
unfolding region_at
words_are_low at h even = grind (arith, nat_tests)

-- One address, whose byte was `before`, behind a write of the addresses from `low` up to `high`, where it is `written`.
pub record IsWritten (low high at before written after : ℕ) : Type 0 where
  pub inside : low ≤ at → at < high → after ≡ written
  pub below : at < low → after ≡ before
  pub above : high ≤ at → after ≡ before

-- behind a write of SRAM
pub byte_of_sram : (at before written after : ℕ) → IsTold at → IsWritten SRAM_START SRAM_END at before written after → after ≡ (if is_sram at then written else before)
byte_of_sram at before written after told sram = grind (arith, nat_tests)

-- behind a write of FRAM
pub byte_of_fram : (at before written half after : ℕ) → IsTold at → IsWritten INFO_START INFO_END at before written half → IsWritten MAIN_START MAIN_END at half written after → after ≡ (if is_fram at then written else before)
byte_of_fram at before written half after told info main = grind (arith, nat_tests)

-- behind a write of FRAM and SRAM
pub byte_of_all : (at before erased fill first second after : ℕ) → IsTold at → IsWritten INFO_START INFO_END at before erased first → IsWritten SRAM_START SRAM_END at first fill second → IsWritten MAIN_START MAIN_END at second erased after → after ≡ (if is_fram at then erased else if is_sram at then fill else before)
byte_of_all at before erased fill first second after told info sram main = grind (arith, nat_tests)
