-- FRAM by the constants of the memory map.
use Rattle.std.proofs.Common.{◌≡◌, ℕ, zero, suc, true, false, not, ◌+◌, ◌-◌, ◌≤◌, ◌<◌, ◌⊎◌, min, max, cond, arith}
use Rattle.std.specs.List.{count_by, range_with_len}
use Rattle.std.proofs.lemmas.Bool.Decides.{nat_tests}
use Rattle.std.proofs.lemmas.List.Sums.{sum_by-cons}
use Rattle.chip_words.specs.Map.{is_fram, region_at}
use Rattle.memory_map.specs.declared.TheConstants.{INFO_START, INFO_END, MAIN_START, MAIN_END}

-- what the test of an address tells, in the form that `grind` takes
abbrev pub IsTold : ℕ → Type 0
IsTold at = ((is_fram at ≡ true) × (INFO_START ≤ at) × (at < INFO_END)) ⊎ ((is_fram at ≡ true) × (MAIN_START ≤ at) × (at < MAIN_END)) ⊎ ((is_fram at ≡ false) × (at < INFO_START)) ⊎ ((is_fram at ≡ false) × (INFO_END ≤ at) × (at < MAIN_START)) ⊎ ((is_fram at ≡ false) × (MAIN_END ≤ at))

pub is_fram_tells : (at : ℕ) → IsTold at
unfolding is_fram region_at
is_fram_tells at = grind (arith, nat_tests)

-- how many of the addresses from one on lie from `low` up to `high`
abbrev pub overlap : ℕ → ℕ → ℕ → ℕ → ℕ
overlap at n low high = min (at + n) high - max at low

off_fram_step : (at n later : ℕ) → IsTold at → later + overlap (at + 1) n INFO_START INFO_END + overlap (at + 1) n MAIN_START MAIN_END ≡ n → cond (not (is_fram at)) 1 0 + later + overlap at (suc n) INFO_START INFO_END + overlap at (suc n) MAIN_START MAIN_END ≡ suc n
off_fram_step at n later told h = grind arith

-- an address lies off FRAM, or in one of its two parts
pub count_by-off_fram : (at n : ℕ) → count_by (λ a. not (is_fram a)) (range_with_len at n) + overlap at n INFO_START INFO_END + overlap at n MAIN_START MAIN_END ≡ n
count_by-off_fram at zero = omega arith
count_by-off_fram at (suc n) =
    let first = sum_by-cons (λ a. cond (not (is_fram a)) 1 0) at (range_with_len (at + 1) n) in
    let later = count_by-off_fram (at + 1) n in
    let told = is_fram_tells at in
    rw first (off_fram_step at n _ told later)
