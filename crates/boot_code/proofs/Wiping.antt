-- FRAM word by word.
use Rattle.std.proofs.Common.{◌≡◌, ◌<◌, ◌≢◌, ◌+◌, ◌%◌, ◌&&◌, ◌||◌, ℕ, List, [], ◌∷◌, true, length, slice_index, slice_set, zero, suc, arith, refl, ◌∙◌}
use Rattle.std.specs.Prelude.{nat_le, nat_lt}
use Rattle.std.proofs.lemmas.Bool.Decides.{nat_tests}
use Rattle.std.proofs.lemmas.List.{length-set}
use Rattle.chip_words.specs.declared.sizes.Size.TheVariants.{Word}
use Rattle.chip_words.specs.Map.{is_fram, region_at}
use Rattle.chip_words.specs.Memory.{memory_size, stored}
use Rattle.boot_code.specs.Boot.{INFORMATION_FRAM, LAST_OF_INFORMATION_FRAM, LAST_OF_MAIN_FRAM, WIPED}
use Rattle.boot_code.specs.Facts.{IsBlank, IsWiped}

pub fram-cases : (at : ℕ) → is_fram at ≡ (nat_le 0x1800 at && nat_lt at 0x1A00 || nat_le 0x4400 at && nat_lt at 0x14000)
unfolding is_fram region_at
fram-cases at = grind (arith, nat_tests)

pub fram-below : (at : ℕ) → is_fram at ≡ true → at < 0x14000
fram-below at f = grind (arith, nat_tests, fram-cases at)

pub fram-info : (at : ℕ) → is_fram at ≡ true → at < 0x4400 → at < 0x1A00
fram-info at f l = grind (arith, nat_tests, fram-cases at)

pub fram-next : (at : ℕ) → is_fram at ≡ true → at % 2 ≡ 0 → at ≢ LAST_OF_INFORMATION_FRAM → at ≢ LAST_OF_MAIN_FRAM → is_fram (at + 2) ≡ true
fram-next at f e n m = grind (arith, nat_tests, fram-cases at, fram-cases (at + 2))

set-wiped : (xs : List ℕ) (n v k : ℕ) → n < length xs → (k ≢ n → slice_index xs k ≡ v) → slice_index (slice_set xs n v) k ≡ v
set-wiped [] n v k l f = absurd (omega arith)
set-wiped (x ∷ xs) zero v zero l f = refl
set-wiped (x ∷ xs) zero v (suc k) l f = f (λ e. absurd (omega arith))
set-wiped (x ∷ xs) (suc n) v zero l f = f (λ e. absurd (omega arith))
set-wiped (x ∷ xs) (suc n) v (suc k) l f = set-wiped xs n v k (omega arith) (λ e. f (λ h. e (omega arith)))

-- a wiped word, the next one of FRAM
pub stored-wiped : (memory : List ℕ) (at : ℕ) → length memory ≡ memory_size → is_fram at ≡ true → at % 2 ≡ 0 → IsWiped memory at → IsWiped (stored memory at Word WIPED) (at + 2)
unfolding stored memory_size
stored-wiped memory at l f e w k g b =
    let low : at < 0x14000 = fram-below at f in
    let first : at < length memory = omega arith in
    let same : length (slice_set memory at 0xFF) ≡ length memory = length-set memory at 0xFF in
    let second : at + 1 < length (slice_set memory at 0xFF) = omega arith in
    set-wiped (slice_set memory at 0xFF) (at + 1) 0xFF k second (λ n. set-wiped memory at 0xFF k first (λ m. w k g (omega arith)))

pub stored-size : (memory : List ℕ) (at : ℕ) → length (stored memory at Word WIPED) ≡ length memory
unfolding stored
stored-size memory at = length-set (slice_set memory at 0xFF) (at + 1) 0xFF ∙ length-set memory at 0xFF

-- information FRAM is wiped
pub wiped-info : (memory : List ℕ) (at : ℕ) → at ≡ LAST_OF_INFORMATION_FRAM → IsWiped memory (at + 2) → IsWiped memory 0x4400
wiped-info memory at d w k g b = let i : k < 0x1A00 = fram-info k g b in w k g (omega arith)

-- and all of FRAM
pub wiped-main : (memory : List ℕ) (at : ℕ) → at ≡ LAST_OF_MAIN_FRAM → IsWiped memory (at + 2) → IsBlank memory
wiped-main memory at d w k g = let i : k < 0x14000 = fram-below k g in w k g (omega arith)

-- nothing lies below information FRAM
pub wiped-first : (memory : List ℕ) → IsWiped memory INFORMATION_FRAM
wiped-first memory k g b = absurd (grind (arith, nat_tests, fram-cases k))
