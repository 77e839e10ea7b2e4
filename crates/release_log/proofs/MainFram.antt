-- The addresses of main FRAM hold bytes.
use Rattle.std.proofs.Common.{ℕ, ◌<◌, ◌≤◌, arith}
use Rattle.std.specs.Prelude.{IsTrue}
use Rattle.std.proofs.lemmas.Bool.Decides.{nat_tests}
use Rattle.chip_words.specs.Map.{has_bytes, region_at}
use Rattle.chip_words.specs.Seals.{BEHIND_MAIN_FRAM}
use Rattle.chip_words.specs.Segments.{MAIN_FRAM}

pub main_has_bytes : (at : ℕ) → MAIN_FRAM ≤ at → at < BEHIND_MAIN_FRAM → IsTrue (has_bytes (region_at at))
unfolding region_at
main_has_bytes at low high = grind (arith, nat_tests, low, high)
