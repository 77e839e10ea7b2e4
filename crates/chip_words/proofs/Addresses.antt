-- The addresses of the ports, as the table of units tells them.
use Rattle.std.proofs.Common.{◌≡◌, ℕ, ◌+◌, ◌<◌, ◌≤◌, Some, arith}
use Rattle.std.proofs.lemmas.Bool.Decides.{nat_tests}
use Rattle.chip_words.specs.declared.unit_names.UnitName.TheVariants.{Ports}
use Rattle.chip_words.specs.Addresses.{PAIN, PBIN, unit_at}

-- an address of the ports is that of one pair or of the other
pub in_ports : (at : ℕ) → unit_at at ≡ Some Ports → (PAIN ≤ at) × (at < PBIN + 0x20)
unfolding unit_at
in_ports at h = grind (arith, nat_tests)

pub unit_at_ports : (at : ℕ) → PAIN ≤ at → at < PBIN + 0x20 → unit_at at ≡ Some Ports
unfolding unit_at
unit_at_ports at low high = grind (arith, nat_tests)
