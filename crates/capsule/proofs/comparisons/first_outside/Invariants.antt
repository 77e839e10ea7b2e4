use Rattle.std.proofs.Common.{◌≡◌, ◌<◌, ℕ, true, false, slice_index}
use Rattle.chip_words.specs.Map.{is_fram}
use Rattle.chip_words.specs.Seals.{is_in}
use Rattle.capsule.proofs.comparisons.first_outside.Given as goal

-- the addresses below this one hold equal bytes
abbrev pub invariant-loop-at : goal.invariant-loop-at
invariant-loop-at l = record {
  equal : (lower : ℕ) → lower < l.at → is_fram lower ≡ true → is_in l.seal lower ≡ false → slice_index (l.a).bus.memory lower ≡ slice_index (l.b).bus.memory lower;
}
