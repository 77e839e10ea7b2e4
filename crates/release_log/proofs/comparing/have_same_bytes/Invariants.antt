use Rattle.std.proofs.Common.{◌≡◌, ◌<◌, ◌≤◌, ℕ, slice_index}
use Rattle.release_log.proofs.comparing.have_same_bytes.Given as goal

-- the bytes below this address are equal
abbrev pub invariant-loop-at : goal.invariant-loop-at
invariant-loop-at l = record {
  equal : (at : ℕ) → l.low ≤ at → at < l.at → slice_index (l.one).bus.memory at ≡ slice_index (l.other).bus.memory at;
}
