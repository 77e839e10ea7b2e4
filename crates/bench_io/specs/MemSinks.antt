-- What a sink in memory is.
use Rattle.std.specs.Prelude.{ℕ, List, []}

-- the bytes written, how many fit, the numbers of the calls that are to fail, and the counts of
-- calls and of faults
pub record MemSinkState : Type 0 where
  pub bytes : List ℕ
  pub room : ℕ
  pub failing : List ℕ
  pub calls : ℕ
  pub faults : ℕ

-- a sink that has taken no byte yet
abbrev pub empty_sink : ℕ → MemSinkState
empty_sink room = record {
  bytes = [];
  room = room;
  failing = [];
  calls = 0;
  faults = 0;
}
