use Rattle.stimulus.specs.Stimulus.{bench_of_file}
use Rattle.std.proofs.Common.{◌∙◌, ap, sym, refl, inl}
use Rattle.capsule.proofs.Calls.{file-no_bench}
use Rattle.capsule.proofs.runs.load_bench.Goals as goal

pub returns-in-Err-clause-ended : goal.returns-in-Err-clause-ended
returns-in-Err-clause-ended g c = λ next sink. inl (c.in-Err.ensures.ended, refl)

pub returns-in-Ok-parse_bench-clause-read : goal.returns-in-Ok-parse_bench-clause-read
returns-in-Ok-parse_bench-clause-read g c = record {
  bytes = c.in-Ok.bytes.items;
  read = c.in-Ok.ensures.read;
  judged = ap bench_of_file (sym c.as_slice.ensures.value) ∙ c.in-Ok-parse_bench.ensures.bench;
}

pub returns-clause-ended : goal.returns-clause-ended
returns-clause-ended g c =
    file-no_bench _ _ _ c.in-Ok.bytes.items _ c.in-Ok.ensures.read (rw c.as_slice.ensures.value at c.in-Err-parse_bench.ensures.refused)
