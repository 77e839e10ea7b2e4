use Rattle.std.proofs.Common.{refl}
use Rattle.toml.specs.View.{table_view}
use Rattle.stimulus.proofs.FileLemmas.{bench_of_file-no_document, bench_of_file-root}
use Rattle.stimulus.proofs.reading.read_bench.Goals as goal

pub returns-in-Ok : goal.returns-in-Ok
returns-in-Ok c = record {
  bench = rw (bench_of_file-root c.args.bytes.now (table_view c.in-Ok.root) c.in-Ok.ensures.ok.0 c.in-Ok.ensures.ok.1) c.bench_in.ensures;
}

pub returns-else-is_memory : goal.returns-else-is_memory
returns-else-is_memory c =
    let none = bench_of_file-no_document c.args.bytes.now (c.in-Err.ensures.refused (λ memory. let held = c.is_memory.ensures.1 memory in cc)) in
    record { bench = λ _. rw none refl }
