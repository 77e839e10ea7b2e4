-- What a sink over a writer is.
use Rattle.std.specs.Prelude.{ℕ, List, Option}
use Rattle.bench_io.specs.declared.writer_sink.WriterSink.{WriterSink}

-- the bytes that its writer holds, where the writer tells
abbrev pub held : {W : Type 0} → (W → Option (List ℕ)) → WriterSink W → Option (List ℕ)
held contents sink = contents sink.out

-- how many puts failed
abbrev pub fault_count : {W : Type 0} → WriterSink W → ℕ
fault_count sink = sink.faults
