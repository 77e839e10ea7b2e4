-- What was read as a bench is what its file is.
use Rattle.std.proofs.Common.{◌≡◌, ◌≢◌, sym, ◌∙◌, Result, Ok, Err}
use Rattle.stimulus.specs.declared.refusals.BenchRefused.{BenchRefused}
use Rattle.stimulus.specs.declared.refusals.BenchError.{BenchError}
use Rattle.stimulus.specs.declared.refusals.BenchError.TheVariants.{Refused, NoMemory}
use Rattle.stimulus.specs.Stimulus.{Stimulus, with_error}

with_error-ok : (found : Result Stimulus BenchRefused) (bench : Stimulus) → Ok bench ≡ with_error found → found ≡ Ok bench
with_error-ok (Ok other) bench e = cc
with_error-ok (Err refusal) bench e = cc

with_error-err : (found : Result Stimulus BenchRefused) (refusal : BenchRefused) → Err (Refused refusal) ≡ with_error found → found ≡ Err refusal
with_error-err (Ok bench) refusal e = cc
with_error-err (Err other) refusal e = cc

-- a bench that was read
pub found-ok : (found : Result Stimulus BenchRefused) (answer : Result Stimulus BenchError) (bench : Stimulus) → answer ≡ Ok bench → (answer ≢ Err NoMemory → answer ≡ with_error found) → found ≡ Ok bench
found-ok found answer bench h read =
    let memory : answer ≢ Err NoMemory = λ e. cc in
    with_error-ok found bench (sym h ∙ read memory)

-- a refusal
pub found-err : (found : Result Stimulus BenchRefused) (answer : Result Stimulus BenchError) (refusal : BenchRefused) → answer ≡ Err (Refused refusal) → (answer ≢ Err NoMemory → answer ≡ with_error found) → found ≡ Err refusal
found-err found answer refusal h read =
    let memory : answer ≢ Err NoMemory = λ e. cc in
    with_error-err found refusal (sym h ∙ read memory)
