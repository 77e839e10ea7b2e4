-- What a call writes once its files are judged, and the status with which it ends.
use Rattle.std.specs.Prelude.{◌≡◌, ℕ, List, Option}
use Rattle.bench_io.specs.Faults.{Rose}
use Rattle.bench_io.specs.Sinks.{AppendsFront, appended}
use Rattle.elf_image.specs.Image.{Segment}
use Rattle.stimulus.specs.Stimulus.{Stimulus}
use Rattle.trace_print.specs.declared.verdicts.Verdict.{Verdict}
use Rattle.trace_print.specs.declared.verdicts.Verdict.TheVariants.{Same}
use Rattle.stage_laws.specs.TwoRuns.{first_of}
use Rattle.stage_laws.specs.Verdicts.{IsVerdict}
use Rattle.capsule.specs.declared.statuses.Status.{Status}
use Rattle.capsule.specs.declared.statuses.Status.TheVariants.{Done, Differ, WriteFault, NoMemory}
use Rattle.capsule.specs.Output.{Task, Write, Compare}
use Rattle.capsule.specs.Pairs.{lines_before, pair_text}

-- what a sink shows: what was written, where it tells that, and how many of its calls failed
pub record SinkView : Type 0 where
  pub written : Option (List ℕ)
  pub faults : ℕ

abbrev pub sink_view : Option (List ℕ) → ℕ → SinkView
sink_view written faults = record { written = written; faults = faults }

-- a whole text was written
abbrev pub IsWhole : SinkView → SinkView → List ℕ → Type 0
IsWhole sink now text = now ≡ sink_view (appended sink.written text) sink.faults

-- what was written of a text
abbrev pub IsWritten : SinkView → SinkView → List ℕ → Status → Type 0
IsWritten sink now text Done = IsWhole sink now text
IsWritten sink now text WriteFault = AppendsFront sink.written now.written text × Rose sink.faults now.faults
IsWritten sink now text NoMemory = now ≡ sink
IsWritten sink now text status = ⊥

-- the status that a verdict gives
abbrev pub ending_of : Verdict → Status
ending_of Same = Done
ending_of verdict = Differ

-- Two images were compared: a verdict is due, the lines before it are those of either run, these lines and the verdict
-- were written, and the status says the same.
pub record IsComparison (bench : Stimulus) (one other : List Segment) (sink now : SinkView) (status : Status) : Type 0 where
  pub verdict : Verdict
  pub due : IsVerdict bench one other verdict
  pub of_both :
      lines_before verdict bench (first_of bench one) ≡ lines_before verdict bench (first_of bench other)
  pub whole : IsWhole sink now (pair_text verdict bench one)
  pub ending : status ≡ ending_of verdict

-- a front of what is due was written
abbrev pub IsFrontOfPair : Stimulus → List Segment → List Segment → SinkView → SinkView → Type 0
IsFrontOfPair bench one other sink now =
    (verdict : Verdict) → IsVerdict bench one other verdict →
    AppendsFront sink.written now.written (pair_text verdict bench one)

-- what was written of a comparison
abbrev pub IsCompared : Stimulus → List Segment → List Segment → SinkView → SinkView → Status → Type 0
IsCompared bench one other sink now Done = IsComparison bench one other sink now Done
IsCompared bench one other sink now Differ = IsComparison bench one other sink now Differ
IsCompared bench one other sink now WriteFault =
    IsFrontOfPair bench one other sink now × Rose sink.faults now.faults
IsCompared bench one other sink now NoMemory = now ≡ sink
IsCompared bench one other sink now status = ⊥

-- what was written of a task
abbrev pub IsDone : Task → SinkView → SinkView → Status → Type 0
IsDone (Write text) sink now status = IsWritten sink now text status
IsDone (Compare bench one other) sink now status = IsCompared bench one other sink now status
