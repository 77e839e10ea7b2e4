-- A call of the program: what it asks of the shelf, what it writes to the sink, and its status.
--
-- The files are asked for one after the other. A file that isn't there, that fails, that is too long or
-- that is refused decides, and no further one is found behind it. The text is written behind the last.
use Rattle.std.specs.Prelude.{◌≡◌, ℕ, List, Result, Ok, Err, ◌⊎◌, IfSome}
use Rattle.bench_io.specs.Faults.{Rose}
use Rattle.bench_io.specs.declared.whole_file.FileRefused.TheVariants as refused
use Rattle.bench_io.specs.WholeFiles.{ShelfView, IsRead, IsRefused}
use Rattle.stimulus.specs.declared.refusals.BenchRefused.{BenchRefused}
use Rattle.stimulus.specs.Stimulus.{Stimulus, bench_of_file}
use Rattle.capsule.specs.declared.statuses.Status.{Status}
use Rattle.capsule.specs.declared.statuses.Status.TheVariants.{Absent, ReadFault, TooLong, Bench, WriteFault, NoMemory}
use Rattle.capsule.specs.Output.{Plan, Read, Refuse, Do, Task, bench_limit, output, plan_of}
use Rattle.capsule.specs.Words.{Request}
use Rattle.capsule.specs.Written.{IsDone, SinkView}

-- a file wasn't read to its end, which is the answer of the call
abbrev pub IsNotRead : ShelfView → ShelfView → List ℕ → ℕ → Status → Type 0
IsNotRead before after name limit Absent = IsRefused before after name limit refused.Absent
IsNotRead before after name limit ReadFault = IsRefused before after name limit refused.ReadFault
IsNotRead before after name limit TooLong = IsRefused before after name limit refused.TooLong
IsNotRead before after name limit NoMemory = IsRefused before after name limit refused.NoMemory
IsNotRead before after name limit status = ⊥

-- a refusal, where memory was found
abbrev pub IsRefusal : Status → Status → Type 0
IsRefusal refusal status = (status ≡ refusal) ⊎ (status ≡ NoMemory)

-- A plan was followed, from its first file on. A file that isn't read ends the call; one that is read is
-- judged before the next is asked for.
abbrev pub IsFollowed : Plan → ShelfView → ShelfView → SinkView → SinkView → Status → Type 0
IsFollowed (Read name limit next) before after sink now status =
    (IsNotRead before after name limit status × (now ≡ sink))
    ⊎ ((bytes : List ℕ) × (between : ShelfView) × IsRead before between name limit bytes
    × IsFollowed (next bytes) between after sink now status)
IsFollowed (Refuse refusal) before after sink now status =
    (after ≡ before) × (now ≡ sink) × IsRefusal refusal status
IsFollowed (Do task) before after sink now status = (after ≡ before) × IsDone task sink now status

-- the answer that is due; a fault or want of memory may come in its place
abbrev pub IsDue : Result Task Status → SinkView → SinkView → Status → Type 0
IsDue due sink now ReadFault = now ≡ sink
IsDue due sink now NoMemory = now ≡ sink
IsDue (Ok task) sink now status = IsDone task sink now status
IsDue (Err refusal) sink now status = (status ≡ refusal) × (now ≡ sink)

-- A fault that was counted is the answer. With every other answer none was counted.
-- The numbers are those of the shelf before and after, and of the sink before and after.
abbrev pub CountsFaults : ℕ → ℕ → ℕ → ℕ → Status → Type 0
CountsFaults before after sink now ReadFault = Rose before after × (now ≡ sink)
CountsFaults before after sink now WriteFault = (after ≡ before) × Rose sink now
CountsFaults before after sink now status = (after ≡ before) × (now ≡ sink)

-- A call: the shelf before and after it, the sink before and after it, and the status.
pub record IsCall (request : Request) (before after : ShelfView) (sink now : SinkView) (status : Status) : Type 0 where
  -- the files in their order, each read to its end and judged before the next, until one decides
  pub course : IsFollowed (plan_of request) before after sink now status
  -- where the shelf tells its files, they say the answer, and what is written
  pub answer : IfSome before.files (λ all. IsDue (output request all) sink now status)
  pub counts : CountsFaults before.faults after.faults sink.faults now.faults status

-- a file was read to its end, and is a bench
pub record IsBenchRead (before after : ShelfView) (name : List ℕ) (bench : Stimulus) : Type 0 where
  pub bytes : List ℕ
  pub read : IsRead before after name bench_limit bytes
  pub judged : bench_of_file bytes ≡ Ok bench

-- what was read is no bench, and why
abbrev pub IsNoBench : Result Stimulus BenchRefused → Status → Type 0
IsNoBench found (Bench refusal) = found ≡ Err refusal
IsNoBench found NoMemory = Unit {0}
IsNoBench found status = ⊥
