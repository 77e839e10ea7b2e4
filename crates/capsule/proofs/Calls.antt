-- What follows of a plan that was followed: the answer that the files say, and the counts of faults.
use Rattle.std.proofs.Common.{◌≡◌, ◌≢◌, ℕ, ◌<◌, ◌≤◌, List, length, Option, Some, None, Result, Ok, Err, inl, inr, IfSome, refl, sym, ◌∙◌, ap, subst, arith}
use Rattle.std.specs.Prelude.{IsSomeAnd}
use Rattle.std.proofs.lemmas.Bool.Decides.{nat_tests}
use Rattle.bench_io.specs.Shelves.{Files}
use Rattle.bench_io.specs.Sinks.{appended}
use Rattle.elf_image.specs.declared.refusals.ImageRefused.{ImageRefused}
use Rattle.elf_image.specs.Image.{Segment, image_of}
use Rattle.stimulus.specs.declared.refusals.BenchRefused.{BenchRefused}
use Rattle.stimulus.specs.Stimulus.{Stimulus, bench_of_file}
use Rattle.capsule.specs.declared.statuses.Status.{Status}
use Rattle.capsule.specs.declared.statuses.Status.TheVariants.{Done, Differ, Usage, Absent, ReadFault, TooLong, Image, Bench, WriteFault, NoMemory}
use Rattle.capsule.specs.Releases.{releases_of}
use Rattle.capsule.specs.Trace.{plain_bench, trace_of}
use Rattle.capsule.specs.Words.{Request, NoCommand, RunImage, ReleaseImage, PairImages}
use Rattle.capsule.specs.Output.{Plan, Read, Refuse, Do, Task, Write, Compare, bench_in_file, bench_limit, image_in_file, image_judged, of_file, outcome, pair_of_files, plan_of, run_of, run_of_file, with_image, with_bench}
use Rattle.bench_io.specs.WholeFiles.{ShelfView, IsRead}
use Rattle.capsule.specs.Call.{IsBenchRead, IsNoBench, IsNotRead, IsRefusal, IsFollowed, IsDue, CountsFaults, IsCall}
use Rattle.capsule.specs.Written.{SinkView, sink_view, IsCompared, IsDone, IsWritten}

-- each refusal of a plan is of this kind
abbrev RefusesBy : (Status → Type 0) → Plan → Type 0
RefusesBy Kind (Read name limit next) = (bytes : List ℕ) → RefusesBy Kind (next bytes)
RefusesBy Kind (Refuse refusal) = Kind refusal
RefusesBy Kind (Do task) = Unit {0}

-- what a file is
abbrev IsOfFile : Status → Type 0
IsOfFile (Image refusal) = Unit {0}
IsOfFile (Bench refusal) = Unit {0}
IsOfFile status = ⊥

-- what the words or a file are
abbrev IsJudgement : Status → Type 0
IsJudgement Usage = Unit {0}
IsJudgement status = IsOfFile status

module _ (Kind : Status → Type 0) (of_image : (refusal : ImageRefused) → Kind (Image refusal)) (of_bench : (refusal : BenchRefused) → Kind (Bench refusal)) where
  with_bench-refuses : (found : Result Stimulus BenchRefused) (next : Stimulus → Plan) → ((bench : Stimulus) → RefusesBy Kind (next bench)) → RefusesBy Kind (with_bench found next)
  with_bench-refuses (Ok bench) next later = later bench
  with_bench-refuses (Err refusal) next later = of_bench refusal

  with_image-refuses : (found : Result (List Segment) ImageRefused) (next : List Segment → Plan) → ((image : List Segment) → RefusesBy Kind (next image)) → RefusesBy Kind (with_image found next)
  with_image-refuses (Ok image) next later = later image
  with_image-refuses (Err refusal) next later = of_image refusal

  run_of-refuses : (text : Stimulus → List Segment → List ℕ) (image : List Segment) (bench : Option (List ℕ)) → RefusesBy Kind (run_of text image bench)
  run_of-refuses text image None = tt
  run_of-refuses text image (Some name) = λ bytes. with_bench-refuses (bench_of_file bytes) (λ stimulus. Do (Write (text stimulus image))) (λ bench. tt)

  run_of_file-refuses : (text : Stimulus → List Segment → List ℕ) (image : List ℕ) (bench : Option (List ℕ)) → RefusesBy Kind (run_of_file text image bench)
  run_of_file-refuses text image bench = λ bytes. with_image-refuses (image_of bytes) (λ segments. run_of text segments bench) (λ segments. run_of-refuses text segments bench)

  compared-refuses : (one other : List Segment) (bench : List ℕ) → RefusesBy Kind (bench_in_file bench (λ stimulus. Do (Compare stimulus one other)))
  compared-refuses one other bench = λ bytes. with_bench-refuses (bench_of_file bytes) (λ stimulus. Do (Compare stimulus one other)) (λ stimulus. tt)

  pair_of_files-refuses : (one other bench : List ℕ) → RefusesBy Kind (pair_of_files one other bench)
  pair_of_files-refuses one other bench = λ bytes. with_image-refuses (image_of bytes) (λ first. image_in_file other (λ second. bench_in_file bench (λ stimulus. Do (Compare stimulus first second)))) (λ first. λ more. with_image-refuses (image_of more) (λ second. bench_in_file bench (λ stimulus. Do (Compare stimulus first second))) (λ second. compared-refuses first second bench))

plan_of-refuses : (request : Request) → RefusesBy IsJudgement (plan_of request)
plan_of-refuses NoCommand = tt
plan_of-refuses (RunImage image bench) = run_of_file-refuses IsJudgement (λ refusal. tt) (λ refusal. tt) trace_of image bench
plan_of-refuses (ReleaseImage image bench) = run_of_file-refuses IsJudgement (λ refusal. tt) (λ refusal. tt) releases_of image (Some bench)
plan_of-refuses (PairImages one other bench) = pair_of_files-refuses IsJudgement (λ refusal. tt) (λ refusal. tt) one other bench

-- the counts, where a file wasn't read
not_read-counts : (before after : ShelfView) (name : List ℕ) (limit : ℕ) (sink now : SinkView) (status : Status) → IsNotRead before after name limit status → now ≡ sink → CountsFaults before.faults after.faults sink.faults now.faults status
not_read-counts before after name limit sink now Absent ended same = (ap (λ shelf. shelf.faults) ended.nothing, ap (λ s. s.faults) same)
not_read-counts before after name limit sink now ReadFault ended same = (ended.1, ap (λ s. s.faults) same)
not_read-counts before after name limit sink now TooLong ended same = (ended.uncounted, ap (λ s. s.faults) same)
not_read-counts before after name limit sink now NoMemory ended same = (ended.1, ap (λ s. s.faults) same)
not_read-counts before after name limit sink now status ended same = absurd ended

-- the counts, where a request was refused
refusal-counts : (before after sink now : ℕ) (refusal status : Status) → IsJudgement refusal → after ≡ before → now ≡ sink → IsRefusal refusal status → CountsFaults before after sink now status
refusal-counts before after sink now refusal ReadFault judging same_shelf same_sink (inl is) = absurd (subst IsJudgement (sym is) judging)
refusal-counts before after sink now refusal ReadFault judging same_shelf same_sink (inr is) = absurd (cc)
refusal-counts before after sink now refusal WriteFault judging same_shelf same_sink (inl is) = absurd (subst IsJudgement (sym is) judging)
refusal-counts before after sink now refusal WriteFault judging same_shelf same_sink (inr is) = absurd (cc)
refusal-counts before after sink now refusal status judging same_shelf same_sink is = (same_shelf, same_sink)

-- the counts, where the files were read
written-counts : (before after : ℕ) (sink now : SinkView) (text : List ℕ) (status : Status) → after ≡ before → IsWritten sink now text status → CountsFaults before after sink.faults now.faults status
written-counts before after sink now text Done same written = (same, ap (λ s. s.faults) written)
written-counts before after sink now text WriteFault same written = (same, written.1)
written-counts before after sink now text NoMemory same written = (same, ap (λ s. s.faults) written)
written-counts before after sink now text status same written = absurd written

compared-counts : (before after : ℕ) (sink now : SinkView) (bench : Stimulus) (one other : List Segment) (status : Status) → after ≡ before → IsCompared bench one other sink now status → CountsFaults before after sink.faults now.faults status
compared-counts before after sink now bench one other Done same compared = (same, ap (λ s. s.faults) compared.whole)
compared-counts before after sink now bench one other Differ same compared = (same, ap (λ s. s.faults) compared.whole)
compared-counts before after sink now bench one other WriteFault same compared = (same, compared.1)
compared-counts before after sink now bench one other NoMemory same compared = (same, ap (λ s. s.faults) compared)
compared-counts before after sink now bench one other status same compared = absurd compared

done-counts : (before after : ℕ) (sink now : SinkView) (task : Task) (status : Status) → after ≡ before → IsDone task sink now status → CountsFaults before after sink.faults now.faults status
done-counts before after sink now (Write text) status same written = written-counts before after sink now text status same written
done-counts before after sink now (Compare bench one other) status same compared = compared-counts before after sink now bench one other status same compared

counts_of : (plan : Plan) (before after : ShelfView) (sink now : SinkView) (status : Status) → RefusesBy IsJudgement plan → IsFollowed plan before after sink now status → CountsFaults before.faults after.faults sink.faults now.faults status
counts_of (Read name limit next) before after sink now status judging (inl ended) =
    not_read-counts before after name limit sink now status ended.0 ended.1
counts_of (Read name limit next) before after sink now status judging (inr (bytes, between, read, rest)) =
    subst (λ n. CountsFaults n after.faults sink.faults now.faults status) read.uncounted (counts_of (next bytes) between after sink now status (judging bytes) rest)
counts_of (Refuse refusal) before after sink now status judging ended =
    refusal-counts before.faults after.faults sink.faults now.faults refusal status judging (ap (λ shelf. shelf.faults) ended.0) (ap (λ s. s.faults) ended.1) ended.2
counts_of (Do task) before after sink now status judging ended =
    done-counts before.faults after.faults sink now task status (ap (λ shelf. shelf.faults) ended.0) ended.1

-- a file that is too long is refused
of_file-too_long : (file : Option (List ℕ)) (limit : ℕ) (next : List ℕ → Result Task Status) → IsSomeAnd file (λ bytes. limit < length bytes) → of_file file limit next ≡ Err TooLong
of_file-too_long None limit next long = absurd long
of_file-too_long (Some bytes) limit next long = grind (arith, nat_tests, long)

-- a file within its limit is judged
of_file-within : (bytes : List ℕ) (limit : ℕ) (next : List ℕ → Result Task Status) → length bytes ≤ limit → of_file (Some bytes) limit next ≡ next bytes
of_file-within bytes limit next within = grind (arith, nat_tests, within)

module _ (all : Files) where
  -- the answer, where a file wasn't read
  not_read-due : (before after : ShelfView) (name : List ℕ) (limit : ℕ) (next : List ℕ → Result Task Status) (sink now : SinkView) (status : Status) → before.files ≡ Some all → IsNotRead before after name limit status → now ≡ sink → IsDue (of_file (all name) limit next) sink now status
  not_read-due before after name limit next sink now Absent told ended same =
      let none : all name ≡ None = rw told at ended.told in
      subst (λ file. IsDue (of_file file limit next) sink now Absent) (sym none) (refl, same)
  not_read-due before after name limit next sink now TooLong told ended same =
      let long : IsSomeAnd (all name) (λ bytes. limit < length bytes) = rw told at ended.told in
      subst (λ due. IsDue due sink now TooLong) (sym (of_file-too_long (all name) limit next long)) (refl, same)
  not_read-due before after name limit next sink now ReadFault told ended same = same
  not_read-due before after name limit next sink now NoMemory told ended same = same
  not_read-due before after name limit next sink now status told ended same = absurd ended

  refusal-due : (refusal status : Status) (sink now : SinkView) → now ≡ sink → IsRefusal refusal status → IsDue (Err refusal) sink now status
  refusal-due refusal ReadFault sink now same is = same
  refusal-due refusal NoMemory sink now same is = same
  refusal-due refusal status sink now same (inl is) = (is, same)
  refusal-due refusal status sink now same (inr is) = absurd (cc)

  done-due : (task : Task) (status : Status) (sink now : SinkView) → IsDone task sink now status → IsDue (Ok task) sink now status
  done-due (Write text) ReadFault sink now done = absurd done
  done-due (Compare bench one other) ReadFault sink now done = absurd done
  done-due (Write text) NoMemory sink now done = done
  done-due (Compare bench one other) NoMemory sink now done = done
  done-due task status sink now done = done

  due_of : (plan : Plan) (before after : ShelfView) (sink now : SinkView) (status : Status) → before.files ≡ Some all → IsFollowed plan before after sink now status → IsDue (outcome plan all) sink now status
  due_of (Read name limit next) before after sink now status told (inl ended) =
      not_read-due before after name limit (λ bytes. outcome (next bytes) all) sink now status told ended.0 ended.1
  due_of (Read name limit next) before after sink now status told (inr (bytes, between, read, rest)) =
      let there : all name ≡ Some bytes = rw told at read.told in
      let judged : of_file (all name) limit (λ file. outcome (next file) all) ≡ outcome (next bytes) all = ap (λ file. of_file file limit (λ b. outcome (next b) all)) there ∙ of_file-within bytes limit (λ file. outcome (next file) all) read.within in
      subst (λ due. IsDue due sink now status) (sym judged) (due_of (next bytes) between after sink now status (read.same ∙ told) rest)
  due_of (Refuse refusal) before after sink now status told ended = refusal-due refusal status sink now ended.1 ended.2
  due_of (Do task) before after sink now status told ended = done-due task status sink now ended.1

answer_of : (files : Option Files) (plan : Plan) (before after : ShelfView) (sink now : SinkView) (status : Status) → before.files ≡ files → IsFollowed plan before after sink now status → IfSome files (λ all. IsDue (outcome plan all) sink now status)
answer_of None plan before after sink now status told followed = tt
answer_of (Some all) plan before after sink now status told followed = due_of all plan before after sink now status told followed

-- a request whose plan was followed was answered
pub IsCall-from_plan : (request : Request) (before after : ShelfView) (sink now : SinkView) (status : Status) → IsFollowed (plan_of request) before after sink now status → IsCall request before after sink now status
IsCall-from_plan request before after sink now status followed = record {
  course = followed;
  answer = answer_of before.files (plan_of request) before after sink now status refl followed;
  counts = counts_of (plan_of request) before after sink now status (plan_of-refuses request) followed;
}

-- a plan that refuses for its files alone doesn't end with Usage
followed-usage : (plan : Plan) (before after : ShelfView) (sink now : SinkView) → RefusesBy IsOfFile plan → IsFollowed plan before after sink now Usage → ⊥
followed-usage (Read name limit next) before after sink now judging (inl ended) = ended.0
followed-usage (Read name limit next) before after sink now judging (inr (bytes, between, read, rest)) =
    followed-usage (next bytes) between after sink now (judging bytes) rest
followed-usage (Refuse refusal) before after sink now judging (same_shelf, same_sink, inl is) = subst IsOfFile (sym is) judging
followed-usage (Refuse refusal) before after sink now judging (same_shelf, same_sink, inr is) = absurd (cc)
followed-usage (Do (Write text)) before after sink now judging ended = ended.1
followed-usage (Do (Compare bench one other)) before after sink now judging ended = ended.1

-- a run isn't refused for its words
run-usage : (text : Stimulus → List Segment → List ℕ) (image : List ℕ) (bench : Option (List ℕ)) (before after : ShelfView) (sink now : SinkView) → IsFollowed (run_of_file text image bench) before after sink now Usage → ⊥
run-usage text image bench before after sink now followed =
    followed-usage (run_of_file text image bench) before after sink now (run_of_file-refuses IsOfFile (λ refusal. tt) (λ refusal. tt) text image bench) followed

pub run-not_usage : (text : Stimulus → List Segment → List ℕ) (image : List ℕ) (bench : Option (List ℕ)) (before after : ShelfView) (sink now : SinkView) (status : Status) → IsFollowed (run_of_file text image bench) before after sink now status → status ≢ Usage
run-not_usage text image bench before after sink now status followed = λ is. run-usage text image bench before after sink now (subst (λ s. IsFollowed (run_of_file text image bench) before after sink now s) is followed)

-- nor is a comparison
pub pair-not_usage : (one other bench : List ℕ) (before after : ShelfView) (sink now : SinkView) (status : Status) → IsFollowed (pair_of_files one other bench) before after sink now status → status ≢ Usage
pair-not_usage one other bench before after sink now status followed = λ is. followed-usage (pair_of_files one other bench) before after sink now (pair_of_files-refuses IsOfFile (λ refusal. tt) (λ refusal. tt) one other bench) (subst (λ s. IsFollowed (pair_of_files one other bench) before after sink now s) is followed)

-- want of memory may end a plan at once
pub no_memory : (plan : Plan) (shelf : ShelfView) (sink : SinkView) → IsFollowed plan shelf shelf sink sink NoMemory
no_memory (Read name limit next) shelf sink = inl ((record { find = inl refl; same = refl }, refl), refl)
no_memory (Refuse refusal) shelf sink = (refl, refl, inr refl)
no_memory (Do (Write text)) shelf sink = (refl, refl)
no_memory (Do (Compare bench one other)) shelf sink = (refl, refl)

-- the bytes of a file are no bench
no_bench : (found : Result Stimulus BenchRefused) (status : Status) (next : Stimulus → Plan) (shelf : ShelfView) (sink : SinkView) → IsNoBench found status → IsFollowed (with_bench found next) shelf shelf sink sink status
no_bench found (Bench refusal) next shelf sink is =
    subst (λ f. IsFollowed (with_bench f next) shelf shelf sink sink (Bench refusal)) (sym is) (refl, refl, inl refl)
no_bench found NoMemory next shelf sink is = no_memory (with_bench found next) shelf sink
no_bench found status next shelf sink is = absurd is

-- a file was read, and is no bench
pub file-no_bench : (before after : ShelfView) (name bytes : List ℕ) (status : Status) → IsRead before after name bench_limit bytes → IsNoBench (bench_of_file bytes) status → (next : Stimulus → Plan) (sink : SinkView) → IsFollowed (bench_in_file name next) before after sink sink status
file-no_bench before after name bytes status read is = λ next sink. inr (bytes, after, read, no_bench (bench_of_file bytes) status next after sink is)

module _ (text : Stimulus → List Segment → List ℕ) (bytes : List ℕ) (bench : Option (List ℕ)) where
  -- the bytes are no image
  pub no_image : (refusal : ImageRefused) (shelf : ShelfView) (sink : SinkView) → Err refusal ≡ image_of bytes → IsFollowed (image_judged text bytes bench) shelf shelf sink sink (Image refusal)
  no_image refusal shelf sink is =
      subst (λ found. IsFollowed (with_image found (λ image. run_of text image bench)) shelf shelf sink sink (Image refusal)) is (refl, refl, inl refl)

  -- the bytes are an image
  pub an_image : (image : List Segment) (before after : ShelfView) (sink now : SinkView) (status : Status) → Ok image ≡ image_of bytes → IsFollowed (run_of text image bench) before after sink now status → IsFollowed (image_judged text bytes bench) before after sink now status
  an_image image before after sink now status is followed =
      subst (λ found. IsFollowed (with_image found (λ segments. run_of text segments bench)) before after sink now status) is followed

-- a run under the bench in a file
pub under_bench : (text : Stimulus → List Segment → List ℕ) (image : List Segment) (name : List ℕ) (bench : Stimulus) (before after : ShelfView) (sink now : SinkView) (status : Status) → IsBenchRead before after name bench → IsWritten sink now (text bench image) status → IsFollowed (run_of text image (Some name)) before after sink now status
under_bench text image name bench before after sink now status read written =
    inr (read.bytes, after, read.read, subst (λ found. IsFollowed (with_bench found (λ stimulus. Do (Write (text stimulus image)))) after after sink now status) (sym read.judged) (refl, written))

-- a run without one
pub under_plain : (text : Stimulus → List Segment → List ℕ) (image : List Segment) (bench : Stimulus) (shelf : ShelfView) (sink now : SinkView) (status : Status) → bench ≡ plain_bench → IsWritten sink now (text bench image) status → IsFollowed (run_of text image None) shelf shelf sink now status
under_plain text image bench shelf sink now status plain written =
    (refl, subst (λ b. IsWritten sink now (text b image) status) plain written)

-- the whole text was written, and no fault was counted
pub whole_written : (before after : Option (List ℕ)) (faults counted : ℕ) (text : List ℕ) → after ≡ appended before text → counted ≡ faults → sink_view after counted ≡ sink_view (appended before text) faults
whole_written before after faults counted text written same = rw (written, same) refl

pub IsCall-same : (asked request : Request) (before after : ShelfView) (sink now : SinkView) (status : Status) → asked ≡ request → IsCall asked before after sink now status → IsCall request before after sink now status
IsCall-same asked request before after sink now status same call =
    subst (λ r. IsCall r before after sink now status) same call
