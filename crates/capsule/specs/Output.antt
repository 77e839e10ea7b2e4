-- What a request comes to, by its files: a task or a refusal.
use Rattle.std.specs.Prelude.{ℕ, List, length, Option, Some, None, Result, Ok, Err, nat_lt, if◌then◌else◌}
use Rattle.elf_image.specs.declared.refusals.ImageRefused.{ImageRefused}
use Rattle.elf_image.specs.Image.{Segment, image_of}
use Rattle.stimulus.specs.declared.refusals.BenchRefused.{BenchRefused}
use Rattle.stimulus.specs.Stimulus.{Stimulus, bench_of_file}
use Rattle.bench_io.specs.Shelves.{Files}
use Rattle.capsule.specs.declared.statuses.Status.{Status}
use Rattle.capsule.specs.declared.statuses.Status.TheVariants.{Usage, Absent, TooLong, Image, Bench}
use Rattle.capsule.specs.declared.runs.Report.{Report}
use Rattle.capsule.specs.declared.runs.Report.TheVariants.{Trace, Releases}
use Rattle.chip_core.specs.State.{State}
use Rattle.capsule.specs.Releases.{releases_of, releases_text}
use Rattle.capsule.specs.Trace.{plain_bench, run_text, trace_of}
use Rattle.capsule.specs.Words.{Request, NoCommand, RunImage, ReleaseImage, PairImages}

-- what is left to do once each file is judged
pub data Task : Type 0 where
  -- to write a text
  Write : List ℕ → Task
  -- to compare the runs of two images under one bench
  Compare : Stimulus → List Segment → List Segment → Task

-- A request as a value: the files that it reads, one after the other, and what their bytes lead to.
pub data Plan : Type 0 where
  -- a file by its name, how many bytes it has at most, and what follows from its bytes
  Read : List ℕ → ℕ → (List ℕ → Plan) → Plan
  Refuse : Status → Plan
  Do : Task → Plan

-- how many bytes an image has at most
abbrev pub image_limit : ℕ
image_limit = 4194304

-- how many bytes a bench has at most
abbrev pub bench_limit : ℕ
bench_limit = 1048576

-- what follows from an image, or why its file is none
abbrev pub with_image : Result (List Segment) ImageRefused → (List Segment → Plan) → Plan
with_image (Ok image) next = next image
with_image (Err refusal) next = Refuse (Image refusal)

-- what follows from a bench, or why its file is none
abbrev pub with_bench : Result Stimulus BenchRefused → (Stimulus → Plan) → Plan
with_bench (Ok bench) next = next bench
with_bench (Err refusal) next = Refuse (Bench refusal)

-- the bench in a file
abbrev pub bench_in_file : List ℕ → (Stimulus → Plan) → Plan
bench_in_file name next = Read name bench_limit (λ bytes. with_bench (bench_of_file bytes) next)

-- the bench of a run, which is a file only where it is named
abbrev pub bench_of_run : Option (List ℕ) → (Stimulus → Plan) → Plan
bench_of_run None next = next plain_bench
bench_of_run (Some name) next = bench_in_file name next

-- what a run of so many ticks from a first chip on writes
abbrev pub report_text : Report → ℕ → Stimulus → State → List ℕ
report_text Trace = run_text
report_text Releases = releases_text

-- what a run writes, by its bench and its image
abbrev pub report_of : Report → Stimulus → List Segment → List ℕ
report_of Trace = trace_of
report_of Releases = releases_of

-- a text of an image's run
abbrev pub run_of : (Stimulus → List Segment → List ℕ) → List Segment → Option (List ℕ) → Plan
run_of text image bench = bench_of_run bench (λ stimulus. Do (Write (text stimulus image)))

-- what the bytes of an image lead to in a run
abbrev pub image_judged : (Stimulus → List Segment → List ℕ) → List ℕ → Option (List ℕ) → Plan
image_judged text bytes bench = with_image (image_of bytes) (λ image. run_of text image bench)

-- a text of the run of the image in a file
abbrev pub run_of_file : (Stimulus → List Segment → List ℕ) → List ℕ → Option (List ℕ) → Plan
run_of_file text image bench = Read image image_limit (λ bytes. image_judged text bytes bench)

-- the image in a file
abbrev pub image_in_file : List ℕ → (List Segment → Plan) → Plan
image_in_file name next = Read name image_limit (λ bytes. with_image (image_of bytes) next)

-- two images, compared under the bench in a file
abbrev pub compared_under : List ℕ → List Segment → List Segment → Plan
compared_under bench one other = bench_in_file bench (λ stimulus. Do (Compare stimulus one other))

-- the images in two files, compared under the bench in a third
abbrev pub pair_of_files : List ℕ → List ℕ → List ℕ → Plan
pair_of_files one other bench =
    image_in_file one (λ first. image_in_file other (λ second. compared_under bench first second))

-- The images first, and then the bench.
abbrev pub plan_of : Request → Plan
plan_of NoCommand = Refuse Usage
plan_of (RunImage image bench) = run_of_file trace_of image bench
plan_of (ReleaseImage image bench) = run_of_file releases_of image (Some bench)
plan_of (PairImages one other bench) = pair_of_files one other bench

-- what comes of a file that is there or not
abbrev pub of_file : Option (List ℕ) → ℕ → (List ℕ → Result Task Status) → Result Task Status
of_file None limit next = Err Absent
of_file (Some bytes) limit next = if nat_lt limit (length bytes) then Err TooLong else next bytes

-- what a plan comes to
abbrev pub outcome : Plan → Files → Result Task Status
outcome (Read name limit next) files = of_file (files name) limit (λ bytes. outcome (next bytes) files)
outcome (Refuse refusal) files = Err refusal
outcome (Do task) files = Ok task

-- the task of a request, or the first refusal in the order of its files
abbrev pub output : Request → Files → Result Task Status
output request files = outcome (plan_of request) files
