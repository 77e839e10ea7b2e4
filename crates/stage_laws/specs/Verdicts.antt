-- How two images compare under one bench: which verdict is due.
use Rattle.std.specs.Prelude.{◌≡◌, ◌≢◌, ◌⊎◌, ◌<◌, ℕ, List}
use Rattle.elf_image.specs.Image.{Segment, byte_of}
use Rattle.stimulus.specs.Stimulus.{Stimulus}
use Rattle.trace_print.specs.declared.verdicts.Verdict.{Verdict}
use Rattle.trace_print.specs.declared.verdicts.Verdict.TheVariants.{Seal, Outside, Release, Same}
use Rattle.chip_core.specs.Run.{chip_after}
use Rattle.chip_core.specs.State.{State}
use Rattle.stage_laws.specs.OneTick.{ItemsAgree}
use Rattle.stage_laws.specs.TwoRuns.{AgreeUntil, ImagesAgree, IsUnsealed, SealSame, first_of}

-- The images.

-- they differ at an address outside the seal
pub record DifferAt (one other : List Segment) (at : ℕ) : Type 0 where
  pub outside : IsUnsealed one at
  pub bytes : byte_of one at ≢ byte_of other at

-- and at none below it
pub record DifferFirstAt (one other : List Segment) (at : ℕ) : Type 0 where
  pub differ : DifferAt one other at
  pub least : (lower : ℕ) → lower < at → DifferAt one other lower → ⊥

-- their seals differ as sets of addresses, or they don't and FRAM outside them does
abbrev pub ImagesDiffer : List Segment → List Segment → Verdict → Type 0
ImagesDiffer one other Seal = SealSame one other → ⊥
ImagesDiffer one other (Outside at) = SealSame one other × DifferFirstAt one other at
ImagesDiffer one other verdict = ⊥

-- The runs of two chips.

-- this tick is the first whose items don't agree
pub record DifferFirstIn (bench : Stimulus) (a b : State) (tick : ℕ) : Type 0 where
  pub in_run : tick < bench.end
  pub until : AgreeUntil bench a b tick
  pub differ : ItemsAgree bench (chip_after tick bench a) (chip_after tick bench b) → ⊥

-- the items differ in a tick first, or agree in all
abbrev pub RunsCompare : Stimulus → State → State → Verdict → Type 0
RunsCompare bench a b (Release tick) = DifferFirstIn bench a b tick
RunsCompare bench a b Same = AgreeUntil bench a b bench.end
RunsCompare bench a b verdict = ⊥

-- Both.

-- two images agree, and their runs compare so
pub record RunsDecide
    (bench : Stimulus) (one other : List Segment) (verdict : Verdict) : Type 0 where
  pub images : ImagesAgree one other
  pub runs : RunsCompare bench (first_of bench one) (first_of bench other) verdict

-- the images decide where they differ, and else their runs
abbrev pub IsVerdict : Stimulus → List Segment → List Segment → Verdict → Type 0
IsVerdict bench one other verdict =
    ImagesDiffer one other verdict ⊎ RunsDecide bench one other verdict

-- no two verdicts are due
abbrev pub VerdictIsOne : Type 0
VerdictIsOne =
    (bench : Stimulus) (one other : List Segment) (verdict second : Verdict) →
    IsVerdict bench one other verdict → IsVerdict bench one other second → verdict ≡ second

-- and one is
abbrev pub VerdictIsDue : Type 0
VerdictIsDue =
    (bench : Stimulus) (one other : List Segment) →
    (verdict : Verdict) × IsVerdict bench one other verdict
