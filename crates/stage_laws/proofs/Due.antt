-- Of two images under one bench at most one verdict is due.
use Rattle.std.proofs.Common.{◌≡◌, ◌<◌, ◌≤◌, ◌⊎◌, ℕ, List, inl, inr, arith, refl, ap}
use Rattle.std.proofs.lemmas.Bool.{cases_lt}
use Rattle.elf_image.specs.Image.{Segment}
use Rattle.stimulus.specs.Stimulus.{Stimulus}
use Rattle.trace_print.specs.declared.verdicts.Verdict.{Verdict}
use Rattle.trace_print.specs.declared.verdicts.Verdict.TheVariants.{Seal, Outside, Release, Same}
use Rattle.chip_core.specs.State.{State}
use Rattle.stage_laws.specs.TwoRuns.{AgreeUntil, ImagesAgree, first_of}
use Rattle.stage_laws.specs.Verdicts.{DifferFirstAt, ImagesDiffer, DifferFirstIn, RunsCompare, VerdictIsOne}

-- images that agree don't differ
pub agree_not_differ :
    (one other : List Segment) (verdict : Verdict) → ImagesAgree one other → ImagesDiffer one other verdict → ⊥
agree_not_differ one other Seal images differ = differ images.seal
agree_not_differ one other (Outside at) images differ =
    let here = differ.1.differ in
    here.bytes (images.bytes at here.outside)
agree_not_differ one other (Release tick) images differ = differ
agree_not_differ one other Same images differ = differ

-- the first tick whose items don't agree is none of those whose items do
pub release_is_later :
    (bench : Stimulus) (a b : State) (tick n : ℕ) → DifferFirstIn bench a b tick → AgreeUntil bench a b n → n ≤ tick
release_is_later bench a b tick n first until = side (cases_lt tick n)
  where
    side : (tick < n) ⊎ (n ≤ tick) → n ≤ tick
    side (inl earlier) = absurd (first.differ (until tick earlier))
    side (inr later) = later

-- ---- no two are due

same-Outside :
    (one other : List Segment) (at second : ℕ) → DifferFirstAt one other at → DifferFirstAt one other second → at ≡ second
same-Outside one other at second first last = side (cases_lt at second) (cases_lt second at)
  where
    side : (at < second) ⊎ (second ≤ at) → (second < at) ⊎ (at ≤ second) → at ≡ second
    side (inl before) either = absurd (last.least at before first.differ)
    side (inr from) (inl before) = absurd (first.least second before last.differ)
    side (inr from) (inr to) = omega arith

-- of the images
images-one :
    (one other : List Segment) (verdict second : Verdict) →
    ImagesDiffer one other verdict → ImagesDiffer one other second → verdict ≡ second
images-one one other Seal Seal differ also = refl
images-one one other Seal (Outside at) differ also = absurd (differ also.0)
images-one one other (Outside at) Seal differ also = absurd (also differ.0)
images-one one other (Outside at) (Outside second) differ also =
    ap Outside (same-Outside one other at second differ.1 also.1)
images-one one other verdict (Release tick) differ also = absurd also
images-one one other verdict Same differ also = absurd also
images-one one other (Release tick) second differ also = absurd differ
images-one one other Same second differ also = absurd differ

-- of the runs
runs-one :
    (bench : Stimulus) (a b : State) (verdict second : Verdict) →
    RunsCompare bench a b verdict → RunsCompare bench a b second → verdict ≡ second
runs-one bench a b (Release tick) (Release second) compare also =
    let to : tick ≤ second = release_is_later bench a b second tick also compare.until in
    let from : second ≤ tick = release_is_later bench a b tick second compare also.until in
    let same : tick ≡ second = omega (arith, to, from) in
    ap Release same
runs-one bench a b (Release tick) Same compare also = absurd (compare.differ (also tick compare.in_run))
runs-one bench a b Same (Release tick) compare also = absurd (also.differ (compare tick also.in_run))
runs-one bench a b Same Same compare also = refl
runs-one bench a b verdict Seal compare also = absurd also
runs-one bench a b verdict (Outside at) compare also = absurd also
runs-one bench a b Seal second compare also = absurd compare
runs-one bench a b (Outside at) second compare also = absurd compare

pub verdict_is_one : VerdictIsOne
verdict_is_one bench one other verdict second (inl differ) (inl also) = images-one one other verdict second differ also
verdict_is_one bench one other verdict second (inl differ) (inr also) =
    absurd (agree_not_differ one other verdict also.images differ)
verdict_is_one bench one other verdict second (inr decide) (inl also) =
    absurd (agree_not_differ one other second decide.images also)
verdict_is_one bench one other verdict second (inr decide) (inr also) =
    runs-one bench (first_of bench one) (first_of bench other) verdict second decide.runs also.runs
