-- The law of two runs: two images that agree, under one bench, look the same up to a tick before which all items agree.
use Rattle.std.specs.Prelude.{◌≡◌, ◌<◌, ℕ, true, false, List}
use Rattle.chip_words.specs.Map.{is_fram}
use Rattle.chip_words.specs.Seals.{is_in}
use Rattle.boot_code.specs.ImageSeal.{image_seal}
use Rattle.elf_image.specs.Image.{Segment, byte_of}
use Rattle.stimulus.specs.Stimulus.{Stimulus}
use Rattle.chip_core.specs.FirstState.{first_state}
use Rattle.chip_core.specs.Lines.{lines_of}
use Rattle.chip_core.specs.Run.{chip_after}
use Rattle.chip_core.specs.State.{State}
use Rattle.release_log.specs.Erasing.{chip_at}
use Rattle.stage_laws.specs.OneTick.{ItemsAgree}
use Rattle.stage_laws.specs.Seen.{seen}

-- the first boots of two images seal the same addresses
abbrev pub SealSame : List Segment → List Segment → Type 0
SealSame one other = (at : ℕ) → is_in (image_seal one) at ≡ is_in (image_seal other) at

-- an address of FRAM that the first boot of an image doesn't seal
pub record IsUnsealed (image : List Segment) (at : ℕ) : Type 0 where
  pub fram : is_fram at ≡ true
  pub unsealed : is_in (image_seal image) at ≡ false

-- two images agree: their first boots seal the same addresses, and FRAM is equal at all others
pub record ImagesAgree (one other : List Segment) : Type 0 where
  pub seal : SealSame one other
  pub bytes : (at : ℕ) → IsUnsealed one at → byte_of one at ≡ byte_of other at

-- the chip of an image before the first tick of a run
abbrev pub first_of : Stimulus → List Segment → State
first_of bench image = first_state image bench.fill

-- the items of the runs of two chips agree in each tick before one
abbrev pub AgreeUntil : Stimulus → State → State → ℕ → Type 0
AgreeUntil bench a b n =
    (k : ℕ) → k < n → ItemsAgree bench (chip_after k bench a) (chip_after k bench b)

-- before a tick the same is public in two runs, and all lines of the ticks before it are equal
pub record RunsAlike (bench : Stimulus) (one other : List Segment) (n : ℕ) : Type 0 where
  pub public : seen (chip_at one bench n) ≡ seen (chip_at other bench n)
  pub lines :
      (k : ℕ) → k < n →
      lines_of bench (chip_at one bench k) ≡ lines_of bench (chip_at other bench k)

-- whatever a bench brings, and whenever its cuts take power away
abbrev pub RunsAgree : Type 0
RunsAgree =
    (one other : List Segment) (bench : Stimulus) (n : ℕ) →
    ImagesAgree one other → AgreeUntil bench (first_of bench one) (first_of bench other) n →
    RunsAlike bench one other n
