-- Two images before they run, by the chips that they give.
use Rattle.std.proofs.Common.{◌≡◌, ◌≢◌, ℕ, ◌<◌, ◌∙◌, sym, ap, List, true, false, slice_index, arith}
use Rattle.std.specs.Prelude.{IsTrue}
use Rattle.std.proofs.lemmas.Bool.Decides.{nat_tests}
use Rattle.chip_words.specs.Map.{has_bytes, is_fram, region_at}
use Rattle.chip_words.specs.Seals.{is_in}
use Rattle.boot_code.specs.ImageSeal.{image_seal}
use Rattle.elf_image.specs.Image.{Segment, byte_of}
use Rattle.stimulus.specs.Stimulus.{Stimulus}
use Rattle.chip_core.specs.State.{State}
use Rattle.release_log.proofs.Lasts.{first-get}
use Rattle.stage_laws.specs.TwoRuns.{ImagesAgree, SealSame, first_of}
use Rattle.stage_laws.specs.Verdicts.{DifferFirstAt}

-- addresses of FRAM hold bytes, and lie below 14000h
pub fram_has_bytes : (at : ℕ) → is_fram at ≡ true → IsTrue (has_bytes (region_at at))
unfolding is_fram region_at
fram_has_bytes at fram = grind (arith, nat_tests, fram)

pub fram_ends : (at : ℕ) → is_fram at ≡ true → at < 0x14000
unfolding is_fram region_at
fram_ends at fram = grind (arith, nat_tests, fram)

-- images with one seal seal the same addresses
pub same_seal : (one other : List Segment) → image_seal one ≡ image_seal other → SealSame one other
same_seal one other same = λ at. ap (λ seal. is_in seal at) same

module _ (bench : Stimulus) (one other : List Segment) (a b : State) (first_a : a ≡ first_of bench one) (first_b : b ≡ first_of bench other) where
  holds_one : (at : ℕ) → is_fram at ≡ true → slice_index a.bus.memory at ≡ byte_of one at
  holds_one at fram = ap (λ (chip : State). slice_index chip.bus.memory at) first_a ∙ first-get one bench.fill at fram

  holds_other : (at : ℕ) → is_fram at ≡ true → slice_index b.bus.memory at ≡ byte_of other at
  holds_other at fram = ap (λ (chip : State). slice_index chip.bus.memory at) first_b ∙ first-get other bench.fill at fram

  -- bytes that are equal in the chips are in the images
  same_byte : (at : ℕ) → is_fram at ≡ true → slice_index a.bus.memory at ≡ slice_index b.bus.memory at → byte_of one at ≡ byte_of other at
  same_byte at fram same = sym (holds_one at fram) ∙ same ∙ holds_other at fram

  -- and those of images are in the chips
  same_held : (at : ℕ) → is_fram at ≡ true → byte_of one at ≡ byte_of other at → slice_index a.bus.memory at ≡ slice_index b.bus.memory at
  same_held at fram same = holds_one at fram ∙ same ∙ sym (holds_other at fram)

  pub images_agree : image_seal one ≡ image_seal other → ((at : ℕ) → is_fram at ≡ true → is_in (image_seal one) at ≡ false → slice_index a.bus.memory at ≡ slice_index b.bus.memory at) → ImagesAgree one other
  images_agree seals equal = record {
    seal = same_seal one other seals;
    bytes = λ at outside. same_byte at outside.fram (equal at outside.fram outside.unsealed);
  }

  pub differ_first : (at : ℕ) → is_fram at ≡ true → is_in (image_seal one) at ≡ false → slice_index a.bus.memory at ≢ slice_index b.bus.memory at → ((lower : ℕ) → lower < at → is_fram lower ≡ true → is_in (image_seal one) lower ≡ false → slice_index a.bus.memory lower ≡ slice_index b.bus.memory lower) → DifferFirstAt one other at
  differ_first at fram outside differ least = record {
    differ = record {
      outside = record { fram = fram; unsealed = outside };
      bytes = λ same. differ (same_held at fram same);
    };
    least = λ lower below found. found.bytes (same_byte lower found.outside.fram (least lower below found.outside.fram found.outside.unsealed));
  }
