-- The laws of whole boots.
use Rattle.std.specs.Prelude.{◌≡◌, ℕ, not, true, if◌then◌else◌, List, slice_index}
use Rattle.chip_words.specs.BusPart.{BusPart}
use Rattle.elf_image.specs.Fram.{OnFram}
use Rattle.elf_image.specs.Image.{Segment, byte_of}
use Rattle.boot_code.specs.declared.boots.Keep.{Keep}
use Rattle.boot_code.specs.Place.{Start}
use Rattle.boot_code.specs.Boot.{ERASING, SAVED, borders_of, is_good, no_borders}
use Rattle.boot_code.specs.Facts.{IsBlank, IsUncut, structure_at}
use Rattle.boot_code.specs.ImageSeal.{image_seal, image_structure, is_signed, seal_of}
use Rattle.boot_code.specs.Runs.{EndsAfter, boot_at, first_boot}

-- How many steps a boot takes, the last included: without a signature; with a good structure that is saved first, or that
-- was saved before; with a bad one; and where an erase begins or goes on.

abbrev pub steps_without_signature : ℕ
steps_without_signature = 3

abbrev pub steps_of_first_structure : ℕ
steps_of_first_structure = 10

abbrev pub steps_of_saved_structure : ℕ
steps_of_saved_structure = 6

abbrev pub steps_of_bad_structure : ℕ
steps_of_bad_structure = 32522

abbrev pub steps_of_erase : ℕ
steps_of_erase = 32515

-- those of the first boot of an image
abbrev pub first_steps : List Segment → ℕ
first_steps image =
    if not (is_signed image) then steps_without_signature
    else if is_good (image_structure image) then steps_of_first_structure
    else steps_of_bad_structure

-- FRAM is as an image gives it
abbrev pub HoldsImage : List Segment → List ℕ → Type 0
HoldsImage image memory = OnFram (λ at. slice_index memory at ≡ byte_of image at)

-- the first boot of an image gives borders that have the image's seal, after so many steps
abbrev pub FirstBootGivesImageSeal : Type 0
FirstBootGivesImageSeal =
    (image : List Segment) (part : BusPart) → IsUncut part → HoldsImage image part.memory →
    EndsAfter (λ borders memory. seal_of borders ≡ image_seal image) (first_steps image) (first_boot part)

-- a boot whose pointer is saved installs the structure that it leads to, where that is good
abbrev pub SavedBootInstallsStructure : Type 0
SavedBootInstallsStructure =
    (keep : Keep) (part : BusPart) → keep.mark ≡ SAVED → is_good (structure_at part.memory keep.ptr) ≡ true →
    EndsAfter (λ borders memory. borders ≡ borders_of (structure_at memory keep.ptr)) steps_of_saved_structure
    (boot_at Start keep part)

-- a boot that finds an erase begun wipes all of FRAM, and installs nothing
abbrev pub EraseWipesFram : Type 0
EraseWipesFram =
    (keep : Keep) (part : BusPart) → keep.mark ≡ ERASING → IsUncut part →
    EndsAfter (λ borders memory. (borders ≡ no_borders) × IsBlank memory) steps_of_erase (boot_at Start keep part)
