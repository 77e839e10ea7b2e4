-- The seal of an image: what its first boot, where no cut comes, leaves sealed.
use Rattle.std.specs.Prelude.{ℕ, ◌+◌, ◌*◌, ◌==◌, ◌&&◌, Bool, if◌then◌else◌, List}
use Rattle.chip_words.specs.declared.seals.Seal.{Seal}
use Rattle.chip_words.specs.declared.sizes.Size.TheVariants.{Word}
use Rattle.chip_words.specs.Access.{blank}
use Rattle.chip_words.specs.Encap.{installed, seal}
use Rattle.chip_words.specs.Map.{is_fram}
use Rattle.chip_words.specs.Seals.{nowhere}
use Rattle.ip_encap.specs.declared.encap.Borders.{Borders}
use Rattle.elf_image.specs.Image.{Segment, byte_of}
use Rattle.boot_code.specs.Place.{Structure}
use Rattle.boot_code.specs.Boot.{POINTER_AT, SIGNATURE, SIGNATURE_AT, borders_of, is_good, structure, word_at}

-- the word that a boot reads at an even address
unfoldable pub image_word : List Segment → ℕ → ℕ
image_word image at = if is_fram at then byte_of image at + 0x100 * byte_of image (at + 1) else blank Word

-- the structure that a pointer leads to
abbrev pub structure_in : List Segment → ℕ → Structure
structure_in image p =
    structure (image_word image (word_at p 0)) (image_word image (word_at p 1)) (image_word image (word_at p 2))
    (image_word image (word_at p 3))

-- that of the image's pointer
unfoldable pub image_structure : List Segment → Structure
image_structure image = structure_in image (image_word image POINTER_AT)

abbrev pub is_signed : List Segment → Bool
is_signed image = image_word image SIGNATURE_AT == SIGNATURE

-- the seal once borders are installed
abbrev pub seal_of : Borders → Seal
seal_of borders = seal (installed borders.c0 borders.b2 borders.b1)

-- the seal at the end of the first boot: without a good structure there is none
unfoldable pub image_seal : List Segment → Seal
image_seal image =
    if is_signed image && is_good (image_structure image) then seal_of (borders_of (image_structure image))
    else nowhere
