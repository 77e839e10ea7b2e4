-- The seal of an image is that of some registers, so it goes by the addresses that it holds.
use Rattle.std.proofs.Common.{◌≡◌, ◌&&◌, Bool, true, false, List, refl, ap, sym, ◌∙◌, if◌then◌else◌}
use Rattle.chip_words.specs.Encap.{Encap, first_encap, installed, seal}
use Rattle.chip_words.specs.Seals.{is_in, nowhere}
use Rattle.boot_code.specs.Boot.{borders_of, is_good}
use Rattle.boot_code.specs.ImageSeal.{image_seal, image_structure, is_signed, seal_of}
use Rattle.elf_image.specs.Image.{Segment}
use Rattle.ip_encap.specs.declared.encap.Borders.{Borders}
use Rattle.right_laws.proofs.Bounding.{areas_go_by_addresses}
use Rattle.stage_laws.specs.TwoRuns.{SealSame}

-- the registers that borders are installed in, or those of a reset, which seal nothing
abbrev encap_if : Bool → Borders → Encap
encap_if has borders = if has then installed borders.c0 borders.b2 borders.b1 else first_encap

abbrev image_encap : List Segment → Encap
image_encap image = encap_if (is_signed image && is_good (image_structure image)) (borders_of (image_structure image))

seal_if : (has : Bool) (borders : Borders) → (if has then seal_of borders else nowhere) ≡ seal (encap_if has borders)
seal_if true borders = refl
seal_if false borders = refl

image_seal-Encap : (image : List Segment) → image_seal image ≡ seal (image_encap image)
unfolding image_seal
image_seal-Encap image =
    seal_if (is_signed image && is_good (image_structure image)) (borders_of (image_structure image))

-- two images whose seals hold the same addresses have the same seal
pub seals_go_by_addresses : (one other : List Segment) → SealSame one other → image_seal one ≡ image_seal other
seals_go_by_addresses one other same =
    let first : image_seal one ≡ seal (image_encap one) = image_seal-Encap one in
    let second : image_seal other ≡ seal (image_encap other) = image_seal-Encap other in
    first
    ∙ areas_go_by_addresses.seals (image_encap one) (image_encap other)
    (λ at. ap (λ held. is_in held at) (sym first) ∙ same at ∙ ap (λ held. is_in held at) second)
    ∙ sym second
