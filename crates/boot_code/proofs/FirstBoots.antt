-- The first boot of an image, and a boot whose pointer is saved.
use Rattle.std.proofs.Common.{◌≡◌, ◌+◌, ◌*◌, ◌%◌, ◌==◌, ◌&&◌, not, ℕ, List, Bool, true, false, suc, arith, refl, ap, sym, ◌∙◌, subst, if◌then◌else◌, slice_index}
use Rattle.std.proofs.lemmas.Bool.Decides.{nat_tests}
use Rattle.chip_words.specs.declared.sizes.Size.TheVariants.{Word}
use Rattle.chip_words.specs.BusPart.{BusPart}
use Rattle.chip_words.specs.Access.{blank}
use Rattle.chip_words.specs.Map.{is_fram}
use Rattle.chip_words.specs.Memory.{loaded}
use Rattle.chip_words.specs.Seals.{nowhere}
use Rattle.ip_encap.specs.declared.encap.Borders.{Borders}
use Rattle.elf_image.specs.Image.{Segment, byte_of}
use Rattle.boot_code.specs.Place.{Place, Ptr, Word0, SavePtr, MarkErase, DoneWith, DoneWithout, Structure}
use Rattle.boot_code.specs.Boot.{ERASING, POINTER_AT, SAVED, SIGNATURE, SIGNATURE_AT, borders_of, checked, first_keep, is_good, no_borders, signed, started, word_at}
use Rattle.boot_code.specs.Facts.{IsUncut, boot_word, structure_at}
use Rattle.boot_code.specs.ImageSeal.{image_seal, image_structure, image_word, is_signed, seal_of, structure_in}
use Rattle.boot_code.specs.Runs.{EndsAfter, boot_at, first_boot, rested}
use Rattle.boot_code.specs.Laws.{FirstBootGivesImageSeal, HoldsImage, SavedBootInstallsStructure}
use Rattle.boot_code.proofs.Accesses.{chosen, unchosen}
use Rattle.boot_code.proofs.Erases.{HoldsBlank, wiped-ends}
use Rattle.boot_code.proofs.Fitting.{word_at-even}
use Rattle.boot_code.proofs.Rows.{row-DoneWith, row-DoneWithout, row-MarkErase, row-Ptr, row-SaveMark, row-SavePtr, row-Sig, row-Start, rows-structure}
use Rattle.boot_code.proofs.Wiping.{fram-cases}

-- up to what stands behind the signature
signed-ends : (P : Borders → List ℕ → Type 0) (n : ℕ) (part : BusPart) → EndsAfter P (suc n) (boot_at (signed (boot_word part.memory SIGNATURE_AT)) first_keep (rested part)) →
    EndsAfter P (suc (suc (suc n))) (first_boot part)
signed-ends P n part e = row-Start P (suc n) first_keep part (row-Sig P n first_keep (rested part) e)

-- without a signature
unsigned-ends : (P : Borders → List ℕ → Type 0) (part : BusPart) → (boot_word part.memory SIGNATURE_AT == SIGNATURE) ≡ false → P no_borders part.memory → EndsAfter P 3 (first_boot part)
unsigned-ends P part n p =
    let same : signed (boot_word part.memory SIGNATURE_AT) ≡ DoneWithout = unchosen (boot_word part.memory SIGNATURE_AT == SIGNATURE) _ _ n in
    signed-ends P 0 part
    (subst (λ (q : Place). EndsAfter P 1 (boot_at q first_keep (rested part))) (sym same) (row-DoneWithout P first_keep (rested part) p))

-- with one, up to what follows from the check
abbrev pub first_structure : List ℕ → Structure
first_structure memory = structure_at memory (boot_word memory POINTER_AT)

checked-ends : (P : Borders → List ℕ → Type 0) (n : ℕ) (part : BusPart) → (boot_word part.memory SIGNATURE_AT == SIGNATURE) ≡ true →
    EndsAfter P (suc n) (boot_at (checked first_keep (boot_word part.memory POINTER_AT) (first_structure part.memory)) first_keep (rested part)) →
    EndsAfter P (suc (suc (suc (suc (suc (suc (suc (suc n)))))))) (first_boot part)
checked-ends P n part s e =
    let same : signed (boot_word part.memory SIGNATURE_AT) ≡ Ptr = chosen (boot_word part.memory SIGNATURE_AT == SIGNATURE) _ _ s in
    signed-ends P (suc (suc (suc (suc (suc n))))) part
    (subst (λ (q : Place). EndsAfter P (suc (suc (suc (suc (suc (suc n)))))) (boot_at q first_keep (rested part))) (sym same)
    (row-Ptr P (suc (suc (suc (suc n)))) first_keep (rested part)
    (rows-structure P n (boot_word part.memory POINTER_AT) first_keep (rested part) e)))

-- a good structure is saved and installed
good-ends : (P : Borders → List ℕ → Type 0) (part : BusPart) → (boot_word part.memory SIGNATURE_AT == SIGNATURE) ≡ true → is_good (first_structure part.memory) ≡ true →
    P (borders_of (first_structure part.memory)) part.memory → EndsAfter P 10 (first_boot part)
good-ends P part s g e =
    let p : ℕ = boot_word part.memory POINTER_AT in
    let words : Structure = first_structure part.memory in
    let same : checked first_keep p words ≡ SavePtr p words = chosen (is_good words) _ _ g in
    checked-ends P 2 part s
    (subst (λ (q : Place). EndsAfter P 3 (boot_at q first_keep (rested part))) (sym same)
    (row-SavePtr P 1 p words first_keep (rested part)
    (row-SaveMark P 0 p words _ (rested part) (row-DoneWith P p words _ (rested part) e))))

-- a bad one leads to an erase
bad-ends : (P : Borders → List ℕ → Type 0) (part : BusPart) → HoldsBlank P → IsUncut part → (boot_word part.memory SIGNATURE_AT == SIGNATURE) ≡ true → is_good (first_structure part.memory) ≡ false →
    EndsAfter P 32522 (first_boot part)
bad-ends P part blank uncut s g =
    let p : ℕ = boot_word part.memory POINTER_AT in
    let words : Structure = first_structure part.memory in
    let same : checked first_keep p words ≡ MarkErase = unchosen (is_good words) _ _ g in
    checked-ends P 32514 part s
    (subst (λ (q : Place). EndsAfter P 32515 (boot_at q first_keep (rested part))) (sym same)
    (row-MarkErase P 32513 first_keep (rested part)
    (wiped-ends P (record first_keep { mark = ERASING }) (rested part) blank refl (record { unbudgeted = uncut.unbudgeted; size = uncut.size }))))

-- a word of the image is that of memory
fram-odd : (at : ℕ) → is_fram at ≡ true → at % 2 ≡ 0 → is_fram (at + 1) ≡ true
fram-odd at f e = grind (arith, nat_tests, fram-cases at, fram-cases (at + 1))

word-same : (image : List Segment) (memory : List ℕ) (at : ℕ) → HoldsImage image memory → at % 2 ≡ 0 → boot_word memory at ≡ image_word image at
unfolding boot_word image_word loaded
word-same image memory at h e = by_fram (is_fram at) refl
  where
    by_fram : (v : Bool) → is_fram at ≡ v →
        (if v then slice_index memory at + 0x100 * slice_index memory (at + 1) else blank Word)
        ≡ (if v then byte_of image at + 0x100 * byte_of image (at + 1) else blank Word)
    by_fram true f = rw (h at f, h (at + 1) (fram-odd at f e)) refl
    by_fram false f = refl

structure_at-same : (image : List Segment) (memory : List ℕ) (p : ℕ) → HoldsImage image memory → structure_at memory p ≡ structure_in image p
structure_at-same image memory p h =
    rw (word-same image memory (word_at p 0) h (word_at-even p 0), word-same image memory (word_at p 1) h (word_at-even p 1), word-same image memory (word_at p 2) h (word_at-even p 2), word-same image memory (word_at p 3) h (word_at-even p 3)) refl

structure-same : (image : List Segment) (memory : List ℕ) → HoldsImage image memory → first_structure memory ≡ image_structure image
unfolding image_structure
structure-same image memory h =
    ap (structure_at memory) (word-same image memory POINTER_AT h refl) ∙ structure_at-same image memory (image_word image POINTER_AT) h

-- the seal of an image, by its three cases
seal-unsigned : (image : List Segment) → is_signed image ≡ false → nowhere ≡ image_seal image
unfolding image_seal
seal-unsigned image n = sym (unchosen (is_signed image && is_good (image_structure image)) _ _ (ap (λ b. b && is_good (image_structure image)) n))

seal-good : (image : List Segment) → is_signed image ≡ true → is_good (image_structure image) ≡ true → seal_of (borders_of (image_structure image)) ≡ image_seal image
unfolding image_seal
seal-good image s g = sym (chosen (is_signed image && is_good (image_structure image)) _ _ (ap (λ b. b && is_good (image_structure image)) s ∙ g))

seal-bad : (image : List Segment) → is_signed image ≡ true → is_good (image_structure image) ≡ false → nowhere ≡ image_seal image
unfolding image_seal
seal-bad image s g = sym (unchosen (is_signed image && is_good (image_structure image)) _ _ (ap (λ b. b && is_good (image_structure image)) s ∙ g))

pub first_boot_gives_image_seal : FirstBootGivesImageSeal
first_boot_gives_image_seal image part uncut h = by_signature (is_signed image) refl
  where
    P : Borders → List ℕ → Type 0
    P borders memory = seal_of borders ≡ image_seal image

    Ends : ℕ → Type 0
    Ends n = EndsAfter P n (first_boot part)

    sign : (boot_word part.memory SIGNATURE_AT == SIGNATURE) ≡ is_signed image
    sign = ap (λ word. word == SIGNATURE) (word-same image part.memory SIGNATURE_AT h refl)

    words : first_structure part.memory ≡ image_structure image
    words = structure-same image part.memory h

    by_good : (v : Bool) → is_good (image_structure image) ≡ v → is_signed image ≡ true → Ends (if v then 10 else 32522)
    by_good true g s =
        good-ends P part (sign ∙ s) (ap is_good words ∙ g) (ap (λ w. seal_of (borders_of w)) words ∙ seal-good image s g)
    by_good false g s = bad-ends P part (λ memory b. seal-bad image s g) uncut (sign ∙ s) (ap is_good words ∙ g)

    by_signature : (v : Bool) → is_signed image ≡ v → Ends (if not v then 3 else if is_good (image_structure image) then 10 else 32522)
    by_signature true s = by_good (is_good (image_structure image)) refl s
    by_signature false s = unsigned-ends P part (sign ∙ s) (seal-unsigned image s)

pub saved_boot_installs_structure : SavedBootInstallsStructure
saved_boot_installs_structure keep part m g =
    let P : Borders → List ℕ → Type 0 = λ borders memory. borders ≡ borders_of (structure_at memory keep.ptr) in
    let words : Structure = structure_at part.memory keep.ptr in
    let here : started keep ≡ Word0 keep.ptr = unchosen (keep.mark == ERASING) _ _ (grind (arith, nat_tests)) ∙ chosen (keep.mark == SAVED) _ _ (grind (arith, nat_tests)) in
    let there : checked keep keep.ptr words ≡ DoneWith keep.ptr words = chosen (is_good words) _ _ g ∙ chosen (keep.mark == SAVED) _ _ (grind (arith, nat_tests)) in
    row-Start P 4 keep part
    (subst (λ (q : Place). EndsAfter P 5 (boot_at q keep (rested part))) (sym here)
    (rows-structure P 0 keep.ptr keep (rested part)
    (subst (λ (q : Place). EndsAfter P 1 (boot_at q keep (rested part))) (sym there)
    (row-DoneWith P keep.ptr words keep (rested part) refl))))
