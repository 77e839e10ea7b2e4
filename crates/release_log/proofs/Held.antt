-- What outlasts a boot and a cut, where the image seals itself: whatever is saved is the image's, and the structure
-- stands.
use Rattle.std.proofs.Common.{◌≡◌, ◌<◌, ◌+◌, ◌*◌, ◌%◌, ◌==◌, ℕ, List, Bool, true, false, slice_index, arith, refl, ap, sym, ◌∙◌, subst, if◌then◌else◌}
use Rattle.std.specs.Prelude.{Option, Some, None}
use Rattle.std.proofs.lemmas.Bool.Decides.{nat_tests}
use Rattle.chip_words.specs.declared.seals.Seal.{Seal}
use Rattle.chip_words.specs.declared.sizes.Size.TheVariants.{Word}
use Rattle.chip_words.specs.Access.{Accessed, blank}
use Rattle.chip_words.specs.Encap.{Encap}
use Rattle.chip_words.specs.Map.{is_fram}
use Rattle.chip_words.specs.Memory.{loaded}
use Rattle.chip_words.specs.Seals.{is_in}
use Rattle.chip_words.specs.Steps.{begun}
use Rattle.chip_words.specs.Script.{Ran}
use Rattle.elf_image.specs.Image.{Segment, byte_of}
use Rattle.boot_code.specs.declared.boots.Act.{Act}
use Rattle.boot_code.specs.declared.boots.Act.TheVariants as act
use Rattle.boot_code.specs.declared.boots.BootStep.TheVariants.{Going}
use Rattle.boot_code.specs.declared.boots.Keep.{Keep}
use Rattle.boot_code.specs.Boot.{EMPTY, ERASING, POINTER_AT, SAVED, SIGNATURE, SIGNATURE_AT, Stepped, boot_step, borders_of, checked, first_wiped, is_good, signed, started, structure, word_at, word_read}
use Rattle.boot_code.specs.Facts.{Fits, IsPointer, IsStructure, boot_word, is_unerased, structure_at}
use Rattle.boot_code.specs.ImageSeal.{image_seal, image_structure, image_word, structure_in}
use Rattle.boot_code.specs.Place.{Place, Start, Sig, Ptr, Word0, Word1, Word2, Word3, SavePtr, SaveMark, MarkErase, Wipe, MarkEmpty, DoneWith, DoneWithout, Structure}
use Rattle.boot_code.proofs.Accesses.{chosen, read_of, word_read-is}
use Rattle.boot_code.proofs.Fitting.{structure-same, word_at-even}
use Rattle.boot_code.proofs.Wiping.{fram-cases}
use Rattle.step_laws.proofs.Shapes.{either_holds}
use Rattle.chip_core.specs.Boot.{boot_run, booted_from, ended_unless_cut, is_next_over}
use Rattle.chip_core.specs.State.{State}
use Rattle.chip_core.specs.Turns.{boot_turn}
use Rattle.release_log.specs.Lasting.{SealsItself, image_pointer}
use Rattle.release_log.proofs.Spared.{HasStructure, image-GivesSeal, image_encap}

-- ---- the words of the structure

-- a word whose bytes are those of the image
pub word-same :
    (image : List Segment) (memory : List ℕ) (at : ℕ) → slice_index memory at ≡ byte_of image at →
    slice_index memory (at + 1) ≡ byte_of image (at + 1) → boot_word memory at ≡ image_word image at
unfolding boot_word image_word loaded
word-same image memory at low high =
    ap (λ n. if is_fram at then n + 0x100 * slice_index memory (at + 1) else blank Word) low
    ∙ ap (λ n. if is_fram at then byte_of image at + 0x100 * n else blank Word) high

-- a seal holds addresses of main FRAM
inside-below : (seal : Seal) (at : ℕ) → is_in seal at ≡ true → at < 0x14000
unfolding is_in
inside-below seal at inside = grind (arith, nat_tests)

pub inside-fram : (seal : Seal) (at : ℕ) → is_in seal at ≡ true → is_fram at ≡ true
unfolding is_in
inside-fram seal at inside = grind (arith, nat_tests, fram-cases at)

word_at-plain : (p k : ℕ) → 16 * p + 7 < 0x14000 → k < 4 → word_at p k ≡ 16 * p + 2 * k
unfolding word_at
word_at-plain p k below few = omega arith

word-of-structure :
    (image : List Segment) (memory : List ℕ) (k : ℕ) → SealsItself image → HasStructure image memory → k < 4 →
    boot_word memory (word_at (image_pointer image) k) ≡ image_word image (word_at (image_pointer image) k)
word-of-structure image memory k seals has few =
    let begin = 16 * image_pointer image in
    let below : begin + 7 < 0x14000 = inside-below (image_seal image) (begin + 7) (seals 7 (omega arith)) in
    let plain : word_at (image_pointer image) k ≡ begin + 2 * k = word_at-plain (image_pointer image) k below few in
    let next : begin + (2 * k + 1) ≡ begin + 2 * k + 1 = omega arith in
    let low : slice_index memory (begin + 2 * k) ≡ byte_of image (begin + 2 * k) = has (2 * k) (omega arith) in
    let high : slice_index memory (begin + (2 * k + 1)) ≡ byte_of image (begin + (2 * k + 1)) =
    has (2 * k + 1) (omega arith) in
    rw plain
    (word-same image memory (begin + 2 * k) low
    (subst (λ (n : ℕ). slice_index memory n ≡ byte_of image n) next high))

pub structure-of-image :
    (image : List Segment) (memory : List ℕ) → SealsItself image → HasStructure image memory →
    structure_at memory (image_pointer image) ≡ image_structure image
unfolding image_structure
structure-of-image image memory seals has =
    structure-same (structure_at memory (image_pointer image)) (structure_in image (image_pointer image))
    (word-of-structure image memory 0 seals has (omega arith))
    (word-of-structure image memory 1 seals has (omega arith))
    (word-of-structure image memory 2 seals has (omega arith))
    (word-of-structure image memory 3 seals has (omega arith))

-- ---- what outlasts a cut

-- no erase has begun, and whatever is saved is the image's
pub record Rests (image : List Segment) (keep : Keep) (memory : List ℕ) : Type 0 where
  pub marked : is_unerased keep.mark ≡ true
  pub saved : keep.mark ≡ SAVED → keep.ptr ≡ image_pointer image
  pub signed : keep.mark ≡ EMPTY → boot_word memory SIGNATURE_AT ≡ SIGNATURE
  pub first : keep.mark ≡ EMPTY → boot_word memory POINTER_AT ≡ image_pointer image
  pub bytes : HasStructure image memory

-- the places of a boot that finds a good structure
abbrev pub is_lasting : Place → Bool
is_lasting MarkErase = false
is_lasting (Wipe at) = false
is_lasting MarkEmpty = false
is_lasting DoneWithout = false
is_lasting place = true

-- a boot comes to a good structure, or came to the image's
abbrev pub Stands : List Segment → Option Place → Keep → Encap → Type 0
Stands image (Some place) keep encap = is_lasting place ≡ true
Stands image None keep encap = (keep.mark ≡ SAVED) × (encap ≡ image_encap image)

pub record IsHeld (image : List Segment) (chip : State) : Type 0 where
  pub rests : Rests image chip.keep chip.bus.memory
  pub kept : chip.bus.kept ≡ image_seal image
  pub stands : Stands image chip.boot chip.keep chip.bus.units.encap

-- ---- a step of a boot

-- a chip with this place next
pub record CanBoot (image : List Segment) (place : Place) (chip : State) : Type 0 where
  pub rests : Rests image chip.keep chip.bus.memory
  pub kept : chip.bus.kept ≡ image_seal image
  pub lasting : is_lasting place ≡ true
  pub fit : Fits place chip.keep chip.bus.memory

-- the pointer of a boot is the image's
pointer-same :
    (image : List Segment) (keep : Keep) (memory : List ℕ) (p : ℕ) → Rests image keep memory →
    IsPointer keep memory p → p ≡ image_pointer image
pointer-same image keep memory p rests is = by_mark (keep.mark == SAVED) refl
  where
    by_mark : (test : Bool) → (keep.mark == SAVED) ≡ test → p ≡ image_pointer image
    by_mark true e =
        let marked : keep.mark ≡ SAVED = grind (arith, nat_tests) in
        is.saved marked ∙ rests.saved marked
    by_mark false e =
        let unerased = rests.marked in
        let marked : keep.mark ≡ EMPTY = grind (arith, nat_tests) in
        is.first marked ∙ rests.first marked

started-lasting : (keep : Keep) → is_unerased keep.mark ≡ true → is_lasting (started keep) ≡ true
started-lasting keep unerased = by_erasing (keep.mark == ERASING) refl
  where
    by_erasing :
        (test : Bool) → (keep.mark == ERASING) ≡ test →
        is_lasting (if test then first_wiped else if keep.mark == SAVED then Word0 keep.ptr else Sig) ≡ true
    by_erasing true e = absurd (grind (arith, nat_tests))
    by_erasing false e =
        either_holds (λ (place : Place). is_lasting place ≡ true) (keep.mark == SAVED) (Word0 keep.ptr) Sig refl refl

signed-lasting : (word : ℕ) → word ≡ SIGNATURE → is_lasting (signed word) ≡ true
signed-lasting word e = ap (λ word. is_lasting (signed word)) e

checked-lasting :
    (keep : Keep) (p : ℕ) (words : Structure) → is_good words ≡ true → is_lasting (checked keep p words) ≡ true
checked-lasting keep p words good =
    let found : Place = if keep.mark == SAVED then DoneWith p words else SavePtr p words in
    ap is_lasting (chosen (is_good words) found MarkErase good)
    ∙ either_holds (λ (next : Place). is_lasting next ≡ true) (keep.mark == SAVED) (DoneWith p words) (SavePtr p words)
    refl refl

-- the words at the image's pointer are its structure
words-of-image :
    (image : List Segment) (keep : Keep) (memory : List ℕ) (p : ℕ) (words : Structure) → SealsItself image →
    Rests image keep memory → p ≡ image_pointer image → words ≡ structure_at memory p → words ≡ image_structure image
words-of-image image keep memory p words seals rests same is =
    is ∙ ap (structure_at memory) same ∙ structure-of-image image memory seals rests.bytes

-- what a step that reads comes to, by the word
abbrev reading : (ℕ → Act) → (ℕ → Place) → Accessed → Ran Stepped
reading told next read =
    record { value = record { place = next read.answer; step = Going (told read.answer) }; part = read.part }

read-IsHeld :
    (image : List Segment) (chip : State) (at : ℕ) (told : ℕ → Act) (next : ℕ → Place) → at % 2 ≡ 0 →
    IsHeld image (booted_from (reading told next (read_of at (begun chip.bus))) chip) →
    IsHeld image (booted_from (reading told next (word_read at (begun chip.bus))) chip)
read-IsHeld image chip at told next even held =
    subst (λ (read : Accessed). IsHeld image (booted_from (reading told next read) chip))
    (sym (word_read-is at (begun chip.bus) even)) held

pub boot-IsHeld :
    (image : List Segment) (place : Place) (chip : State) → SealsItself image → CanBoot image place chip →
    IsHeld image (boot_turn place chip)
unfolding boot_turn boot_run boot_step
boot-IsHeld image Start chip seals can =
    record { rests = can.rests; kept = can.kept; stands = started-lasting chip.keep can.rests.marked }
boot-IsHeld image Sig chip seals can =
    read-IsHeld image chip SIGNATURE_AT (λ word. act.Nothing) signed refl
    (record { rests = can.rests; kept = can.kept; stands = signed-lasting _ (can.rests.signed can.fit) })
boot-IsHeld image Ptr chip seals can =
    read-IsHeld image chip POINTER_AT (λ word. act.Nothing) Word0 refl
    (record { rests = can.rests; kept = can.kept; stands = refl })
boot-IsHeld image (Word0 p) chip seals can =
    read-IsHeld image chip (word_at p 0) (act.Struct 0) (Word1 p) (word_at-even p 0)
    (record { rests = can.rests; kept = can.kept; stands = refl })
boot-IsHeld image (Word1 p w0) chip seals can =
    read-IsHeld image chip (word_at p 1) (act.Struct 1) (Word2 p w0) (word_at-even p 1)
    (record { rests = can.rests; kept = can.kept; stands = refl })
boot-IsHeld image (Word2 p w0 w1) chip seals can =
    read-IsHeld image chip (word_at p 2) (act.Struct 2) (Word3 p w0 w1) (word_at-even p 2)
    (record { rests = can.rests; kept = can.kept; stands = refl })
boot-IsHeld image (Word3 p w0 w1 w2) chip seals can =
    let memory = chip.bus.memory in
    let words = structure w0 w1 w2 (boot_word memory (word_at p 3)) in
    let here : words ≡ structure_at memory p =
    structure-same words (structure_at memory p) can.fit.1 can.fit.2 can.fit.3 refl in
    let same : p ≡ image_pointer image = pointer-same image chip.keep memory p can.rests can.fit.0 in
    let known : words ≡ image_structure image =
    words-of-image image chip.keep memory p words seals can.rests same here in
    let good : is_good words ≡ true = ap is_good known ∙ (image-GivesSeal image seals).good in
    read-IsHeld image chip (word_at p 3) (act.Struct 3) (λ word. checked chip.keep p (structure w0 w1 w2 word))
    (word_at-even p 3)
    (record { rests = can.rests; kept = can.kept; stands = checked-lasting chip.keep p words good })
boot-IsHeld image (SavePtr p words) chip seals can =
    let empty : chip.keep.mark ≡ EMPTY = can.fit.0 in
    record {
      rests =
          either_holds (λ (keep : Keep). Rests image keep chip.bus.memory) (is_next_over chip.bus) chip.keep
          (record (chip.keep) { ptr = p }) can.rests
          (record {
            marked = can.rests.marked;
            saved = λ e. absurd (omega arith);
            signed = can.rests.signed;
            first = can.rests.first;
            bytes = can.rests.bytes;
          });
      kept = can.kept;
      stands = refl;
    }
boot-IsHeld image (SaveMark p words) chip seals can =
    let same : p ≡ image_pointer image = pointer-same image chip.keep chip.bus.memory p can.rests can.fit.1 in
    record {
      rests =
          either_holds (λ (keep : Keep). Rests image keep chip.bus.memory) (is_next_over chip.bus) chip.keep
          (record (chip.keep) { mark = SAVED }) can.rests
          (record {
            marked = refl;
            saved = λ e. sym can.fit.3 ∙ same;
            signed = λ e. absurd (omega arith);
            first = λ e. absurd (omega arith);
            bytes = can.rests.bytes;
          });
      kept = can.kept;
      stands = refl;
    }
boot-IsHeld image (DoneWith p words) chip seals can = by_budget chip.bus.budget
  where
    read : State
    read = record chip { bus = begun chip.bus; boot = Some (DoneWith p words) }

    known : words ≡ image_structure image
    known =
        let memory = chip.bus.memory in
        let is : IsStructure memory p words = can.fit.2 in
        let here : words ≡ structure_at memory p =
        structure-same words (structure_at memory p) is.control is.second_border is.first_border is.check in
        words-of-image image chip.keep memory p words seals can.rests (can.fit.1 ∙ can.rests.saved can.fit.0) here

    by_budget : (budget : Option ℕ) → IsHeld image (ended_unless_cut budget (borders_of words) read)
    by_budget (Some budget) = record { rests = can.rests; kept = can.kept; stands = refl }
    by_budget None =
        let end = ended_unless_cut None (borders_of words) read in
        record {
          rests = can.rests;
          kept =
              ap (λ words. (ended_unless_cut None (borders_of words) read).bus.kept) known
              ∙ sym (image-GivesSeal image seals).seal;
          stands = (can.fit.0, ap (λ words. (ended_unless_cut None (borders_of words) read).bus.units.encap) known);
        }
boot-IsHeld image place chip seals can = absurd (grind (arith, can.lasting))
