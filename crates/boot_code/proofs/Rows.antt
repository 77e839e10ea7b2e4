-- The rows of a boot, each as what it leaves to show of the rest.
use Rattle.std.proofs.Common.{◌≡◌, ◌%◌, ℕ, List, true, suc, refl, sym, subst}
use Rattle.chip_words.specs.BusPart.{BusPart}
use Rattle.chip_words.specs.Access.{Accessed}
use Rattle.ip_encap.specs.declared.encap.Borders.{Borders}
use Rattle.boot_code.specs.declared.boots.Keep.{Keep}
use Rattle.boot_code.specs.Place.{Place, Start, Sig, Ptr, Word0, Word1, Word2, Word3, SavePtr, SaveMark, MarkErase, Wipe, MarkEmpty, DoneWith, DoneWithout, Structure}
use Rattle.boot_code.specs.Boot.{EMPTY, ERASING, POINTER_AT, SAVED, SIGNATURE_AT, boot_step, borders_of, checked, first_wiped, is_going, no_borders, signed, started, structure, wiped, word_at, word_read, word_wiped}
use Rattle.boot_code.specs.Facts.{boot_word, structure_at}
use Rattle.boot_code.specs.Runs.{Booting, EndsAfter, answer_of, boot_at, rested, stepped}
use Rattle.boot_code.proofs.Accesses.{word_read-is}
use Rattle.boot_code.proofs.Fitting.{word_at-even}

pub goes_on : (P : Borders → List ℕ → Type 0) (n : ℕ) (boot : Booting) → is_going (answer_of boot) ≡ true → EndsAfter P (suc n) (stepped boot) → EndsAfter P (suc (suc n)) boot
unfolding EndsAfter
goes_on P n boot g e = (g, e)

-- behind a read the part is as it was
read-rested : (P : Borders → List ℕ → Type 0) (n at : ℕ) (next : ℕ → Place) (keep : Keep) (part : BusPart) → at % 2 ≡ 0 →
    EndsAfter P n (boot_at (next (boot_word part.memory at)) keep (rested part)) →
    EndsAfter P n (boot_at (next (word_read at part).answer) keep (rested (word_read at part).part))
read-rested P n at next keep part even e =
    subst (λ (a : Accessed). EndsAfter P n (boot_at (next a.answer) keep (rested a.part))) (sym (word_read-is at part even)) e

pub row-Start : (P : Borders → List ℕ → Type 0) (n : ℕ) (keep : Keep) (part : BusPart) →
    EndsAfter P (suc n) (boot_at (started keep) keep (rested part)) → EndsAfter P (suc (suc n)) (boot_at Start keep part)
unfolding boot_step
row-Start P n keep part e = goes_on P n (boot_at Start keep part) refl e

pub row-Sig : (P : Borders → List ℕ → Type 0) (n : ℕ) (keep : Keep) (part : BusPart) →
    EndsAfter P (suc n) (boot_at (signed (boot_word part.memory SIGNATURE_AT)) keep (rested part)) → EndsAfter P (suc (suc n)) (boot_at Sig keep part)
unfolding boot_step
row-Sig P n keep part e = goes_on P n (boot_at Sig keep part) refl (read-rested P (suc n) SIGNATURE_AT signed keep part refl e)

pub row-Ptr : (P : Borders → List ℕ → Type 0) (n : ℕ) (keep : Keep) (part : BusPart) →
    EndsAfter P (suc n) (boot_at (Word0 (boot_word part.memory POINTER_AT)) keep (rested part)) → EndsAfter P (suc (suc n)) (boot_at Ptr keep part)
unfolding boot_step
row-Ptr P n keep part e = goes_on P n (boot_at Ptr keep part) refl (read-rested P (suc n) POINTER_AT Word0 keep part refl e)

pub row-Word0 : (P : Borders → List ℕ → Type 0) (n p : ℕ) (keep : Keep) (part : BusPart) →
    EndsAfter P (suc n) (boot_at (Word1 p (boot_word part.memory (word_at p 0))) keep (rested part)) → EndsAfter P (suc (suc n)) (boot_at (Word0 p) keep part)
unfolding boot_step
row-Word0 P n p keep part e =
    goes_on P n (boot_at (Word0 p) keep part) refl (read-rested P (suc n) (word_at p 0) (Word1 p) keep part (word_at-even p 0) e)

pub row-Word1 : (P : Borders → List ℕ → Type 0) (n p w0 : ℕ) (keep : Keep) (part : BusPart) →
    EndsAfter P (suc n) (boot_at (Word2 p w0 (boot_word part.memory (word_at p 1))) keep (rested part)) → EndsAfter P (suc (suc n)) (boot_at (Word1 p w0) keep part)
unfolding boot_step
row-Word1 P n p w0 keep part e =
    goes_on P n (boot_at (Word1 p w0) keep part) refl (read-rested P (suc n) (word_at p 1) (Word2 p w0) keep part (word_at-even p 1) e)

pub row-Word2 : (P : Borders → List ℕ → Type 0) (n p w0 w1 : ℕ) (keep : Keep) (part : BusPart) →
    EndsAfter P (suc n) (boot_at (Word3 p w0 w1 (boot_word part.memory (word_at p 2))) keep (rested part)) → EndsAfter P (suc (suc n)) (boot_at (Word2 p w0 w1) keep part)
unfolding boot_step
row-Word2 P n p w0 w1 keep part e =
    goes_on P n (boot_at (Word2 p w0 w1) keep part) refl (read-rested P (suc n) (word_at p 2) (Word3 p w0 w1) keep part (word_at-even p 2) e)

pub row-Word3 : (P : Borders → List ℕ → Type 0) (n p w0 w1 w2 : ℕ) (keep : Keep) (part : BusPart) →
    EndsAfter P (suc n) (boot_at (checked keep p (structure w0 w1 w2 (boot_word part.memory (word_at p 3)))) keep (rested part)) → EndsAfter P (suc (suc n)) (boot_at (Word3 p w0 w1 w2) keep part)
unfolding boot_step
row-Word3 P n p w0 w1 w2 keep part e =
    goes_on P n (boot_at (Word3 p w0 w1 w2) keep part) refl
    (read-rested P (suc n) (word_at p 3) (λ word. checked keep p (structure w0 w1 w2 word)) keep part (word_at-even p 3) e)

-- the four words of a structure
pub rows-structure : (P : Borders → List ℕ → Type 0) (n p : ℕ) (keep : Keep) (part : BusPart) →
    EndsAfter P (suc n) (boot_at (checked keep p (structure_at part.memory p)) keep (rested part)) →
    EndsAfter P (suc (suc (suc (suc (suc n))))) (boot_at (Word0 p) keep part)
rows-structure P n p keep part e =
    row-Word0 P (suc (suc (suc n))) p keep part
    (row-Word1 P (suc (suc n)) p _ keep (rested part)
    (row-Word2 P (suc n) p _ _ keep (rested part)
    (row-Word3 P n p _ _ _ keep (rested part) e)))

pub row-SavePtr : (P : Borders → List ℕ → Type 0) (n p : ℕ) (words : Structure) (keep : Keep) (part : BusPart) →
    EndsAfter P (suc n) (boot_at (SaveMark p words) (record keep { ptr = p }) (rested part)) → EndsAfter P (suc (suc n)) (boot_at (SavePtr p words) keep part)
unfolding boot_step
row-SavePtr P n p words keep part e = goes_on P n (boot_at (SavePtr p words) keep part) refl e

pub row-SaveMark : (P : Borders → List ℕ → Type 0) (n p : ℕ) (words : Structure) (keep : Keep) (part : BusPart) →
    EndsAfter P (suc n) (boot_at (DoneWith p words) (record keep { mark = SAVED }) (rested part)) → EndsAfter P (suc (suc n)) (boot_at (SaveMark p words) keep part)
unfolding boot_step
row-SaveMark P n p words keep part e = goes_on P n (boot_at (SaveMark p words) keep part) refl e

pub row-MarkErase : (P : Borders → List ℕ → Type 0) (n : ℕ) (keep : Keep) (part : BusPart) →
    EndsAfter P (suc n) (boot_at first_wiped (record keep { mark = ERASING }) (rested part)) → EndsAfter P (suc (suc n)) (boot_at MarkErase keep part)
unfolding boot_step
row-MarkErase P n keep part e = goes_on P n (boot_at MarkErase keep part) refl e

pub row-Wipe : (P : Borders → List ℕ → Type 0) (n at : ℕ) (keep : Keep) (part : BusPart) →
    EndsAfter P (suc n) (boot_at (wiped at) keep (rested (word_wiped at part).part)) → EndsAfter P (suc (suc n)) (boot_at (Wipe at) keep part)
unfolding boot_step
row-Wipe P n at keep part e = goes_on P n (boot_at (Wipe at) keep part) refl e

pub row-MarkEmpty : (P : Borders → List ℕ → Type 0) (n : ℕ) (keep : Keep) (part : BusPart) →
    EndsAfter P (suc n) (boot_at DoneWithout (record keep { mark = EMPTY }) (rested part)) → EndsAfter P (suc (suc n)) (boot_at MarkEmpty keep part)
unfolding boot_step
row-MarkEmpty P n keep part e = goes_on P n (boot_at MarkEmpty keep part) refl e

pub row-DoneWith : (P : Borders → List ℕ → Type 0) (p : ℕ) (words : Structure) (keep : Keep) (part : BusPart) → P (borders_of words) part.memory → EndsAfter P 1 (boot_at (DoneWith p words) keep part)
unfolding boot_step EndsAfter
row-DoneWith P p words keep part e = e

pub row-DoneWithout : (P : Borders → List ℕ → Type 0) (keep : Keep) (part : BusPart) → P no_borders part.memory → EndsAfter P 1 (boot_at DoneWithout keep part)
unfolding boot_step EndsAfter
row-DoneWithout P keep part e = e
