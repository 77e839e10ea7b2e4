-- What stays true of a boot from step to step, where the caller writes what the steps ask for: the place fits mark,
-- pointer and memory. So a boot installs the structure that stands in memory when it ends.
use Rattle.std.specs.Prelude.{◌≡◌, ◌≢◌, ◌<◌, ◌%◌, ◌==◌, ◌||◌, ℕ, Bool, true, if◌then◌else◌, List, None, length, slice_index}
use Rattle.chip_words.specs.declared.sizes.Size.TheVariants.{Word}
use Rattle.chip_words.specs.Access.{blank}
use Rattle.chip_words.specs.BusPart.{BusPart}
use Rattle.chip_words.specs.Map.{is_fram}
use Rattle.chip_words.specs.Memory.{loaded, memory_size}
use Rattle.ip_encap.specs.declared.encap.Borders.{Borders}
use Rattle.boot_code.specs.declared.boots.Keep.{Keep}
use Rattle.boot_code.specs.declared.boots.Act.{Act}
use Rattle.boot_code.specs.declared.boots.Act.TheVariants as act
use Rattle.boot_code.specs.declared.boots.BootStep.{BootStep}
use Rattle.boot_code.specs.declared.boots.BootStep.TheVariants.{Going, Done}
use Rattle.boot_code.specs.Place.{Place, Start, Sig, Ptr, Word0, Word1, Word2, Word3, SavePtr, SaveMark, MarkErase, Wipe, MarkEmpty, DoneWith, DoneWithout, Structure}
use Rattle.boot_code.specs.Boot.{EMPTY, ERASING, POINTER_AT, SAVED, SIGNATURE, SIGNATURE_AT, borders_of, is_good, no_borders, structure, word_at}

-- What the caller writes.

-- mark and pointer behind an act
abbrev pub kept_by : Act → Keep → Keep
kept_by (act.Mark value) keep = record keep { mark = value }
kept_by (act.Ptr value) keep = record keep { ptr = value }
kept_by act keep = keep

-- and behind a step
abbrev pub kept_behind : BootStep → Keep → Keep
kept_behind (Going act) keep = kept_by act keep
kept_behind (Done borders) keep = keep

-- The marks.

-- no erase has begun
abbrev pub is_unerased : ℕ → Bool
is_unerased mark = mark == EMPTY || mark == SAVED

-- the marks that arise
abbrev pub is_mark : ℕ → Bool
is_mark mark = is_unerased mark || mark == ERASING

-- Memory.

-- the word that a boot reads at an even address
unfoldable pub boot_word : List ℕ → ℕ → ℕ
boot_word memory at = if is_fram at then loaded memory at Word else blank Word

-- the structure that a pointer leads to
abbrev pub structure_at : List ℕ → ℕ → Structure
structure_at memory p =
    structure (boot_word memory (word_at p 0)) (boot_word memory (word_at p 1)) (boot_word memory (word_at p 2))
    (boot_word memory (word_at p 3))

-- four words are those of memory, and their check is good
pub record IsStructure (memory : List ℕ) (p : ℕ) (words : Structure) : Type 0 where
  pub control : words.control ≡ boot_word memory (word_at p 0)
  pub second_border : words.second_border ≡ boot_word memory (word_at p 1)
  pub first_border : words.first_border ≡ boot_word memory (word_at p 2)
  pub check : words.check ≡ boot_word memory (word_at p 3)
  pub good : is_good words ≡ true

-- the byte of a wiped address
abbrev pub wiped_byte : ℕ
wiped_byte = 0xFF

-- FRAM below an address is wiped
abbrev pub IsWiped : List ℕ → ℕ → Type 0
IsWiped memory end = (at : ℕ) → is_fram at ≡ true → at < end → slice_index memory at ≡ wiped_byte

-- all of FRAM is wiped
abbrev pub IsBlank : List ℕ → Type 0
IsBlank memory = (at : ℕ) → is_fram at ≡ true → slice_index memory at ≡ wiped_byte

-- What fits.

-- a pointer is the one that is saved, or else the one behind the signature
pub record IsPointer (keep : Keep) (memory : List ℕ) (p : ℕ) : Type 0 where
  pub marked : is_unerased keep.mark ≡ true
  pub saved : keep.mark ≡ SAVED → p ≡ keep.ptr
  pub signed : keep.mark ≡ EMPTY → boot_word memory SIGNATURE_AT ≡ SIGNATURE
  pub first : keep.mark ≡ EMPTY → p ≡ boot_word memory POINTER_AT

-- an erase has come to an address, of a word of FRAM
pub record IsWiping (keep : Keep) (memory : List ℕ) (at : ℕ) : Type 0 where
  pub marked : keep.mark ≡ ERASING
  pub place : is_fram at ≡ true
  pub even : at % 2 ≡ 0
  pub wiped : IsWiped memory at

-- a place fits mark, pointer and memory: the mark allows it, and what it holds is what stands there
abbrev pub Fits : Place → Keep → List ℕ → Type 0
Fits Start keep memory = is_mark keep.mark ≡ true
Fits Sig keep memory = keep.mark ≡ EMPTY
Fits Ptr keep memory = (keep.mark ≡ EMPTY) × (boot_word memory SIGNATURE_AT ≡ SIGNATURE)
Fits (Word0 p) keep memory = IsPointer keep memory p
Fits (Word1 p w0) keep memory = IsPointer keep memory p × (w0 ≡ boot_word memory (word_at p 0))
Fits (Word2 p w0 w1) keep memory =
    IsPointer keep memory p × (w0 ≡ boot_word memory (word_at p 0)) × (w1 ≡ boot_word memory (word_at p 1))
Fits (Word3 p w0 w1 w2) keep memory =
    IsPointer keep memory p × (w0 ≡ boot_word memory (word_at p 0)) × (w1 ≡ boot_word memory (word_at p 1))
    × (w2 ≡ boot_word memory (word_at p 2))
Fits (SavePtr p words) keep memory = (keep.mark ≡ EMPTY) × IsPointer keep memory p × IsStructure memory p words
Fits (SaveMark p words) keep memory =
    (keep.mark ≡ EMPTY) × IsPointer keep memory p × IsStructure memory p words × (p ≡ keep.ptr)
Fits MarkErase keep memory = is_unerased keep.mark ≡ true
Fits (Wipe at) keep memory = IsWiping keep memory at
Fits MarkEmpty keep memory = (keep.mark ≡ ERASING) × IsBlank memory
Fits (DoneWith p words) keep memory = (keep.mark ≡ SAVED) × (p ≡ keep.ptr) × IsStructure memory p words
Fits DoneWithout keep memory = keep.mark ≡ EMPTY

-- no write of a tick is absent, and memory has all its addresses
pub record IsUncut (part : BusPart) : Type 0 where
  pub unbudgeted : part.budget ≡ None
  pub size : length part.memory ≡ memory_size

-- borders are those of the saved pointer's structure, whose check is good; without a saved one there are none
pub record AreInstalled (borders : Borders) (keep : Keep) (memory : List ℕ) : Type 0 where
  pub saved : keep.mark ≡ SAVED → borders ≡ borders_of (structure_at memory keep.ptr)
  pub good : keep.mark ≡ SAVED → is_good (structure_at memory keep.ptr) ≡ true
  pub others : keep.mark ≢ SAVED → borders ≡ no_borders

-- a step that ends the boot, and not one that goes on, gives such borders
abbrev pub EndsWell : BootStep → Keep → List ℕ → Type 0
EndsWell (Going act) keep memory = Unit {0}
EndsWell (Done borders) keep memory = AreInstalled borders keep memory
