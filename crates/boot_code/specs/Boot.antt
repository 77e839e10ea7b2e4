-- The steps of a boot, one a tick (SLAU367, SYS, boot code): it looks for a structure of IP Encapsulation, saves where it
-- stands, and erases FRAM where the structure is damaged. What the steps are one by one is this project's own.
use Rattle.std.specs.Prelude.{ℕ, ◌+◌, ◌-◌, ◌*◌, ◌%◌, ◌==◌, bit_and, bit_xor, Bool, true, false, if◌then◌else◌}
use Rattle.chip_words.specs.declared.sizes.Size.TheVariants.{Word}
use Rattle.chip_words.specs.declared.accesses.Agent.TheVariants as agent
use Rattle.chip_words.specs.declared.accesses.Kind.TheVariants.{Read, Write}
use Rattle.chip_words.specs.Access.{Accessed, access}
use Rattle.chip_words.specs.BusPart.{BusPart}
use Rattle.chip_words.specs.Encap.{kept_of_mpuipc0}
use Rattle.chip_words.specs.Script.{Script, Return, Ask, Ran, run}
use Rattle.chip_words.specs.Segments.{MAIN_FRAM, border_bits}
use Rattle.ip_encap.specs.declared.encap.Borders.{Borders}
use Rattle.boot_code.specs.declared.boots.Keep.{Keep}
use Rattle.boot_code.specs.declared.boots.Act.{Act}
use Rattle.boot_code.specs.declared.boots.Act.TheVariants as act
use Rattle.boot_code.specs.declared.boots.BootStep.{BootStep}
use Rattle.boot_code.specs.declared.boots.BootStep.TheVariants.{Going, Done}
use Rattle.boot_code.specs.Place.{Place, Start, Sig, Ptr, Word0, Word1, Word2, Word3, SavePtr, SaveMark, MarkErase, Wipe, MarkEmpty, DoneWith, DoneWithout, Structure}

-- The mark, which outlasts a loss of power: nothing is saved, the pointer is saved, or an erase has begun. Every other
-- value counts as nothing saved.

abbrev pub EMPTY : ℕ
EMPTY = 0xFFFF

abbrev pub SAVED : ℕ
SAVED = 0x5A01

abbrev pub ERASING : ℕ
ERASING = 0x5A02

-- the mark and the pointer of a new chip
abbrev pub first_keep : Keep
first_keep = record { mark = EMPTY; ptr = 0 }

-- What stands in FRAM: the signature, and behind it the pointer of the structure.

abbrev pub SIGNATURE : ℕ
SIGNATURE = 0xAAAA

abbrev pub SIGNATURE_AT : ℕ
SIGNATURE_AT = 0xFF88

abbrev pub POINTER_AT : ℕ
POINTER_AT = 0xFF8A

-- The words that an erase wipes, first information FRAM and then main FRAM: its first and its last one, and what a wiped
-- word holds.

abbrev pub INFORMATION_FRAM : ℕ
INFORMATION_FRAM = 0x1800

abbrev pub LAST_OF_INFORMATION_FRAM : ℕ
LAST_OF_INFORMATION_FRAM = 0x19FE

abbrev pub LAST_OF_MAIN_FRAM : ℕ
LAST_OF_MAIN_FRAM = 0x13FFE

abbrev pub WIPED : ℕ
WIPED = 0xFFFF

-- The structure.

abbrev pub structure : ℕ → ℕ → ℕ → ℕ → Structure
structure w0 w1 w2 w3 = record { control = w0; second_border = w1; first_border = w2; check = w3 }

-- the complement of a word
abbrev pub complement : ℕ → ℕ
complement word = 0xFFFF - word

-- the check is good
unfoldable pub is_good : Structure → Bool
is_good words = words.check == complement (bit_xor (bit_xor words.control words.second_border) words.first_border)

-- the address of a word of the structure, by its number
unfoldable pub word_at : ℕ → ℕ → ℕ
word_at p k = (16 * p + 2 * k) % 0x100000

-- the borders of a structure: each register has its own bits
unfoldable pub borders_of : Structure → Borders
borders_of words = record {
  c0 = bit_and words.control kept_of_mpuipc0;
  b2 = border_bits words.second_border;
  b1 = border_bits words.first_border;
}

-- the borders of a boot without a structure
abbrev pub no_borders : Borders
no_borders = record { c0 = 0; b2 = 0; b1 = 0 }

-- Which place comes next.

-- where an erase begins
abbrev pub first_wiped : Place
first_wiped = Wipe INFORMATION_FRAM

-- by the mark
abbrev pub started : Keep → Place
started keep =
    if keep.mark == ERASING then first_wiped
    else if keep.mark == SAVED then Word0 keep.ptr
    else Sig

-- by the word that stands where a signature would
abbrev pub signed : ℕ → Place
signed word = if word == SIGNATURE then Ptr else DoneWithout

-- by the check, and by the mark
abbrev pub checked : Keep → ℕ → Structure → Place
checked keep p words =
    if is_good words then if keep.mark == SAVED then DoneWith p words else SavePtr p words
    else MarkErase

-- behind a wiped word
abbrev pub wiped : ℕ → Place
wiped at =
    if at == LAST_OF_INFORMATION_FRAM then Wipe MAIN_FRAM
    else if at == LAST_OF_MAIN_FRAM then MarkEmpty
    else Wipe (at + 2)

-- The step.

-- the accesses of a boot: it reads a word, or wipes one
abbrev pub word_read : ℕ → BusPart → Accessed
word_read at part = access agent.Boot Read at Word 0 part

abbrev pub word_wiped : ℕ → BusPart → Accessed
word_wiped at part = access agent.Boot Write at Word WIPED part

-- what a step leads to, and what it answers
pub record Stepped : Type 0 where
  pub place : Place
  pub step : BootStep

-- a step that goes on, and asks for an act or tells of one
abbrev pub going : Act → Place → Script Stepped
going act place = Return (record { place = place; step = Going act })

-- a step that ends the boot, whose place stays
abbrev pub done : Borders → Place → Script Stepped
done borders place = Return (record { place = place; step = Done borders })

-- one step, by the place, and by mark and pointer as they were saved
unfoldable pub boot_step : Place → Keep → Script Stepped
boot_step Start keep = going act.Nothing (started keep)
boot_step Sig keep = Ask Read SIGNATURE_AT Word 0 (λ word. going act.Nothing (signed word))
boot_step Ptr keep = Ask Read POINTER_AT Word 0 (λ word. going act.Nothing (Word0 word))
boot_step (Word0 p) keep = Ask Read (word_at p 0) Word 0 (λ word. going (act.Struct 0 word) (Word1 p word))
boot_step (Word1 p w0) keep = Ask Read (word_at p 1) Word 0 (λ word. going (act.Struct 1 word) (Word2 p w0 word))
boot_step (Word2 p w0 w1) keep =
    Ask Read (word_at p 2) Word 0 (λ word. going (act.Struct 2 word) (Word3 p w0 w1 word))
boot_step (Word3 p w0 w1 w2) keep =
    Ask Read (word_at p 3) Word 0 (λ word. going (act.Struct 3 word) (checked keep p (structure w0 w1 w2 word)))
boot_step (SavePtr p words) keep = going (act.Ptr p) (SaveMark p words)
boot_step (SaveMark p words) keep = going (act.Mark SAVED) (DoneWith p words)
boot_step MarkErase keep = going (act.Mark ERASING) first_wiped
boot_step (Wipe at) keep = Ask Write at Word WIPED (λ word. going (act.Wipe at) (wiped at))
boot_step MarkEmpty keep = going (act.Mark EMPTY) DoneWithout
boot_step (DoneWith p words) keep = done (borders_of words) (DoneWith p words)
boot_step DoneWithout keep = done no_borders DoneWithout

-- what a step makes of the bus part
abbrev pub run_of : Place → Keep → BusPart → Ran Stepped
run_of place keep part = run agent.Boot (boot_step place keep) part

abbrev pub is_going : BootStep → Bool
is_going (Going act) = true
is_going (Done borders) = false
