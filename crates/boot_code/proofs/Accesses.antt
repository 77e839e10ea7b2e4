-- The accesses of a boot: a read of a word, and a wiped word of FRAM.
use Rattle.std.proofs.Common.{◌≡◌, ◌%◌, not, ◌||◌, ℕ, Bool, true, false, arith, refl, ap, sym, ◌∙◌, if◌then◌else◌}
use Rattle.std.specs.Prelude.{None}
use Rattle.chip_words.specs.declared.sizes.Size.TheVariants.{Word}
use Rattle.chip_words.specs.declared.accesses.Kind.{Kind}
use Rattle.chip_words.specs.declared.accesses.Kind.TheVariants.{Read, Write}
use Rattle.chip_words.specs.declared.accesses.Agent.TheVariants as agent
use Rattle.chip_words.specs.declared.regions.Region.{Region}
use Rattle.chip_words.specs.declared.regions.Region.TheVariants.{Periph, Info, Descriptor, Sram, Main, Vacant}
use Rattle.chip_words.specs.declared.segments.Right.{Right}
use Rattle.chip_words.specs.declared.segments.Right.TheVariants.{Yes}
use Rattle.chip_words.specs.Access.{Accessed, access, access_allowed, access_by_right, access_region, blank, is_over, listed, next_number, numbered, with_listed}
use Rattle.chip_words.specs.BusPart.{BusPart}
use Rattle.chip_words.specs.Encap.{allows, area}
use Rattle.chip_words.specs.Map.{aligned, is_fram, keeps_without_power, region_at}
use Rattle.chip_words.specs.Memory.{loaded, stored}
use Rattle.chip_words.specs.Right.{right_of}
use Rattle.chip_words.specs.Seals.{is_in}
use Rattle.chip_words.specs.Units.{Units}
use Rattle.boot_code.specs.Boot.{WIPED, word_read, word_wiped}
use Rattle.boot_code.specs.Facts.{boot_word}

pub chosen : {A : Type 0} (test : Bool) (x y : A) → test ≡ true → (if test then x else y) ≡ x
chosen true x y e = refl
chosen false x y e = cc

pub unchosen : {A : Type 0} (test : Bool) (x y : A) → test ≡ false → (if test then x else y) ≡ y
unchosen true x y e = cc
unchosen false x y e = refl

or-true : (b : Bool) → (not b || true) ≡ true
or-true true = refl
or-true false = refl

-- a boot has every right
right_of-boot : (units : Units) (kind : Kind) (at : ℕ) → right_of units agent.Boot kind at ≡ Yes
unfolding right_of allows
right_of-boot units kind at =
    unchosen (not (not (is_in (area units.encap) at) || true)) _ _ (ap not (or-true (is_in (area units.encap) at)))

-- what a boot reads, and the part behind it
abbrev pub read_of : ℕ → BusPart → Accessed
read_of at part = record {
  answer = boot_word part.memory at;
  part = with_listed agent.Boot Read at Word (boot_word part.memory at) true part;
}

region-read : (region : Region) (at : ℕ) (part : BusPart) → keeps_without_power region ≡ true →
    access_region region Read at Word 0 part ≡ record { answer = loaded part.memory at Word; part = part }
region-read Info at part k = refl
region-read Main at part k = refl
region-read Periph at part k = cc
region-read Descriptor at part k = cc
region-read Sram at part k = cc
region-read Vacant at part k = cc

allowed-read : (at : ℕ) (part : BusPart) →
    access_by_right Yes agent.Boot Read at Word 0 part ≡ record { answer = boot_word part.memory at; part = part }
unfolding boot_word is_fram
allowed-read at part = by_fram (is_fram at) refl
  where
    by_fram : (v : Bool) → is_fram at ≡ v →
        access_by_right Yes agent.Boot Read at Word 0 part
        ≡ record { answer = (if is_fram at then loaded part.memory at Word else blank Word); part = part }
    by_fram true e =
        unchosen (not (is_fram at)) _ _ (ap not e) ∙ region-read (region_at at) at part e
        ∙ ap (λ n. record { answer = n; part = part }) (sym (chosen (is_fram at) (loaded part.memory at Word) (blank Word) e))
    by_fram false e =
        chosen (not (is_fram at)) _ _ (ap not e)
        ∙ ap (λ n. record { answer = n; part = part }) (sym (unchosen (is_fram at) (loaded part.memory at Word) (blank Word) e))

pub word_read-is : (at : ℕ) (part : BusPart) → at % 2 ≡ 0 → word_read at part ≡ read_of at part
unfolding access
word_read-is at part even =
    let same : aligned Word at ≡ at = omega arith in
    ap (λ n. listed agent.Boot Read n Word true (access_allowed agent.Boot Read n Word 0 part)) same
    ∙ ap (λ (right : Right). listed agent.Boot Read at Word true (access_by_right right agent.Boot Read at Word 0 part)) (right_of-boot part.units Read at)
    ∙ ap (λ (a : Accessed). listed agent.Boot Read at Word true a) (allowed-read at part)

-- what a wiped word leaves, where no write is absent
abbrev pub wiped_of : ℕ → BusPart → Accessed
wiped_of at part = record {
  answer = WIPED;
  part = with_listed agent.Boot Write at Word WIPED true (record (numbered part) { memory = stored part.memory at Word WIPED });
}

region-wiped : (region : Region) (at : ℕ) (part : BusPart) → keeps_without_power region ≡ true →
    access_region region Write at Word WIPED part
    ≡ record { answer = WIPED; part = record part { memory = stored part.memory at Word WIPED } }
region-wiped Info at part k = refl
region-wiped Main at part k = refl
region-wiped Periph at part k = cc
region-wiped Descriptor at part k = cc
region-wiped Sram at part k = cc
region-wiped Vacant at part k = cc

allowed-wiped : (at : ℕ) (part : BusPart) → is_fram at ≡ true →
    access_by_right Yes agent.Boot Write at Word WIPED part
    ≡ record { answer = WIPED; part = record part { memory = stored part.memory at Word WIPED } }
unfolding is_fram
allowed-wiped at part f = region-wiped (region_at at) at part f

pub word_wiped-is : (at : ℕ) (part : BusPart) → at % 2 ≡ 0 → is_fram at ≡ true → part.budget ≡ None → word_wiped at part ≡ wiped_of at part
unfolding access
word_wiped-is at part even f uncut =
    let same : aligned Word at ≡ at = omega arith in
    let present : is_over part.budget (next_number part.writes) ≡ false = ap (λ budget. is_over budget (next_number part.writes)) uncut in
    unchosen (is_over part.budget (next_number part.writes)) _ _ present
    ∙ ap (λ n. listed agent.Boot Write n Word true (access_allowed agent.Boot Write n Word WIPED (numbered part))) same
    ∙ ap (λ (right : Right). listed agent.Boot Write at Word true (access_by_right right agent.Boot Write at Word WIPED (numbered part))) (right_of-boot part.units Write at)
    ∙ ap (λ (a : Accessed). listed agent.Boot Write at Word true a) (allowed-wiped at (numbered part) f)
