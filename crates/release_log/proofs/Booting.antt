-- A step of the boot: what it leaves of the facts, in a tick that isn't cut and in one that is.
use Rattle.std.proofs.Common.{◌≡◌, ◌%◌, ℕ, List, Bool, true, false, length, arith, refl, ap, sym, ◌∙◌, subst}
use Rattle.std.specs.Prelude.{Option, Some, None}
use Rattle.std.proofs.lemmas.Bool.Decides.{nat_tests}
use Rattle.chip_words.specs.declared.sizes.Size.TheVariants.{Word}
use Rattle.chip_words.specs.declared.accesses.Agent.TheVariants as by
use Rattle.chip_words.specs.declared.accesses.Kind.TheVariants.{Write}
use Rattle.chip_words.specs.Access.{Accessed, is_over, next_number, numbered}
use Rattle.chip_words.specs.BusPart.{BusPart}
use Rattle.chip_words.specs.Causes.{no_causes}
use Rattle.chip_words.specs.Map.{aligned, is_fram}
use Rattle.chip_words.specs.Memory.{memory_size}
use Rattle.chip_words.specs.Registers.{AreRegisters, PC}
use Rattle.chip_words.specs.Script.{Ran}
use Rattle.chip_words.specs.Steps.{begun}
use Rattle.access_laws.specs.Boots.{HasBorders}
use Rattle.access_laws.specs.Locality.{is_absent}
use Rattle.access_laws.proofs.Booting.{course-Boot, present-Boot}
use Rattle.access_laws.proofs.Courses.{ToMemory, access-absent, access-present, unchosen}
use Rattle.access_laws.proofs.Masks.{seal-HasBorders}
use Rattle.ip_encap.specs.declared.encap.Borders.{Borders}
use Rattle.boot_code.specs.declared.boots.Keep.{Keep}
use Rattle.boot_code.specs.declared.boots.Act.{Act}
use Rattle.boot_code.specs.declared.boots.Act.TheVariants as act
use Rattle.boot_code.specs.declared.boots.BootStep.{BootStep}
use Rattle.boot_code.specs.declared.boots.BootStep.TheVariants.{Going, Done}
use Rattle.boot_code.specs.Place.{IsPlace, Place, Start, Sig, Ptr, Word0, Word1, Word2, Word3, SavePtr, SaveMark, MarkErase, Wipe, MarkEmpty, DoneWith, DoneWithout}
use Rattle.boot_code.specs.Boot.{EMPTY, ERASING, POINTER_AT, SAVED, SIGNATURE_AT, WIPED, Stepped, boot_step, run_of, word_at, word_read, word_wiped}
use Rattle.boot_code.specs.Facts.{Fits, is_mark, is_unerased, kept_behind, kept_by}
use Rattle.boot_code.proofs.Accesses.{word_read-is}
use Rattle.boot_code.proofs.Fitting.{step_stays_fit}
use Rattle.right_laws.specs.Ends.{requests}
use Rattle.step_laws.proofs.Shapes.{either_holds}
use Rattle.chip_core.specs.Boot.{acted, after_boot_step, boot_ended, boot_run, ended_unless_cut, is_next_over}
use Rattle.chip_core.specs.Phase.{is_up}
use Rattle.chip_core.specs.State.{State}
use Rattle.chip_core.specs.Turns.{boot_turn}
use Rattle.release_log.specs.Facts.{FitsChip}
use Rattle.release_log.specs.Sound.{KeepsFacts}
use Rattle.release_log.proofs.Registers.{with_register-Are}
use Rattle.release_log.proofs.Running.{step-KeepsFacts}
use Rattle.release_log.proofs.Ending.{IsCuttable, IsEnded, and-false, true-false}

-- ---- what holds

-- of a chip within a tick, whose boot comes to a place
pub record IsBooting (place : Place) (chip : State) : Type 0 where
  pub powered : chip.powered ≡ true
  pub boot : chip.boot ≡ Some place
  pub unrequested : requests chip.bus ≡ no_causes
  pub quiet : chip.bus.noted ≡ 0
  pub size : length chip.bus.memory ≡ memory_size
  pub registers : AreRegisters chip.registers
  pub borders : HasBorders chip.bus.kept
  pub fit : Fits place chip.keep chip.bus.memory

-- ---- marks

pub unerased-mark : (mark : ℕ) → is_unerased mark ≡ true → is_mark mark ≡ true
unerased-mark mark unerased = grind (arith, nat_tests)

empty-mark : (mark : ℕ) → mark ≡ EMPTY → is_mark mark ≡ true
empty-mark mark e = grind (arith, nat_tests)

saved-mark : (mark : ℕ) → mark ≡ SAVED → is_mark mark ≡ true
saved-mark mark e = grind (arith, nat_tests)

erasing-mark : (mark : ℕ) → mark ≡ ERASING → is_mark mark ≡ true
erasing-mark mark e = grind (arith, nat_tests)

pub fits-mark : (place : Place) (keep : Keep) (memory : List ℕ) → Fits place keep memory → is_mark keep.mark ≡ true
fits-mark Start keep memory fit = fit
fits-mark Sig keep memory fit = empty-mark keep.mark fit
fits-mark Ptr keep memory fit = empty-mark keep.mark fit.0
fits-mark (Word0 p) keep memory fit = unerased-mark keep.mark fit.marked
fits-mark (Word1 p w0) keep memory fit = unerased-mark keep.mark fit.0.marked
fits-mark (Word2 p w0 w1) keep memory fit = unerased-mark keep.mark fit.0.marked
fits-mark (Word3 p w0 w1 w2) keep memory fit = unerased-mark keep.mark fit.0.marked
fits-mark (SavePtr p words) keep memory fit = empty-mark keep.mark fit.0
fits-mark (SaveMark p words) keep memory fit = empty-mark keep.mark fit.0
fits-mark MarkErase keep memory fit = unerased-mark keep.mark fit
fits-mark (Wipe at) keep memory fit = erasing-mark keep.mark fit.marked
fits-mark MarkEmpty keep memory fit = erasing-mark keep.mark fit.0
fits-mark (DoneWith p words) keep memory fit = saved-mark keep.mark fit.0
fits-mark DoneWithout keep memory fit = empty-mark keep.mark fit

-- an end of the boot comes where no erase has begun
abbrev EndsUnerased : BootStep → Keep → Type 0
EndsUnerased (Going act) keep = Unit {0}
EndsUnerased (Done borders) keep = is_unerased keep.mark ≡ true

step-EndsUnerased :
    (place : Place) (keep : Keep) (part : BusPart) → Fits place keep part.memory →
    EndsUnerased (run_of place keep part).value.step keep
unfolding boot_step
step-EndsUnerased (DoneWith p words) keep part fit = let saved : keep.mark ≡ SAVED = fit.0 in grind (arith, nat_tests)
step-EndsUnerased DoneWithout keep part fit = grind (arith, nat_tests)
step-EndsUnerased place keep part fit = tt

-- each mark that a step asks for is one of those that arise
abbrev AsksMark : BootStep → Type 0
AsksMark (Going (act.Mark mark)) = is_mark mark ≡ true
AsksMark step = Unit {0}

step-AsksMark : (place : Place) (keep : Keep) (part : BusPart) → AsksMark (run_of place keep part).value.step
unfolding boot_step
step-AsksMark (SaveMark p words) keep part = refl
step-AsksMark MarkErase keep part = refl
step-AsksMark MarkEmpty keep part = refl
step-AsksMark place keep part = tt

-- ---- the accesses of a boot

-- the registers of the units, what stays secret and what is noted are as they were
pub record OnlyMemory (before after : BusPart) : Type 0 where
  pub units : after.units ≡ before.units
  pub kept : after.kept ≡ before.kept
  pub noted : after.noted ≡ before.noted

pub read-OnlyMemory : (at : ℕ) (part : BusPart) → at % 2 ≡ 0 → OnlyMemory part (word_read at part).part
read-OnlyMemory at part even =
    subst (λ (a : Accessed). OnlyMemory part a.part) (sym (word_read-is at part even))
    (record { units = refl; kept = refl; noted = refl })

pub wiped-OnlyMemory :
    (at : ℕ) (part : BusPart) → is_fram at ≡ true → at % 2 ≡ 0 → OnlyMemory part (word_wiped at part).part
wiped-OnlyMemory at part fram even = by_absence (is_absent Write part) refl
  where
    OnlyIn : Accessed → Type 0
    OnlyIn accessed = OnlyMemory part accessed.part

    same : aligned Word at ≡ at
    same = omega arith

    by_absence : (test : Bool) → is_absent Write part ≡ test → OnlyMemory part (word_wiped at part).part
    by_absence true absent =
        subst (λ (a : Accessed). OnlyMemory part a.part) (sym (access-absent by.Boot Write at Word WIPED part absent))
        (record { units = refl; kept = refl; noted = refl })
    by_absence false present =
        subst (λ (a : Accessed). OnlyMemory part a.part)
        (sym (access-present by.Boot Write at Word WIPED part present
        ∙ present-Boot ToMemory Write (aligned Word at) Word WIPED (numbered part)
        (course-Boot part.units Write (aligned Word at) Word (subst (λ n. is_fram n ≡ true) (sym same) fram))))
        (record { units = refl; kept = refl; noted = refl })

pub fits-IsPlace : (place : Place) (keep : Keep) (memory : List ℕ) → Fits place keep memory → IsPlace place
fits-IsPlace (Wipe at) keep memory fit = (fit.place, fit.even)
fits-IsPlace place keep memory fit = tt

word_at-even : (p k : ℕ) → word_at p k % 2 ≡ 0
unfolding word_at
word_at-even p k = omega arith

pub step-OnlyMemory :
    (place : Place) (keep : Keep) (part : BusPart) → IsPlace place → OnlyMemory part (run_of place keep part).part
unfolding boot_step
step-OnlyMemory Sig keep part is = read-OnlyMemory SIGNATURE_AT part refl
step-OnlyMemory Ptr keep part is = read-OnlyMemory POINTER_AT part refl
step-OnlyMemory (Word0 p) keep part is = read-OnlyMemory (word_at p 0) part (word_at-even p 0)
step-OnlyMemory (Word1 p w0) keep part is = read-OnlyMemory (word_at p 1) part (word_at-even p 1)
step-OnlyMemory (Word2 p w0 w1) keep part is = read-OnlyMemory (word_at p 2) part (word_at-even p 2)
step-OnlyMemory (Word3 p w0 w1 w2) keep part is = read-OnlyMemory (word_at p 3) part (word_at-even p 3)
step-OnlyMemory (Wipe at) keep part is = wiped-OnlyMemory at part is.0 is.1
step-OnlyMemory place keep part is = record { units = refl; kept = refl; noted = refl }

-- and so of the chip's step
pub boot_run-OnlyMemory :
    (place : Place) (chip : State) → IsPlace place → OnlyMemory chip.bus (boot_run place chip).part
unfolding boot_run
boot_run-OnlyMemory place chip is =
    let only : OnlyMemory (begun chip.bus) (run_of place chip.keep (begun chip.bus)).part =
    step-OnlyMemory place chip.keep (begun chip.bus) is in
    record { units = only.units; kept = only.kept; noted = only.noted }

pub boot_run-KeepsFacts : (place : Place) (chip : State) → KeepsFacts chip.bus (boot_run place chip).part
unfolding boot_run
boot_run-KeepsFacts place chip = step-KeepsFacts by.Boot (boot_step place chip.keep) chip.bus

-- ---- a tick that isn't cut

-- a boot that goes on has the facts
pub booting-IsEnded : (place : Place) (chip : State) → IsBooting place chip → IsEnded chip
booting-IsEnded place chip is = record {
  unrequested = is.unrequested;
  quiet = is.quiet;
  size = is.size;
  registers = is.registers;
  marked = fits-mark place chip.keep chip.bus.memory is.fit;
  borders = is.borders;
  settled = λ up.
      absurd (true-false (sym up ∙ ap (λ boot. is_up (record chip { boot = boot })) is.boot ∙ and-false chip.powered));
  unpowered = λ off. absurd (true-false (sym is.powered ∙ off));
  fit = subst (λ boot. FitsChip boot chip.keep chip.bus.memory) (sym is.boot) is.fit;
}

-- a write of mark or pointer that is present
acted-IsBooting :
    (act : Act) (place : Place) (chip : State) → is_next_over chip.bus ≡ false → chip.powered ≡ true →
    chip.boot ≡ Some place → requests chip.bus ≡ no_causes → chip.bus.noted ≡ 0 →
    length chip.bus.memory ≡ memory_size → AreRegisters chip.registers → HasBorders chip.bus.kept →
    Fits place (kept_by act chip.keep) chip.bus.memory → IsBooting place (acted act chip)
acted-IsBooting (act.Mark mark) place chip present powered boot unrequested quiet size registers borders fit = record {
  powered = powered;
  boot = boot;
  unrequested = unrequested;
  quiet = quiet;
  size = size;
  registers = registers;
  borders = borders;
  fit =
      subst (λ (keep : Keep). Fits place keep chip.bus.memory)
      (sym (unchosen (is_next_over chip.bus) chip.keep (record (chip.keep) { mark = mark }) present)) fit;
}
acted-IsBooting (act.Ptr ptr) place chip present powered boot unrequested quiet size registers borders fit = record {
  powered = powered;
  boot = boot;
  unrequested = unrequested;
  quiet = quiet;
  size = size;
  registers = registers;
  borders = borders;
  fit =
      subst (λ (keep : Keep). Fits place keep chip.bus.memory)
      (sym (unchosen (is_next_over chip.bus) chip.keep (record (chip.keep) { ptr = ptr }) present)) fit;
}
acted-IsBooting act place chip present powered boot unrequested quiet size registers borders fit = record {
  powered = powered;
  boot = boot;
  unrequested = unrequested;
  quiet = quiet;
  size = size;
  registers = registers;
  borders = borders;
  fit = fit;
}

-- the end of the boot
ended-IsEnded :
    (borders : Borders) (chip : State) → chip.powered ≡ true → requests chip.bus ≡ no_causes → chip.bus.noted ≡ 0 →
    length chip.bus.memory ≡ memory_size → AreRegisters chip.registers → is_unerased chip.keep.mark ≡ true →
    IsEnded (boot_ended borders chip)
ended-IsEnded borders chip powered unrequested quiet size registers unerased = record {
  unrequested = unrequested;
  quiet = quiet;
  size = size;
  registers = with_register-Are chip.registers PC _ registers;
  marked = unerased-mark chip.keep.mark unerased;
  borders = seal-HasBorders _;
  settled = λ up. refl;
  unpowered = λ off. absurd (true-false (sym powered ∙ off));
  fit = unerased;
}

-- where there is no budget no write is absent
pub uncut-present : (part : BusPart) → part.budget ≡ None → is_next_over part ≡ false
uncut-present part uncut = ap (λ budget. is_over budget (next_number part.writes)) uncut

pub boot_turn-IsEnded :
    (place : Place) (chip : State) → IsBooting place chip → chip.bus.budget ≡ None → IsEnded (boot_turn place chip)
unfolding boot_turn boot_run
boot_turn-IsEnded place chip is uncut = by_step (ran.value).step refl
  where
    ran : Ran Stepped
    ran = run_of place chip.keep (begun chip.bus)

    after : State
    after = record chip { bus = ran.part; boot = Some (ran.value).place }

    keeps : KeepsFacts chip.bus ran.part
    keeps = step-KeepsFacts by.Boot (boot_step place chip.keep) chip.bus

    only : OnlyMemory (begun chip.bus) ran.part
    only = step-OnlyMemory place chip.keep (begun chip.bus) (fits-IsPlace place chip.keep chip.bus.memory is.fit)

    fits : Fits (ran.value).place (kept_behind (ran.value).step chip.keep) ran.part.memory
    fits = step_stays_fit place chip.keep (begun chip.bus) (record { unbudgeted = uncut; size = is.size }) is.fit

    unerased : EndsUnerased (ran.value).step chip.keep
    unerased = step-EndsUnerased place chip.keep (begun chip.bus) is.fit

    still_uncut : ran.part.budget ≡ None
    still_uncut = keeps.budget ∙ uncut

    unrequested : requests ran.part ≡ no_causes
    unrequested = ap (λ units. (units.sys).requested) only.units ∙ is.unrequested

    by_step : (step : BootStep) → (ran.value).step ≡ step → IsEnded (after_boot_step step after)
    by_step (Going act) stepped =
        booting-IsEnded (ran.value).place (acted act after)
        (acted-IsBooting act (ran.value).place after (uncut-present ran.part still_uncut) is.powered refl unrequested
        (only.noted ∙ is.quiet) (keeps.size ∙ is.size) is.registers (keeps.borders is.borders)
        (subst (λ step. Fits (ran.value).place (kept_behind step chip.keep) ran.part.memory) stepped fits))
    by_step (Done borders) stepped =
        subst (λ budget. IsEnded (ended_unless_cut budget borders after)) (sym still_uncut)
        (ended-IsEnded borders after is.powered unrequested (only.noted ∙ is.quiet) (keeps.size ∙ is.size) is.registers
        (subst (λ step. EndsUnerased step chip.keep) stepped unerased))

-- ---- a tick that is cut

acted-marked :
    (act : Act) (chip : State) → AsksMark (Going act) → is_mark chip.keep.mark ≡ true →
    is_mark (acted act chip).keep.mark ≡ true
acted-marked (act.Mark mark) chip asks marked =
    either_holds (λ (keep : Keep). is_mark keep.mark ≡ true) (is_next_over chip.bus) chip.keep
    (record (chip.keep) { mark = mark }) marked asks
acted-marked (act.Ptr ptr) chip asks marked =
    either_holds (λ (keep : Keep). is_mark keep.mark ≡ true) (is_next_over chip.bus) chip.keep
    (record (chip.keep) { ptr = ptr }) marked marked
acted-marked act chip asks marked = marked

acted-borders : (act : Act) (chip : State) → HasBorders chip.bus.kept → HasBorders (acted act chip).bus.kept
acted-borders (act.Mark mark) chip borders = borders
acted-borders (act.Ptr ptr) chip borders = borders
acted-borders act chip borders = borders

ended-IsCuttable :
    (budget : Option ℕ) (borders : Borders) (chip : State) → IsCuttable chip →
    IsCuttable (ended_unless_cut budget borders chip)
ended-IsCuttable (Some budget) borders chip is = is
ended-IsCuttable None borders chip is = record { marked = is.marked; borders = seal-HasBorders _ }

pub boot_turn-IsCuttable : (place : Place) (chip : State) → IsBooting place chip → IsCuttable (boot_turn place chip)
unfolding boot_turn boot_run
boot_turn-IsCuttable place chip is = by_step (ran.value).step refl
  where
    ran : Ran Stepped
    ran = run_of place chip.keep (begun chip.bus)

    after : State
    after = record chip { bus = ran.part; boot = Some (ran.value).place }

    keeps : KeepsFacts chip.bus ran.part
    keeps = step-KeepsFacts by.Boot (boot_step place chip.keep) chip.bus

    asks : AsksMark (ran.value).step
    asks = step-AsksMark place chip.keep (begun chip.bus)

    marked : is_mark chip.keep.mark ≡ true
    marked = fits-mark place chip.keep chip.bus.memory is.fit

    by_step : (step : BootStep) → (ran.value).step ≡ step → IsCuttable (after_boot_step step after)
    by_step (Going act) stepped = record {
      marked = acted-marked act after (subst AsksMark stepped asks) marked;
      borders = acted-borders act after (keeps.borders is.borders);
    }
    by_step (Done borders) stepped =
        ended-IsCuttable ran.part.budget borders after (record { marked = marked; borders = keeps.borders is.borders })
