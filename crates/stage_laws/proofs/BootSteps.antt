-- A step of the boot: each access goes by what is public but for a word of the structure, which is an item.
use Rattle.std.proofs.Common.{◌≡◌, ◌%◌, ℕ, List, ◌∷◌, Bool, true, false, not, ◌&&◌, slice_index, arith, refl, ap, sym, ◌∙◌, subst}
use Rattle.std.specs.Prelude.{Option, Some, None, ◌++◌, IfSome, is_none, ◌==◌}
use Rattle.std.proofs.lemmas.Bool.Decides.{nat_tests}
use Rattle.chip_words.specs.declared.seals.Seal.{Seal}
use Rattle.chip_words.specs.declared.sizes.Size.TheVariants.{Word}
use Rattle.chip_words.specs.declared.accesses.Kind.TheVariants.{Read, Write}
use Rattle.chip_words.specs.BusPart.{BusPart}
use Rattle.chip_words.specs.Encap.{Encap, installed, seal}
use Rattle.chip_words.specs.Map.{aligned, is_fram}
use Rattle.chip_words.specs.Memory.{loaded}
use Rattle.chip_words.specs.Public.{hidden}
use Rattle.chip_words.specs.Registers.{PC, with_register}
use Rattle.chip_words.specs.Script.{Ran}
use Rattle.chip_words.specs.Seals.{is_in}
use Rattle.chip_words.specs.Steps.{begun}
use Rattle.bus_fabric.specs.Fabric.{RESET_VECTOR}
use Rattle.access_laws.specs.Boots.{AgreeWhereOpened, BootAlike, HasBorders}
use Rattle.access_laws.proofs.Booting.{boot_sees_public}
use Rattle.access_laws.proofs.Masks.{loaded-hidden}
use Rattle.access_laws.proofs.Opening.{opened_tells_all}
use Rattle.access_laws.proofs.Seen.{AreAlike-seen, seen, seen-AreAlike}
use Rattle.ip_encap.specs.declared.encap.Borders.{Borders}
use Rattle.boot_code.specs.declared.boots.Act.{Act}
use Rattle.boot_code.specs.declared.boots.Act.TheVariants as act
use Rattle.boot_code.specs.declared.boots.BootStep.{BootStep}
use Rattle.boot_code.specs.declared.boots.BootStep.TheVariants.{Going, Done}
use Rattle.boot_code.specs.declared.boots.Keep.{Keep}
use Rattle.boot_code.specs.Boot.{POINTER_AT, SIGNATURE_AT, Stepped, WIPED, boot_step, checked, signed, structure, run_of, word_at, word_read, word_wiped}
use Rattle.boot_code.specs.Place.{IsPlace, Place, Sig, Ptr, Word0, Word1, Word2, Word3, Wipe}
use Rattle.dma_unit.specs.Transfers.{passed}
use Rattle.power_schedule.specs.declared.powers.Power.{Power}
use Rattle.trace_print.specs.declared.releases.Item.{Item}
use Rattle.trace_print.specs.declared.releases.Item.TheVariants as item
use Rattle.chip_core.specs.declared.owners.Owner.TheVariants.{Boot}
use Rattle.chip_core.specs.Boot.{acted, after_boot_step, boot_run, ended_unless_cut, no_vector}
use Rattle.chip_core.specs.Items.{struct_items}
use Rattle.chip_core.specs.Lines.{boot_lines, halt_lines, halted_since, turn_lines}
use Rattle.chip_core.specs.Phase.{is_private, is_up}
use Rattle.chip_core.specs.State.{State}
use Rattle.chip_core.specs.Turns.{boot_turn, owned, step_owned, with_dma}
use Rattle.release_log.proofs.Ending.{and-false}
use Rattle.release_log.proofs.Booting.{boot_run-OnlyMemory}
use Rattle.stage_laws.specs.BootSteps.{BootStepsSeePublic, TellAlike, booted}
use Rattle.stage_laws.proofs.Faces.{LookAlike-face, face, face-LookAlike}

-- ---- the accesses

-- two steps lead to the same, and leave parts of which the same is seen
pub record StepAlike (x y : Ran Stepped) : Type 0 where
  pub value : x.value ≡ y.value
  pub part : seen x.part ≡ seen y.part

-- a step that makes no access
still-alike :
    (value : Stepped) (a b : BusPart) → seen a ≡ seen b →
    StepAlike (record { value = value; part = begun a }) (record { value = value; part = begun b })
still-alike value a b same = record { value = refl; part = same }

reads-alike :
    (at : ℕ) (a b : BusPart) → HasBorders a.kept → seen a ≡ seen b →
    BootAlike a.kept (aligned Word at) (word_read at (begun a)) (word_read at (begun b))
reads-alike at a b borders same =
    boot_sees_public Read at Word 0 (begun a) (begun b) borders (seen-AreAlike (begun a) (begun b) same) tt

abbrev leads : Act → Place → Stepped
leads act place = record { place = place; step = Going act }

-- a word that is read leads to a place and a step
abbrev led : (ℕ → Stepped) → ℕ → BusPart → Ran Stepped
led next at part = record { value = next (word_read at part).answer; part = (word_read at part).part }

led-alike :
    (next : ℕ → Stepped) (at : ℕ) (a b : BusPart) → HasBorders a.kept → seen a ≡ seen b →
    (word_read at (begun a)).answer ≡ (word_read at (begun b)).answer →
    StepAlike (led next at (begun a)) (led next at (begun b))
led-alike next at a b borders same answers =
    record { value = ap next answers; part = AreAlike-seen _ _ (reads-alike at a b borders same).part }

signature_shown : (seal : Seal) → is_in seal (aligned Word SIGNATURE_AT) ≡ false
unfolding is_in
signature_shown seal = grind (arith, nat_tests)

pointer_shown : (seal : Seal) → is_in seal (aligned Word POINTER_AT) ≡ false
unfolding is_in
pointer_shown seal = grind (arith, nat_tests)

vector_shown : (seal : Seal) → is_in seal RESET_VECTOR ≡ false
unfolding is_in
vector_shown seal = grind (arith, nat_tests)

wipes-alike :
    (at : ℕ) (value : Stepped) (a b : BusPart) → is_fram at ≡ true → at % 2 ≡ 0 → HasBorders a.kept →
    seen a ≡ seen b →
    StepAlike (record { value = value; part = (word_wiped at (begun a)).part })
    (record { value = value; part = (word_wiped at (begun b)).part })
wipes-alike at value a b fram even borders same =
    let place : aligned Word at ≡ at = omega arith in
    let alike =
    boot_sees_public Write at Word WIPED (begun a) (begun b) borders (seen-AreAlike (begun a) (begun b) same)
    (subst (λ n. is_fram n ≡ true) (sym place) fram) in
    record { value = refl; part = AreAlike-seen _ _ alike.part }

-- the same word is told
told_words :
    (index one other : ℕ) (more others : List Item) →
    item.Struct index one ∷ more ≡ item.Struct index other ∷ others → one ≡ other
told_words index one other more others same = cc

-- ---- the step

pub step-alike :
    (place : Place) (keep : Keep) (a b : BusPart) (more others : List Item) → IsPlace place → HasBorders a.kept →
    seen a ≡ seen b →
    struct_items (Some (run_of place keep (begun a)).value.step) ++ more
    ≡ struct_items (Some (run_of place keep (begun b)).value.step) ++ others →
    StepAlike (run_of place keep (begun a)) (run_of place keep (begun b))
unfolding boot_step
step-alike Sig keep a b more others is borders same told =
    led-alike (λ word. leads act.Nothing (signed word)) SIGNATURE_AT a b borders same
    ((reads-alike SIGNATURE_AT a b borders same).answer (signature_shown a.kept))
step-alike Ptr keep a b more others is borders same told =
    led-alike (λ word. leads act.Nothing (Word0 word)) POINTER_AT a b borders same
    ((reads-alike POINTER_AT a b borders same).answer (pointer_shown a.kept))
step-alike (Word0 p) keep a b more others is borders same told =
    led-alike (λ word. leads (act.Struct 0 word) (Word1 p word)) (word_at p 0) a b borders same
    (told_words 0 _ _ more others told)
step-alike (Word1 p w0) keep a b more others is borders same told =
    led-alike (λ word. leads (act.Struct 1 word) (Word2 p w0 word)) (word_at p 1) a b borders same
    (told_words 1 _ _ more others told)
step-alike (Word2 p w0 w1) keep a b more others is borders same told =
    led-alike (λ word. leads (act.Struct 2 word) (Word3 p w0 w1 word)) (word_at p 2) a b borders same
    (told_words 2 _ _ more others told)
step-alike (Word3 p w0 w1 w2) keep a b more others is borders same told =
    led-alike (λ word. leads (act.Struct 3 word) (checked keep p (structure w0 w1 w2 word))) (word_at p 3) a b borders
    same (told_words 3 _ _ more others told)
step-alike (Wipe at) keep a b more others is borders same told =
    wipes-alike at _ a b is.0 is.1 borders same
step-alike place keep a b more others is borders same told = still-alike _ a b same

-- ---- the chip behind it

acted-face : (act : Act) (chip : State) → face (acted act chip) ≡ acted act (face chip)
acted-face (act.Mark mark) chip = refl
acted-face (act.Ptr ptr) chip = refl
acted-face act chip = refl

vectors-alike :
    (a b : State) → HasBorders a.bus.kept → face a ≡ face b →
    loaded a.bus.memory RESET_VECTOR Word ≡ loaded b.bus.memory RESET_VECTOR Word
vectors-alike a b borders same =
    let kepts : a.bus.kept ≡ b.bus.kept = ap (λ (chip : State). chip.bus.kept) same in
    loaded-hidden a.bus.kept a.bus.memory RESET_VECTOR Word borders refl (vector_shown a.bus.kept)
    ∙ ap (λ (chip : State). loaded chip.bus.memory RESET_VECTOR Word) same
    ∙ sym
    (loaded-hidden b.bus.kept b.bus.memory RESET_VECTOR Word (subst HasBorders kepts borders) refl
    (vector_shown b.bus.kept))

ended-face :
    (budget : Option ℕ) (borders : Borders) (a b : State) → HasBorders a.bus.kept → face a ≡ face b →
    AgreeWhereOpened a.bus.kept (ended_unless_cut budget borders a).bus.kept
    (ended_unless_cut budget borders a).bus.memory (ended_unless_cut budget borders b).bus.memory →
    face (ended_unless_cut budget borders a) ≡ face (ended_unless_cut budget borders b)
ended-face (Some budget) borders a b has same opened = same
ended-face None borders a b has same opened =
    let encap : Encap = installed borders.c0 borders.b2 borders.b1 in
    let hides : hidden a.bus.kept a.bus.memory ≡ hidden a.bus.kept b.bus.memory =
    ap (λ (chip : State). chip.bus.memory) same
    ∙ ap (λ (chip : State). hidden chip.bus.kept b.bus.memory) (sym same) in
    let shows : hidden (seal encap) a.bus.memory ≡ hidden (seal encap) b.bus.memory =
    opened_tells_all a.bus.kept (seal encap) a.bus.memory b.bus.memory hides opened in
    let made : State → List ℕ → ℕ → State = λ chip memory vector. record chip {
      bus = record (chip.bus) { units = record (chip.bus.units) { encap = encap }; kept = seal encap; memory = memory };
      registers = with_register chip.registers PC vector;
      dead = vector == no_vector;
      boot = None;
    } in
    ap (λ chip. made chip (hidden (seal encap) a.bus.memory) (loaded a.bus.memory RESET_VECTOR Word)) same
    ∙ ap (λ memory. made (face b) memory (loaded a.bus.memory RESET_VECTOR Word)) shows
    ∙ ap (made (face b) (hidden (seal encap) b.bus.memory)) (vectors-alike a b has same)

after-face :
    (step : BootStep) (a b : State) → HasBorders a.bus.kept → face a ≡ face b →
    AgreeWhereOpened a.bus.kept (after_boot_step step a).bus.kept (after_boot_step step a).bus.memory
    (after_boot_step step b).bus.memory →
    face (after_boot_step step a) ≡ face (after_boot_step step b)
after-face (Going act) a b has same opened = acted-face act a ∙ ap (acted act) same ∙ sym (acted-face act b)
after-face (Done borders) a b has same opened =
    subst
    (λ budget. AgreeWhereOpened a.bus.kept (ended_unless_cut a.bus.budget borders a).bus.kept
    (ended_unless_cut a.bus.budget borders a).bus.memory (ended_unless_cut budget borders b).bus.memory →
    face (ended_unless_cut a.bus.budget borders a) ≡ face (ended_unless_cut budget borders b))
    (ap (λ (chip : State). chip.bus.budget) same)
    (ended-face a.bus.budget borders a b has same) opened

-- ---- the turn

-- the chip between the accesses of a step and what the step leads to
abbrev stepped : Ran Stepped → State → State
stepped ran chip = record chip { bus = ran.part; boot = Some (ran.value).place }

stepped-face :
    (x y : Ran Stepped) (a b : State) → StepAlike x y → face a ≡ face b → face (stepped x a) ≡ face (stepped y b)
stepped-face x y a b alike same =
    let made : State → BusPart → Place → State = λ chip part place. record chip { bus = part; boot = Some place } in
    ap (λ chip. made chip (seen x.part) (x.value).place) same
    ∙ ap (λ part. made (face b) part (x.value).place) alike.part
    ∙ ap (λ (value : Stepped). made (face b) (seen y.part) value.place) alike.value

run-alike :
    (place : Place) (x y : State) (more others : List Item) → IsPlace place → HasBorders x.bus.kept →
    face x ≡ face y →
    struct_items (Some (boot_run place x).value.step) ++ more
    ≡ struct_items (Some (boot_run place y).value.step) ++ others →
    StepAlike (boot_run place x) (boot_run place y)
unfolding boot_run
run-alike place x y more others is borders same =
    subst
    (λ keep. struct_items (Some (run_of place x.keep (begun x.bus)).value.step) ++ more
    ≡ struct_items (Some (run_of place keep (begun y.bus)).value.step) ++ others →
    StepAlike (run_of place x.keep (begun x.bus)) (run_of place keep (begun y.bus)))
    (ap (λ (chip : State). chip.keep) same)
    (step-alike place x.keep x.bus y.bus more others is borders (ap (λ (chip : State). chip.bus) same))

-- two turns of the boot leave chips whose faces are equal, behind equal steps
record TurnAlike (place : Place) (a b : State) : Type 0 where
  pub faces : face (booted place a) ≡ face (booted place b)
  pub steps : step_owned (Boot place) a ≡ step_owned (Boot place) b

turn-alike :
    (power : Power) (place : Place) (a b : State) → IsPlace place → HasBorders a.bus.kept → face a ≡ face b →
    TellAlike power place a b → TurnAlike place a b
unfolding owned step_owned boot_turn
turn-alike power place a b is borders same told =
    let x : State = with_dma passed a in
    let y : State = with_dma passed b in
    let rx : Ran Stepped = boot_run place x in
    let ry : Ran Stepped = boot_run place y in
    let faces : face x ≡ face y = ap (with_dma passed) same in
    let alike : StepAlike rx ry = run-alike place x y _ _ is borders faces told.items in
    let steps : (rx.value).step ≡ (ry.value).step = ap (λ (value : Stepped). value.step) alike.value in
    let kepts : rx.part.kept ≡ a.bus.kept = (boot_run-OnlyMemory place x is).kept in
    let after : State = after_boot_step (rx.value).step (stepped rx x) in
    let Opens : Seal → BootStep → Type 0 =
    λ kept step.
    AgreeWhereOpened kept after.bus.kept after.bus.memory (after_boot_step step (stepped ry y)).bus.memory in
    let opened : Opens rx.part.kept (rx.value).step =
    subst (λ kept. Opens kept (rx.value).step) (sym kepts) (subst (Opens a.bus.kept) (sym steps) told.bytes) in
    record {
      faces =
          after-face (rx.value).step (stepped rx x) (stepped ry y) (subst HasBorders (sym kepts) borders)
          (stepped-face rx ry x y alike faces) opened
          ∙ ap (λ step. face (after_boot_step step (stepped ry y))) steps;
      steps = ap Some steps;
    }

-- ---- what it shows

boot_lines-face : (step : Option BootStep) (chip : State) → boot_lines step chip ≡ boot_lines step (face chip)
boot_lines-face None chip = refl
boot_lines-face (Some (Done borders)) chip = refl
boot_lines-face (Some (Going (act.Wipe at))) chip = refl
boot_lines-face (Some (Going act)) chip = refl

turn_lines-face :
    (was_halted : Bool) (step : Option BootStep) (chip : State) →
    turn_lines was_halted step chip ≡ turn_lines was_halted step (face chip)
turn_lines-face was_halted step chip =
    ap (λ lines. halt_lines (halted_since was_halted chip) ++ lines) (boot_lines-face step chip)

-- ---- the law

pub booting-public : (place : Place) (chip : State) → chip.boot ≡ Some place → is_private chip ≡ false
unfolding is_private
booting-public place chip boot =
    let up : is_up chip ≡ false = ap (λ boot. chip.powered && is_none boot) boot ∙ and-false chip.powered in
    ap (λ up. up && not chip.halted && is_in (seal chip.bus.units.encap) (slice_index chip.registers PC)) up

pub boot_steps_see_public : BootStepsSeePublic
boot_steps_see_public power place a b ready boot alike told =
    let same = LookAlike-face a b (booting-public place a boot) alike in
    let is : IsPlace place = subst (λ boot. IfSome boot IsPlace) boot ready.place in
    let turn : TurnAlike place a b = turn-alike power place a b is ready.borders same told in
    record {
      chips = face-LookAlike _ _ turn.faces;
      public = λ public. record {
        registers = ap (λ (chip : State). chip.registers) turn.faces;
        busy = ap (λ (chip : State). chip.busy) turn.faces;
      };
      lines =
          turn_lines-face a.halted (step_owned (Boot place) a) (booted place a)
          ∙ ap (turn_lines a.halted (step_owned (Boot place) a)) turn.faces
          ∙ ap (λ step. turn_lines a.halted step (face (booted place b))) turn.steps
          ∙ ap (λ (chip : State). turn_lines chip.halted (step_owned (Boot place) b) (face (booted place b))) same
          ∙ sym (turn_lines-face b.halted (step_owned (Boot place) b) (booted place b));
    }
