-- A command of the debugger: what it answers and leaves goes by what is public.
use Rattle.std.proofs.Common.{◌≡◌, ◌%◌, ◌-◌, ℕ, List, [], Bool, true, false, not, ◌&&◌, arith, refl, ap, sym, ◌∙◌, subst, if◌then◌else◌}
use Rattle.std.specs.Prelude.{Some, ◌==◌}
use Rattle.std.proofs.lemmas.Bool.Decides.{nat_tests}
use Rattle.chip_words.specs.declared.sizes.Size.TheVariants.{Word}
use Rattle.chip_words.specs.declared.accesses.Agent.TheVariants as by
use Rattle.chip_words.specs.declared.seals.Seal.{Seal}
use Rattle.chip_words.specs.Access.{access}
use Rattle.chip_words.specs.BusPart.{BusPart}
use Rattle.chip_words.specs.Memory.{loaded}
use Rattle.chip_words.specs.Public.{IsSettled}
use Rattle.chip_words.specs.Script.{Ask, Ran, Return, Script, run}
use Rattle.chip_words.specs.Seals.{is_in}
use Rattle.chip_words.proofs.Runs.{run_then}
use Rattle.access_laws.specs.Boots.{HasBorders}
use Rattle.access_laws.proofs.Courses.{chosen}
use Rattle.access_laws.proofs.Masks.{loaded-hidden}
use Rattle.access_laws.proofs.Outside.{access-alike}
use Rattle.access_laws.proofs.Seen.{IsSettled-HasBorders, seen}
use Rattle.access_laws.proofs.Settling.{access-IsSettled, run-IsSettled}
use Rattle.boot_code.specs.Boot.{ERASING}
use Rattle.debug_port.specs.declared.answers.Answer.{Answer}
use Rattle.debug_port.specs.declared.answers.Answer.TheVariants.{Booting, Bytes}
use Rattle.debug_port.specs.declared.commands.Command.{Command}
use Rattle.debug_port.specs.declared.commands.Command.TheVariants.{Read, Write, Dump, Reg, SetReg, Halt, Go, Reset, Erase}
use Rattle.debug_port.specs.declared.states.Debug.{Debug}
use Rattle.debug_port.specs.declared.states.DebugView.{DebugView}
use Rattle.debug_port.specs.Commands.{Commanded, answered, bytes_from, commanded, refusal_of, run_of, unless_refused}
use Rattle.step_laws.proofs.Shapes.{either_holds}
use Rattle.release_log.proofs.Kept.{command-unup}
use Rattle.release_log.proofs.Locked.{run-KeepsEncapsulation}
use Rattle.chip_core.specs.Boot.{with_mark}
use Rattle.chip_core.specs.Debugger.{FIRST_DEBUG_SIGNATURE, SECOND_DEBUG_SIGNATURE, accessed, after_command, answer_to, behind, debug_of, is_closed, marked_by, ran, reset_by, view_of}
use Rattle.chip_core.specs.Phase.{is_private, is_up}
use Rattle.chip_core.specs.State.{State}
use Rattle.stage_laws.specs.Alike.{LookAlike}
use Rattle.stage_laws.proofs.Faces.{LookAlike-face, LookAlike-outer, face, face-LookAlike, outer}
use Rattle.stage_laws.proofs.Passing.{IsPassed, passed-LookAlike}

-- the addresses that stay secret have borders, and with power on and the boot done they are those of the seal
pub record IsKept (chip : State) : Type 0 where
  pub borders : HasBorders chip.bus.kept
  pub settled : is_up chip ≡ true → IsSettled chip.bus

-- ---- the accesses

-- two runs end in the same, and leave parts of which the same is seen
record EndsAlike {A : Type 0} (x y : Ran A) : Type 0 where
  pub value : x.value ≡ y.value
  pub part : seen x.part ≡ seen y.part

-- the debugger is always outside the seal, also where its own write sets it
debugger-alike :
    {A : Type 0} (script : Script A) (a b : BusPart) → IsSettled a → IsSettled b → seen a ≡ seen b →
    EndsAlike (run by.Debug script a) (run by.Debug script b)
debugger-alike (Return value) a b settled_a settled_b same = record { value = refl; part = same }
debugger-alike {A} (Ask kind at size value rest) a b settled_a settled_b same =
    let x = access by.Debug kind at size value a in
    let y = access by.Debug kind at size value b in
    let agree = access-alike by.Debug kind at size value a b settled_a settled_b tt same in
    subst (λ answer. EndsAlike (run by.Debug (rest x.answer) x.part) (run by.Debug (rest answer) y.part)) agree.answer
    (debugger-alike (rest x.answer) x.part y.part (access-IsSettled by.Debug kind at size value a settled_a)
    (access-IsSettled by.Debug kind at size value b settled_b) agree.part)

-- ---- what a command finds

signatures_shown : (seal : Seal) (at : ℕ) → at ≡ FIRST_DEBUG_SIGNATURE → is_in seal at ≡ false
unfolding is_in
signatures_shown seal at is = grind (arith, nat_tests)

second_shown : (seal : Seal) → is_in seal SECOND_DEBUG_SIGNATURE ≡ false
unfolding is_in
second_shown seal = grind (arith, nat_tests)

words-alike :
    (at : ℕ) (a b : BusPart) → HasBorders a.kept → HasBorders b.kept → at % 2 ≡ 0 →
    ((seal : Seal) → is_in seal at ≡ false) → seen a ≡ seen b → loaded a.memory at Word ≡ loaded b.memory at Word
words-alike at a b borders_a borders_b even shown same =
    let place : at - at % 2 ≡ at = omega arith in
    loaded-hidden a.kept a.memory at Word borders_a place (shown a.kept)
    ∙ ap (λ (part : BusPart). loaded part.memory at Word) same
    ∙ sym (loaded-hidden b.kept b.memory at Word borders_b place (shown b.kept))

closed-alike : (a b : State) → IsKept a → IsKept b → seen a.bus ≡ seen b.bus → is_closed a ≡ is_closed b
closed-alike a b kept_a kept_b same =
    let first = words-alike FIRST_DEBUG_SIGNATURE a.bus b.bus kept_a.borders kept_b.borders refl
    (λ seal. signatures_shown seal FIRST_DEBUG_SIGNATURE refl) same in
    let second = words-alike SECOND_DEBUG_SIGNATURE a.bus b.bus kept_a.borders kept_b.borders refl second_shown same in
    let closes : ℕ → ℕ → Bool = λ one other. (one == 0x5555) && (other == 0x5555) in
    ap (λ one. closes one (loaded a.bus.memory SECOND_DEBUG_SIGNATURE Word)) first
    ∙ ap (closes (loaded b.bus.memory FIRST_DEBUG_SIGNATURE Word)) second

up-alike : (a b : State) → LookAlike a b → is_up a ≡ is_up b
up-alike a b alike = ap is_up (LookAlike-outer a b alike)

views-alike : (a b : State) → IsKept a → IsKept b → LookAlike a b → view_of a ≡ view_of b
views-alike a b kept_a kept_b alike =
    let same = LookAlike-outer a b alike in
    let made : Bool → Bool → DebugView = λ up closed. record { up = up; closed = closed } in
    ap (λ up. made up (is_closed a)) (up-alike a b alike)
    ∙ ap (made (is_up b)) (closed-alike a b kept_a kept_b (ap (λ (chip : State). chip.bus) same))

debugs-alike : (a b : State) → LookAlike a b → debug_of a ≡ debug_of b
debugs-alike a b alike = ap debug_of (LookAlike-outer a b alike)

-- ---- a processor that isn't halted: the registers are none of the command's

-- but for the registers two runs are the same, which leave it running
record IsApart (registers : List ℕ) (x y : Ran Commanded) : Type 0 where
  pub answer : x.value.answer ≡ y.value.answer
  pub debug : x.value.debug ≡ y.value.debug
  pub part : x.part ≡ y.part
  pub leaves : x.value.registers ≡ registers
  pub running : x.value.debug.halted ≡ false

abbrev running : Bool → Debug
running pending = record { halted = false; pending = pending; reset = false; erase = false }

abbrev unrefused : Command → Bool → Bool → Bool → List ℕ → BusPart → Ran Commanded
unrefused what up closed pending registers part =
    run by.Debug
    (unless_refused (refusal_of what (record { up = up; closed = closed }) (running pending)) what (running pending)
    registers) part

simple : (registers : List ℕ) (answer : Answer) (debug : Debug) (part : BusPart) → debug.halted ≡ false →
    IsApart registers (record { value = record { answer = answer; debug = debug; registers = registers }; part = part })
    (record { value = record { answer = answer; debug = debug; registers = [] }; part = part })
simple registers answer debug part runs =
    record { answer = refl; debug = refl; part = refl; leaves = refl; running = runs }

apart : (what : Command) (up closed pending : Bool) (registers : List ℕ) (part : BusPart) →
    IsApart registers (unrefused what up closed pending registers part) (unrefused what up closed pending [] part)
apart what false closed pending registers part = simple registers _ _ part refl
apart what true true pending registers part = simple registers _ _ part refl
apart (Read at) true false pending registers part = simple registers _ _ _ refl
apart (Write at value) true false pending registers part = simple registers _ _ _ refl
apart (Dump at count) true false pending registers part =
    let bytes = run by.Debug (bytes_from count at) part in
    let ends : List ℕ → List ℕ → Script Commanded =
    λ registers bytes. answered (Bytes bytes) (running pending) registers in
    subst (λ x. IsApart registers x (unrefused (Dump at count) true false pending [] part))
    (sym (run_then by.Debug (bytes_from count at) (ends registers) part))
    (subst (λ y. IsApart registers (run by.Debug (ends registers bytes.value) bytes.part) y)
    (sym (run_then by.Debug (bytes_from count at) (ends []) part))
    (simple registers (Bytes bytes.value) (running pending) bytes.part refl))
apart (Reg n) true false pending registers part = simple registers _ _ part refl
apart (SetReg n value) true false pending registers part = simple registers _ _ part refl
apart Halt true false pending registers part = simple registers _ _ part refl
apart Go true false pending registers part = simple registers _ _ part refl
apart Reset true false pending registers part = simple registers _ _ part refl
apart Erase true false pending registers part = simple registers _ _ part refl

-- the command without the registers
abbrev bare : Command → State → Ran Commanded
bare what chip = run_of what (view_of chip) (debug_of chip) [] chip.bus

ran-apart :
    (what : Command) (chip : State) → chip.halted ≡ false →
    IsApart chip.registers (ran what chip) (bare what chip)
unfolding ran commanded
ran-apart what chip runs =
    let with_halted : Bool → List ℕ → Ran Commanded = λ halted registers.
    run by.Debug
    (unless_refused (refusal_of what (view_of chip) (record (debug_of chip) { halted = halted })) what
    (record (debug_of chip) { halted = halted }) registers) chip.bus in
    subst (λ halted. IsApart chip.registers (with_halted halted chip.registers) (with_halted halted [])) (sym runs)
    (apart what (is_up chip) (is_closed chip) chip.pending chip.registers chip.bus)

-- ---- two chips

-- what two runs of a command have in common
record ToldAlike (x y : Ran Commanded) : Type 0 where
  pub answer : x.value.answer ≡ y.value.answer
  pub debug : x.value.debug ≡ y.value.debug
  pub part : seen x.part ≡ seen y.part

-- with equal registers
whole-alike :
    (what : Command) (registers : List ℕ) (a b : State) → IsKept a → IsKept b → is_up a ≡ true → LookAlike a b →
    EndsAlike (run_of what (view_of a) (debug_of a) registers a.bus)
    (run_of what (view_of b) (debug_of b) registers b.bus)
whole-alike what registers a b kept_a kept_b up alike =
    let up_b = sym (up-alike a b alike) ∙ up in
    let same = ap (λ (chip : State). chip.bus) (LookAlike-outer a b alike) in
    let script : DebugView → Debug → Script Commanded = λ view debug. commanded what view debug registers in
    let x : Ran Commanded = run by.Debug (script (view_of a) (debug_of a)) a.bus in
    let one : EndsAlike x (run by.Debug (script (view_of a) (debug_of a)) b.bus) =
    debugger-alike (script (view_of a) (debug_of a)) a.bus b.bus (kept_a.settled up) (kept_b.settled up_b) same in
    subst (λ debug. EndsAlike x (run by.Debug (script (view_of b) debug) b.bus)) (debugs-alike a b alike)
    (subst (λ view. EndsAlike x (run by.Debug (script view (debug_of a)) b.bus))
    (views-alike a b kept_a kept_b alike) one)

-- ---- what a command leaves

-- the chip behind what a command asks for
abbrev obeyed : Debug → State → State
obeyed debug chip = marked_by debug (reset_by debug chip)

obeyed-face : (debug : Debug) (chip : State) → face (obeyed debug chip) ≡ obeyed debug (face chip)
obeyed-face debug chip =
    let asks = reset_by debug chip in
    let others = reset_by debug (face chip) in
    elim debug.erase as
    (λ test. face (if test then with_mark ERASING asks else asks)
    ≡ (if test then with_mark ERASING others else others)) [
      | true ↦ refl
      | false ↦ refl
    ]

obeyed-outer : (debug : Debug) (chip : State) → outer (obeyed debug chip) ≡ obeyed debug (outer chip)
obeyed-outer debug chip =
    let asks = reset_by debug chip in
    let others = reset_by debug (outer chip) in
    elim debug.erase as
    (λ test. outer (if test then with_mark ERASING asks else asks)
    ≡ (if test then with_mark ERASING others else others)) [
      | true ↦ refl
      | false ↦ refl
    ]

-- two commands give equal answers, and leave chips that look alike
pub record CommandAlike (what : Command) (a b : State) : Type 0 where
  pub answers : answer_to what a ≡ answer_to what b
  pub chips : LookAlike (after_command what a) (after_command what b)

-- ---- the processor is halted: the registers are public

halted-public : (chip : State) → chip.halted ≡ true → is_private chip ≡ false
unfolding is_private
halted-public chip halted = grind (arith, nat_tests)

halted-ends :
    (what : Command) (a b : State) → IsKept a → IsKept b → is_up a ≡ true → face a ≡ face b → LookAlike a b →
    EndsAlike (ran what a) (ran what b)
unfolding ran
halted-ends what a b kept_a kept_b up same alike =
    subst
    (λ registers. EndsAlike (run_of what (view_of a) (debug_of a) a.registers a.bus)
    (run_of what (view_of b) (debug_of b) registers b.bus))
    (ap (λ (chip : State). chip.registers) same)
    (whole-alike what a.registers a b kept_a kept_b up alike)

behind-faces :
    (x y : Ran Commanded) (a b : State) → EndsAlike x y → face a ≡ face b → face (behind x a) ≡ face (behind y b)
behind-faces x y a b ends same =
    let made : State → Commanded → BusPart → State = λ chip value part. record chip {
      bus = part;
      registers = value.registers;
      halted = value.debug.halted;
      pending = value.debug.pending;
    } in
    let accesses : face (accessed x a) ≡ face (accessed y b) =
    ap (λ chip. made chip x.value (seen x.part)) same
    ∙ ap (λ value. made (face b) value (seen x.part)) ends.value
    ∙ ap (made (face b) y.value) ends.part in
    obeyed-face x.value.debug (accessed x a)
    ∙ ap (obeyed x.value.debug) accesses
    ∙ ap (λ (value : Commanded). obeyed value.debug (face (accessed y b))) ends.value
    ∙ sym (obeyed-face y.value.debug (accessed y b))

halted-alike :
    (what : Command) (a b : State) → IsKept a → IsKept b → is_up a ≡ true → a.halted ≡ true → LookAlike a b →
    CommandAlike what a b
unfolding after_command
halted-alike what a b kept_a kept_b up halted alike =
    let same = LookAlike-face a b (halted-public a halted) alike in
    let ends = halted-ends what a b kept_a kept_b up same alike in
    record {
      answers = ap (λ (value : Commanded). value.answer) ends.value;
      chips = face-LookAlike _ _ (behind-faces (ran what a) (ran what b) a b ends same);
    }

-- ---- the processor isn't halted

running-told :
    (what : Command) (a b : State) → IsKept a → IsKept b → is_up a ≡ true → a.halted ≡ false → b.halted ≡ false →
    LookAlike a b → ToldAlike (ran what a) (ran what b)
running-told what a b kept_a kept_b up runs_a runs_b alike =
    let x = ran-apart what a runs_a in
    let y = ran-apart what b runs_b in
    let ends = whole-alike what [] a b kept_a kept_b up alike in
    record {
      answer = x.answer ∙ ap (λ (value : Commanded). value.answer) ends.value ∙ sym y.answer;
      debug = x.debug ∙ ap (λ (value : Commanded). value.debug) ends.value ∙ sym y.debug;
      part = ap seen x.part ∙ ends.part ∙ sym (ap seen y.part);
    }

behind-outers :
    (x y : Ran Commanded) (a b : State) → ToldAlike x y → outer a ≡ outer b → outer (behind x a) ≡ outer (behind y b)
behind-outers x y a b told same =
    let made : State → Debug → BusPart → State = λ chip debug part. record chip {
      bus = part;
      halted = debug.halted;
      pending = debug.pending;
    } in
    let accesses : outer (accessed x a) ≡ outer (accessed y b) =
    ap (λ chip. made chip x.value.debug (seen x.part)) same
    ∙ ap (λ debug. made (outer b) debug (seen x.part)) told.debug
    ∙ ap (made (outer b) y.value.debug) told.part in
    obeyed-outer x.value.debug (accessed x a)
    ∙ ap (obeyed x.value.debug) accesses
    ∙ ap (λ debug. obeyed debug (outer (accessed y b))) told.debug
    ∙ sym (obeyed-outer y.value.debug (accessed y b))

obeyed-IsPassed : (debug : Debug) (before chip : State) → IsPassed before chip → IsPassed before (obeyed debug chip)
obeyed-IsPassed debug before chip passed =
    either_holds (IsPassed before) debug.erase (with_mark ERASING (reset_by debug chip)) (reset_by debug chip)
    (record {
      registers = passed.registers;
      busy = passed.busy;
      halted = passed.halted;
      up = passed.up;
      encap = λ locked. passed.encap locked;
    })
    (record {
      registers = passed.registers;
      busy = passed.busy;
      halted = passed.halted;
      up = passed.up;
      encap = λ locked. passed.encap locked;
    })

accessed-IsPassed :
    (what : Command) (chip : State) → chip.halted ≡ false → IsPassed chip (accessed (ran what chip) chip)
unfolding ran
accessed-IsPassed what chip runs =
    let x = ran-apart what chip runs in
    let script = commanded what (view_of chip) (debug_of chip) chip.registers in
    record {
      registers = x.leaves;
      busy = refl;
      halted = x.running ∙ sym runs;
      up = refl;
      encap = λ locked. (run-KeepsEncapsulation by.Debug script chip.bus locked).registers;
    }

running-IsPassed : (what : Command) (chip : State) → chip.halted ≡ false → IsPassed chip (after_command what chip)
unfolding after_command
running-IsPassed what chip runs =
    obeyed-IsPassed (ran what chip).value.debug chip (accessed (ran what chip) chip) (accessed-IsPassed what chip runs)

running-outers :
    (what : Command) (a b : State) → ToldAlike (ran what a) (ran what b) → outer a ≡ outer b →
    outer (after_command what a) ≡ outer (after_command what b)
unfolding after_command
running-outers what a b told same = behind-outers (ran what a) (ran what b) a b told same

running-alike :
    (what : Command) (a b : State) → IsKept a → IsKept b → is_up a ≡ true → a.halted ≡ false → LookAlike a b →
    CommandAlike what a b
running-alike what a b kept_a kept_b up runs alike =
    let same = LookAlike-outer a b alike in
    let runs_b : b.halted ≡ false = ap (λ (chip : State). chip.halted) (sym same) ∙ runs in
    let told = running-told what a b kept_a kept_b up runs runs_b alike in
    record {
      answers = told.answer;
      chips =
          passed-LookAlike a b _ _ alike (running-IsPassed what a runs) (running-IsPassed what b runs_b)
          (running-outers what a b told same);
    }

-- ---- a command in any state of the chip

unup-answer : (what : Command) (chip : State) → is_up chip ≡ false → answer_to what chip ≡ Booting
unfolding ran commanded
unup-answer what chip down =
    ap
    (λ refusal. (run by.Debug (unless_refused refusal what (debug_of chip) chip.registers) chip.bus).value.answer)
    (chosen (not (is_up chip)) (Some Booting) _ (ap not down))

pub command-alike :
    (what : Command) (a b : State) → IsKept a → IsKept b → LookAlike a b → CommandAlike what a b
command-alike what a b kept_a kept_b alike = by_up (is_up a) refl
  where
    by_halt : (test : Bool) → is_up a ≡ true → a.halted ≡ test → CommandAlike what a b
    by_halt true up halted = halted-alike what a b kept_a kept_b up halted alike
    by_halt false up runs = running-alike what a b kept_a kept_b up runs alike

    by_up : (test : Bool) → is_up a ≡ test → CommandAlike what a b
    by_up true up = by_halt a.halted up refl
    by_up false down =
        let down_b : is_up b ≡ false = sym (up-alike a b alike) ∙ down in
        record {
          answers = unup-answer what a down ∙ sym (unup-answer what b down_b);
          chips =
              subst (λ x. LookAlike x (after_command what b)) (sym (command-unup what a down))
              (subst (LookAlike a) (sym (command-unup what b down_b)) alike);
        }

-- ---- what it keeps

settled-IsKept : (chip : State) → IsSettled chip.bus → IsKept chip
settled-IsKept chip settled = record { borders = IsSettled-HasBorders chip.bus settled; settled = λ up. settled }

ran-settled : (what : Command) (chip : State) → IsSettled chip.bus → IsSettled (ran what chip).part
unfolding ran
ran-settled what chip settled =
    run-IsSettled by.Debug (commanded what (view_of chip) (debug_of chip) chip.registers) chip.bus settled

up-IsKept : (what : Command) (chip : State) → IsSettled chip.bus → IsKept (after_command what chip)
unfolding after_command
up-IsKept what chip settled =
    let debug = (ran what chip).value.debug in
    let asks = reset_by debug (accessed (ran what chip) chip) in
    either_holds IsKept debug.erase (with_mark ERASING asks) asks
    (settled-IsKept _ (ran-settled what chip settled)) (settled-IsKept _ (ran-settled what chip settled))

pub command-IsKept : (what : Command) (chip : State) → IsKept chip → IsKept (after_command what chip)
command-IsKept what chip kept = by_up (is_up chip) refl
  where
    by_up : (test : Bool) → is_up chip ≡ test → IsKept (after_command what chip)
    by_up true up = up-IsKept what chip (kept.settled up)
    by_up false down = subst IsKept (sym (command-unup what chip down)) kept
