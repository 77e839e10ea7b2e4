-- Every stage of a tick leaves the image's seal to come back, or in force.
use Rattle.std.proofs.Common.{◌≡◌, ◌&&◌, not, ℕ, List, [], ◌∷◌, Bool, true, false, arith, refl, ap, sym, ◌∙◌, subst, if◌then◌else◌}
use Rattle.std.specs.Prelude.{Option, Some, None, is_none}
use Rattle.std.proofs.lemmas.Bool.Decides.{nat_tests}
use Rattle.chip_words.specs.declared.accesses.Agent.TheVariants as by
use Rattle.chip_words.specs.Causes.{POWER_ON}
use Rattle.chip_words.specs.Dma.{Dma}
use Rattle.chip_words.specs.Script.{Ran, Script, run}
use Rattle.chip_words.proofs.Runs.{run_then}
use Rattle.elf_image.specs.Image.{Segment}
use Rattle.boot_code.specs.Facts.{is_unerased}
use Rattle.boot_code.specs.Place.{Place}
use Rattle.debug_port.specs.declared.answers.Answer.{Answer}
use Rattle.debug_port.specs.declared.answers.Answer.TheVariants.{Booting, Bytes}
use Rattle.debug_port.specs.declared.commands.Command.{Command}
use Rattle.debug_port.specs.declared.commands.Command.TheVariants.{Read, Write, Dump, Reg, SetReg, Halt, Go, Reset, Erase}
use Rattle.debug_port.specs.declared.states.Debug.{Debug}
use Rattle.debug_port.specs.Commands.{Commanded, answered, bytes_from, carried_out, commanded, refusal_of, unless_refused}
use Rattle.dma_unit.specs.Transfers.{due, passed}
use Rattle.chip_core.specs.declared.owners.Owner.{Owner}
use Rattle.chip_core.specs.declared.owners.Owner.TheVariants.{Nobody, Boot, SecondTick, Transfer, Processor}
use Rattle.power_schedule.specs.declared.powers.Power.{Power}
use Rattle.power_schedule.specs.declared.powers.Power.TheVariants.{On, Cut, Off}
use Rattle.stimulus.specs.declared.events.Event.{Event}
use Rattle.stimulus.specs.declared.events.EventAct.{EventAct}
use Rattle.stimulus.specs.declared.events.EventAct.TheVariants.{Pin, Debug as Commands}
use Rattle.step_laws.proofs.Shapes.{either_holds}
use Rattle.access_laws.proofs.Courses.{chosen, unchosen}
use Rattle.chip_core.specs.Debugger.{accessed, after_command, behind, debug_of, ran, reset_by, view_of}
use Rattle.chip_core.specs.Phase.{is_private, is_up}
use Rattle.chip_core.specs.State.{State}
use Rattle.chip_core.specs.Tick.{after_bor, after_event, after_events, begun_by, clocked, powered, powered_on, stages_by, stages_from, timed}
use Rattle.chip_core.specs.Turns.{boot_turn, owned, owner_by, owner_of, processor_turn, transfer_turn, with_dma}
use Rattle.release_log.specs.Facts.{FitsChip}
use Rattle.release_log.specs.Lasting.{AreNoErases, HaveSameStructure, IsNoErase, SealsItself, SparesStructure}
use Rattle.release_log.proofs.Held.{IsHeld, Stands, boot-IsHeld}
use Rattle.release_log.proofs.Spared.{IsHolding, run-IsSealed, run-structure, same-HasStructure, transfer-IsHolding, turn-IsGuarded, turn-structure}

-- ---- within a tick

-- in a tick with power the chip has it
abbrev pub IsLit : Power → Bool → Type 0
IsLit Off lit = Unit {0}
IsLit power lit = lit ≡ true

-- a chip between the stages of a tick of this power, before its owner's turn
pub record IsWithin (image : List Segment) (power : Power) (chip : State) : Type 0 where
  pub held : IsHeld image chip
  pub fit : FitsChip chip.boot chip.keep chip.bus.memory
  pub lit : IsLit power chip.powered

-- once the boot is done, the image's seal is in force
pub within-IsHolding :
    (image : List Segment) (power : Power) (chip : State) → chip.boot ≡ None → IsWithin image power chip →
    IsHolding image chip
within-IsHolding image power chip booted is =
    let held = is.held in
    let stands : Stands image None chip.keep chip.bus.units.encap =
    subst (λ (boot : Option Place). Stands image boot chip.keep chip.bus.units.encap) booted held.stands in
    record {
      guarded = record {
        booted = booted;
        marked = stands.0;
        saved = held.rests.saved stands.0;
        sealed = record { encap = stands.1; kept = held.kept };
      };
      bytes = held.rests.bytes;
    }

pub holding-IsHeld : (image : List Segment) (chip : State) → IsHolding image chip → IsHeld image chip
holding-IsHeld image chip is =
    let guarded = is.guarded in
    let marked = guarded.marked in
    record {
      rests = record {
        marked = grind (arith, nat_tests);
        saved = λ e. guarded.saved;
        signed = λ e. absurd (omega arith);
        first = λ e. absurd (omega arith);
        bytes = is.bytes;
      };
      kept = guarded.sealed.kept;
      stands =
          subst (λ (boot : Option Place). Stands image boot chip.keep chip.bus.units.encap) (sym guarded.booted)
          (guarded.marked, guarded.sealed.encap);
    }

holding-IsWithin :
    (image : List Segment) (power : Power) (chip : State) → IsLit power chip.powered → IsHolding image chip →
    IsWithin image power chip
holding-IsWithin image power chip lit is =
    let held = holding-IsHeld image chip is in
    record {
      held = held;
      fit =
          subst (λ (boot : Option Place). FitsChip boot chip.keep chip.bus.memory) (sym is.guarded.booted)
          held.rests.marked;
      lit = lit;
    }

-- ---- the debugger

-- a command that isn't refused finds power on and the boot done
accepted-up :
    (command : Command) (chip : State) → refusal_of command (view_of chip) (debug_of chip) ≡ None → is_up chip ≡ true
accepted-up command chip accepted = by_up (is_up chip) refl
  where
    by_up : (up : Bool) → is_up chip ≡ up → is_up chip ≡ true
    by_up true e = e
    by_up false e =
        let refused : refusal_of command (view_of chip) (debug_of chip) ≡ Some Booting =
        chosen (not (is_up chip)) (Some Booting) _ (ap not e) in
        cc

pub up-booted : (lit : Bool) (boot : Option Place) → (lit && is_none boot) ≡ true → boot ≡ None
up-booted true None e = refl
up-booted true (Some place) e = cc
up-booted false boot e = cc

-- whether an erase was asked for, behind a command that isn't refused
abbrev asks_erase : Command → State → Bool
asks_erase command chip =
    (((run by.Debug (carried_out command (debug_of chip) chip.registers) chip.bus).value).debug).erase

-- an erase alone asks for one, and is accepted
no_erase :
    (command : Command) (chip : State) → refusal_of command (view_of chip) (debug_of chip) ≡ None →
    IsNoErase (Commands command) chip → asks_erase command chip ≡ false
unfolding ran commanded
no_erase Erase chip accepted none =
    let answers = ap
    (λ (cause : Option Answer).
    ((run by.Debug (unless_refused cause Erase (debug_of chip) chip.registers) chip.bus).value).answer)
    accepted in
    absurd (none refl answers)
no_erase (Read at) chip accepted none = refl
no_erase (Write at value) chip accepted none = refl
no_erase (Dump at count) chip accepted none =
    ap (λ (ran : Ran Commanded). ran.value.debug.erase)
    (run_then by.Debug (bytes_from count at) (λ bytes. answered (Bytes bytes) (debug_of chip) chip.registers) chip.bus)
no_erase (Reg n) chip accepted none = refl
no_erase (SetReg n value) chip accepted none = refl
no_erase Halt chip accepted none =
    either_holds (λ (debug : Debug). debug.erase ≡ false) chip.halted (debug_of chip)
    (record (debug_of chip) { pending = true }) refl refl
no_erase Go chip accepted none = refl
no_erase Reset chip accepted none = refl

-- the chip behind the accesses of a command without an erase
accessed-IsHolding :
    (image : List Segment) (script : Script Commanded) (chip : State) → SealsItself image → IsHolding image chip →
    (let ran = run by.Debug script chip.bus in
    ran.value.debug.erase ≡ false → IsHolding image (behind ran chip))
accessed-IsHolding image script chip seals is kept =
    let ran = run by.Debug script chip.bus in
    let guarded = is.guarded in
    let sealed = run-IsSealed image by.Debug script chip.bus seals guarded.sealed in
    let told = reset_by ran.value.debug (accessed ran chip) in
    subst (IsHolding image) (sym (unchosen ran.value.debug.erase _ told kept))
    (record {
      guarded = record {
        booted = guarded.booted;
        marked = guarded.marked;
        saved = guarded.saved;
        sealed = record { encap = sealed.encap; kept = sealed.kept };
      };
      bytes =
          same-HasStructure image chip.bus.memory ran.part.memory
          (run-structure image by.Debug script chip.bus seals guarded.sealed tt)
          is.bytes;
    })

command-IsWithin :
    (image : List Segment) (power : Power) (command : Command) (chip : State) → SealsItself image →
    IsNoErase (Commands command) chip → IsWithin image power chip → IsWithin image power (after_command command chip)
unfolding after_command ran commanded
command-IsWithin image power command chip seals none is =
    by_refusal (refusal_of command (view_of chip) (debug_of chip)) refl
  where
    Within : Option Answer → Type 0
    Within cause =
        IsWithin image power
        (behind (run by.Debug (unless_refused cause command (debug_of chip) chip.registers) chip.bus) chip)

    by_refusal :
        (cause : Option Answer) → refusal_of command (view_of chip) (debug_of chip) ≡ cause →
        Within (refusal_of command (view_of chip) (debug_of chip))
    by_refusal (Some cause) e =
        subst Within (sym e)
        (record {
          held = record { rests = is.held.rests; kept = is.held.kept; stands = is.held.stands };
          fit = is.fit;
          lit = is.lit;
        })
    by_refusal None e =
        let booted = up-booted chip.powered chip.boot (accepted-up command chip e) in
        let holding = within-IsHolding image power chip booted is in
        let script = carried_out command (debug_of chip) chip.registers in
        subst Within (sym e)
        (holding-IsWithin image power (behind (run by.Debug script chip.bus) chip)
        (behind-lit script)
        (accessed-IsHolding image script chip seals holding (no_erase command chip e none)))
      where
        behind-lit : (script : Script Commanded) → IsLit power (behind (run by.Debug script chip.bus) chip).powered
        behind-lit script =
            let ran = run by.Debug script chip.bus in
            either_holds (λ (after : State). IsLit power after.powered) ran.value.debug.erase _
            (reset_by ran.value.debug (accessed ran chip)) is.lit is.lit

event-IsWithin :
    (image : List Segment) (power : Power) (act : EventAct) (chip : State) → SealsItself image → IsNoErase act chip →
    IsWithin image power chip → IsWithin image power (after_event act chip)
event-IsWithin image power (Pin port bit level) chip seals none is = record {
  held = record { rests = is.held.rests; kept = is.held.kept; stands = is.held.stands };
  fit = is.fit;
  lit = is.lit;
}
event-IsWithin image power (Commands command) chip seals none is =
    command-IsWithin image power command chip seals none is

pub events-IsWithin :
    (image : List Segment) (power : Power) (events : List Event) (chip : State) → SealsItself image →
    AreNoErases events chip → IsWithin image power chip → IsWithin image power (after_events events chip)
events-IsWithin image power [] chip seals none is = is
events-IsWithin image power (event ∷ events) chip seals none is =
    events-IsWithin image power events (after_event event.act chip) seals none.1
    (event-IsWithin image power event.act chip seals none.0 is)

-- ---- power, and the timers

lit-IsWithin :
    (image : List Segment) (chip : State) → IsHeld image chip → FitsChip chip.boot chip.keep chip.bus.memory →
    (power : Power) → IsLit power true → IsWithin image power (powered_on chip)
lit-IsWithin image chip held fit power lit = by_power chip.powered refl
  where
    came : State
    came = record (after_bor POWER_ON chip) { powered = true }

    unerased : is_unerased chip.keep.mark ≡ true
    unerased = held.rests.marked

    by_power : (test : Bool) → chip.powered ≡ test → IsWithin image power (if chip.powered then chip else came)
    by_power true e =
        subst (IsWithin image power) (sym (chosen chip.powered chip came e))
        (record { held = held; fit = fit; lit = subst (IsLit power) (sym e) lit })
    by_power false e =
        subst (IsWithin image power) (sym (unchosen chip.powered chip came e))
        (record {
          held = record { rests = held.rests; kept = held.kept; stands = refl };
          fit = grind (arith, nat_tests);
          lit = lit;
        })

pub powered-IsWithin :
    (image : List Segment) (power : Power) (chip : State) → IsHeld image chip →
    FitsChip chip.boot chip.keep chip.bus.memory → IsWithin image power (powered power chip)
unfolding powered
powered-IsWithin image On chip held fit =
    lit-IsWithin image (begun_by On chip)
    (record { rests = held.rests; kept = held.kept; stands = held.stands }) fit On refl
powered-IsWithin image (Cut writes) chip held fit =
    lit-IsWithin image (begun_by (Cut writes) chip)
    (record { rests = held.rests; kept = held.kept; stands = held.stands }) fit (Cut writes) refl
powered-IsWithin image Off chip held fit = record {
  held = record { rests = held.rests; kept = held.kept; stands = held.stands };
  fit = fit;
  lit = tt;
}

pub powered-tick : (power : Power) (chip : State) → (powered power chip).tick ≡ chip.tick
unfolding powered
powered-tick On chip = either_holds (λ (after : State). after.tick ≡ chip.tick) chip.powered _ _ refl refl
powered-tick (Cut writes) chip = either_holds (λ (after : State). after.tick ≡ chip.tick) chip.powered _ _ refl refl
powered-tick Off chip = refl

clocked-IsWithin :
    (image : List Segment) (power : Power) (chip : State) → IsWithin image power chip →
    IsWithin image power (clocked chip.boot chip)
clocked-IsWithin image power chip is = by_boot chip.boot
  where
    by_boot : (boot : Option Place) → IsWithin image power (clocked boot chip)
    by_boot (Some place) = is
    by_boot None = record {
      held = record { rests = is.held.rests; kept = is.held.kept; stands = is.held.stands };
      fit = is.fit;
      lit = is.lit;
    }

pub timed-IsWithin :
    (image : List Segment) (power : Power) (chip : State) → IsWithin image power chip →
    IsWithin image power (timed power chip)
unfolding timed
timed-IsWithin image On chip is = clocked-IsWithin image On chip is
timed-IsWithin image (Cut writes) chip is = clocked-IsWithin image (Cut writes) chip is
timed-IsWithin image Off chip is = is

-- ---- the owner's turn

-- DMA's counts come on
dma-IsWithin :
    (image : List Segment) (power : Power) (change : Dma → Dma) (chip : State) → IsWithin image power chip →
    IsWithin image power (with_dma change chip)
dma-IsWithin image power change chip is = record {
  held = record { rests = is.held.rests; kept = is.held.kept; stands = is.held.stands };
  fit = is.fit;
  lit = is.lit;
}

-- a boot's step
place-IsHeld :
    (image : List Segment) (power : Power) (place : Place) (chip : State) → SealsItself image →
    chip.boot ≡ Some place → IsWithin image power chip → IsHeld image (boot_turn place chip)
place-IsHeld image power place chip seals next is =
    boot-IsHeld image place chip seals
    (record {
      rests = is.held.rests;
      kept = is.held.kept;
      lasting =
          subst (λ (boot : Option Place). Stands image boot chip.keep chip.bus.units.encap) next is.held.stands;
      fit = subst (λ (boot : Option Place). FitsChip boot chip.keep chip.bus.memory) next is.fit;
    })

-- the processor's turn, which spares the structure where it is private
processor-IsHeld :
    (image : List Segment) (power : Power) (chip : State) → SealsItself image → chip.boot ≡ None →
    chip.powered ≡ true →
    (is_private chip ≡ true → HaveSameStructure image chip.bus.memory (processor_turn chip).chip.bus.memory) →
    IsWithin image power chip → IsHeld image (processor_turn chip).chip
processor-IsHeld image power chip seals booted lit spares is =
    let holding = within-IsHolding image power chip booted is in
    holding-IsHeld image (processor_turn chip).chip
    (record {
      guarded = turn-IsGuarded image chip seals holding.guarded;
      bytes =
          same-HasStructure image chip.bus.memory (processor_turn chip).chip.bus.memory
          (by_phase (is_private chip) refl) holding.bytes;
    })
  where
    by_phase :
        (private : Bool) → is_private chip ≡ private →
        HaveSameStructure image chip.bus.memory (processor_turn chip).chip.bus.memory
    by_phase true e = spares e
    by_phase false e =
        turn-structure image chip seals (within-IsHolding image power chip booted is).guarded lit e

-- the place of a boot that owns the bus
abbrev boot_of : Owner → Option Place
boot_of (Boot place) = Some place
boot_of owner = None

owner-boot : (boot : Option Place) (second : Bool) (channel : Option ℕ) → boot ≡ boot_of (owner_by boot second channel)
owner-boot (Some place) second channel = refl
owner-boot None true channel = refl
owner-boot None false (Some channel) = refl
owner-boot None false None = refl

-- in a tick with power
owned-IsHeld :
    (image : List Segment) (power : Power) (ready : State) → SealsItself image → ready.powered ≡ true →
    IsWithin image power ready → (owner : Owner) → owner_of ready ≡ owner →
    SparesStructure image (stages_by power ready owner) → IsHeld image (owned owner ready).chip
unfolding owned owner_of is_private
owned-IsHeld image power ready seals lit is owner e spares = by_owner owner e spares
  where
    place : (owner : Owner) → owner_of ready ≡ owner → ready.boot ≡ boot_of owner
    place owner e =
        owner-boot ready.boot ready.second_tick (due ready.bus.units.dma) ∙ ap boot_of e

    by_owner :
        (owner : Owner) → owner_of ready ≡ owner → SparesStructure image (stages_by power ready owner) →
        IsHeld image (owned owner ready).chip
    by_owner Nobody e spares = is.held
    by_owner (Boot next) e spares =
        place-IsHeld image power next (with_dma passed ready) seals (place (Boot next) e)
        (dma-IsWithin image power passed ready is)
    by_owner SecondTick e spares =
        record { rests = is.held.rests; kept = is.held.kept; stands = is.held.stands }
    by_owner (Transfer channel) e spares =
        holding-IsHeld image (transfer_turn channel ready).chip
        (transfer-IsHolding image channel ready seals
        (within-IsHolding image power ready (place (Transfer channel) e) is))
    by_owner Processor e spares =
        processor-IsHeld image power (with_dma passed ready) seals (place Processor e) lit
        (λ private. spares (record { owner = refl; phase = private })) (dma-IsWithin image power passed ready is)

-- the chip behind its owner's turn
pub stage-IsHeld :
    (image : List Segment) (power : Power) (ready : State) → SealsItself image → IsWithin image power ready →
    SparesStructure image (stages_from power ready) → IsHeld image (stages_from power ready).turn.chip
unfolding owned
stage-IsHeld image On ready seals is spares =
    owned-IsHeld image On ready seals is.lit is (owner_of ready) refl spares
stage-IsHeld image (Cut writes) ready seals is spares =
    owned-IsHeld image (Cut writes) ready seals is.lit is (owner_of ready) refl spares
stage-IsHeld image Off ready seals is spares = is.held
