-- Power, the stimulus and the timers.
use Rattle.std.proofs.Common.{◌≡◌, ◌%◌, min, ◌<◌, ℕ, List, [], ◌∷◌, ◌++◌, Bool, true, false, not, ◌&&◌, slice_index, arith, refl, ap, sym, ◌∙◌, subst, if◌then◌else◌}
use Rattle.std.specs.Prelude.{Option, Some, None, ◌==◌, bit_and}
use Rattle.std.specs.Int.{bit_at}
use Rattle.std.proofs.lemmas.Bool.Decides.{nat_tests}
use Rattle.std.proofs.lemmas.Nat.Bits.{bit_at_and}
use Rattle.chip_words.specs.Bits.{has_bit}
use Rattle.chip_words.specs.Causes.{POWER_ON}
use Rattle.chip_words.specs.Registers.{OSCOFF, SCG1, SR}
use Rattle.chip_words.specs.Units.{units_clocked}
use Rattle.boot_code.specs.Place.{Place}
use Rattle.power_schedule.specs.declared.powers.Power.{Power}
use Rattle.power_schedule.specs.declared.powers.Power.TheVariants.{On, Cut, Off}
use Rattle.stimulus.specs.declared.events.Event.{Event}
use Rattle.stimulus.specs.declared.events.EventAct.{EventAct}
use Rattle.stimulus.specs.declared.events.EventAct.TheVariants.{Pin, Debug}
use Rattle.stimulus.specs.Events.{on_tick}
use Rattle.stimulus.specs.Stimulus.{Stimulus}
use Rattle.chip_core.specs.Debugger.{command_lines}
use Rattle.chip_core.specs.Items.{power_bits}
use Rattle.chip_core.specs.Lines.{event_lines, events_lines, power_lines, stimulus_lines}
use Rattle.chip_core.specs.Phase.{is_private}
use Rattle.chip_core.specs.State.{State}
use Rattle.chip_core.specs.Tick.{aclk_edge, after_bor, after_event, after_events, begun_by, clocked, moments, owner_in, power_of, powered, powered_on, smclk_edge, stages, stimulated, timed}
use Rattle.release_log.specs.Facts.{IsSound}
use Rattle.stage_laws.specs.Alike.{LookAlike}
use Rattle.chip_core.specs.Turns.{owner_of}
use Rattle.stage_laws.specs.Beginnings.{BeginningsSeePublic, owner_in_tick}
use Rattle.stage_laws.specs.Ready.{ready_of}
use Rattle.stage_laws.specs.Seen.{seen as seen_chip}
use Rattle.stage_laws.proofs.Commands.{CommandAlike, IsKept, command-IsKept, command-alike}
use Rattle.stage_laws.proofs.Faces.{LookAlike-face, LookAlike-outer, LookAlike-power, face-LookAlike, outer}
use Rattle.stage_laws.proofs.Passing.{IsPassed, passed-LookAlike}

-- ---- power

-- power comes on
abbrev came_on : State → State
came_on chip = record (after_bor POWER_ON chip) { powered = true }

unpowered-public : (chip : State) → chip.powered ≡ false → is_private chip ≡ false
unfolding is_private
unpowered-public chip off = grind (arith, nat_tests)

begun-alike : (power : Power) (a b : State) → LookAlike a b → LookAlike (begun_by power a) (begun_by power b)
begun-alike power a b alike =
    let passed : (chip : State) → IsPassed chip (begun_by power chip) =
    λ chip. record { registers = refl; busy = refl; halted = refl; up = refl; encap = λ locked. refl } in
    passed-LookAlike a b _ _ alike (passed a) (passed b) (ap (begun_by power) (LookAlike-outer a b alike))

powered_on-alike : (a b : State) → LookAlike a b → LookAlike (powered_on a) (powered_on b)
powered_on-alike a b alike =
    by_power a.powered b.powered refl (ap (λ (chip : State). chip.powered) (sym (LookAlike-outer a b alike)))
  where
    by_power :
        (one other : Bool) → a.powered ≡ one → other ≡ one →
        LookAlike (if one then a else came_on a) (if other then b else came_on b)
    by_power true true powered same = alike
    by_power false false off same =
        face-LookAlike _ _ (ap came_on (LookAlike-face a b (unpowered-public a off) alike))
    by_power true false powered same = cc
    by_power false true off same = cc

powered-alike : (power : Power) (a b : State) → LookAlike a b → LookAlike (powered power a) (powered power b)
unfolding powered
powered-alike Off a b alike = begun-alike Off a b alike
powered-alike On a b alike = powered_on-alike _ _ (begun-alike On a b alike)
powered-alike (Cut writes) a b alike = powered_on-alike _ _ (begun-alike (Cut writes) a b alike)

powered_on-IsKept : (chip : State) → IsKept chip → IsKept (powered_on chip)
powered_on-IsKept chip kept = by_power chip.powered
  where
    by_power : (test : Bool) → IsKept (if test then chip else came_on chip)
    by_power true = kept
    by_power false = record { borders = kept.borders; settled = λ up. cc }

powered-IsKept : (power : Power) (chip : State) → IsKept chip → IsKept (powered power chip)
unfolding powered
powered-IsKept Off chip kept = record { borders = kept.borders; settled = kept.settled }
powered-IsKept On chip kept =
    powered_on-IsKept (begun_by On chip) (record { borders = kept.borders; settled = kept.settled })
powered-IsKept (Cut writes) chip kept =
    powered_on-IsKept (begun_by (Cut writes) chip) (record { borders = kept.borders; settled = kept.settled })

power_lines-alike : (power : Power) (a b : State) → LookAlike a b → power_lines power a ≡ power_lines power b
power_lines-alike Off a b alike = refl
power_lines-alike On a b alike = ap (λ (chip : State). power_lines On chip) (LookAlike-outer a b alike)
power_lines-alike (Cut writes) a b alike =
    ap (λ (chip : State). power_lines (Cut writes) chip) (LookAlike-outer a b alike)

-- ---- the stimulus

record EventAlike (act : EventAct) (a b : State) : Type 0 where
  pub chips : LookAlike (after_event act a) (after_event act b)
  pub lines : event_lines act a ≡ event_lines act b

event-alike : (act : EventAct) (a b : State) → IsKept a → IsKept b → LookAlike a b → EventAlike act a b
event-alike (Pin port bit level) a b kept_a kept_b alike =
    let passed : (chip : State) → IsPassed chip (after_event (Pin port bit level) chip) =
    λ chip. record { registers = refl; busy = refl; halted = refl; up = refl; encap = λ locked. refl } in
    record {
      chips =
          passed-LookAlike a b _ _ alike (passed a) (passed b)
          (ap (after_event (Pin port bit level)) (LookAlike-outer a b alike));
      lines = refl;
    }
event-alike (Debug what) a b kept_a kept_b alike =
    let told : CommandAlike what a b = command-alike what a b kept_a kept_b alike in
    record { chips = told.chips; lines = ap (command_lines what) told.answers }

event-IsKept : (act : EventAct) (chip : State) → IsKept chip → IsKept (after_event act chip)
event-IsKept (Pin port bit level) chip kept = record { borders = kept.borders; settled = kept.settled }
event-IsKept (Debug what) chip kept = command-IsKept what chip kept

record EventsAlike (events : List Event) (a b : State) : Type 0 where
  pub chips : LookAlike (after_events events a) (after_events events b)
  pub lines : events_lines events a ≡ events_lines events b

events-alike : (events : List Event) (a b : State) → IsKept a → IsKept b → LookAlike a b → EventsAlike events a b
events-alike [] a b kept_a kept_b alike = record { chips = alike; lines = refl }
events-alike (event ∷ events) a b kept_a kept_b alike =
    let first = event-alike event.act a b kept_a kept_b alike in
    let x = after_event event.act a in
    let y = after_event event.act b in
    let more =
    events-alike events x y (event-IsKept event.act a kept_a) (event-IsKept event.act b kept_b) first.chips in
    record {
      chips = more.chips;
      lines =
          ap (λ lines. lines ++ events_lines events x) first.lines
          ∙ ap (λ lines. event_lines event.act b ++ lines) more.lines;
    }

record StimulusAlike (bench : Stimulus) (a b : State) : Type 0 where
  pub chips : LookAlike (stimulated bench a) (stimulated bench b)
  pub lines : stimulus_lines bench a ≡ stimulus_lines bench b

stimulus-alike : (bench : Stimulus) (a b : State) → IsKept a → IsKept b → LookAlike a b → StimulusAlike bench a b
unfolding stimulated stimulus_lines
stimulus-alike bench a b kept_a kept_b alike =
    let ticks : a.tick ≡ b.tick = ap (λ (chip : State). chip.tick) (LookAlike-outer a b alike) in
    let all = events-alike (on_tick a.tick bench.events) a b kept_a kept_b alike in
    record {
      chips =
          subst
          (λ tick. LookAlike (after_events (on_tick a.tick bench.events) a)
          (after_events (on_tick tick bench.events) b))
          ticks all.chips;
      lines = all.lines ∙ ap (λ tick. events_lines (on_tick tick bench.events) b) ticks;
    }

-- ---- the timers

-- each bit of SR that switches a clock is public
min-one : (bit : ℕ) → bit < 2 → bit ≡ min bit 1
min-one bit small = omega arith

shown_bit : (sr k : ℕ) → bit_at 0xF0 k ≡ 1 → bit_at sr k ≡ bit_at (bit_and sr 0xF0) k
shown_bit sr k shown =
    let small : bit_at sr k < 2 = omega arith in
    min-one (bit_at sr k) small ∙ ap (min (bit_at sr k)) (sym shown) ∙ sym (bit_at_and sr 0xF0 k)

has_bit-alike :
    (k : ℕ) (a b : State) → bit_at 0xF0 k ≡ 1 → power_bits a ≡ power_bits b →
    has_bit (slice_index a.registers SR) k ≡ has_bit (slice_index b.registers SR) k
has_bit-alike k a b shown power =
    let one = slice_index a.registers SR in
    let other = slice_index b.registers SR in
    let bits : bit_at one k ≡ bit_at other k =
    shown_bit one k shown ∙ ap (λ bits. bit_at bits k) power ∙ sym (shown_bit other k shown) in
    ap (λ bit. bit == 1) bits

clocked-alike : (boot : Option Place) (a b : State) → LookAlike a b → LookAlike (clocked boot a) (clocked boot b)
clocked-alike (Some place) a b alike = alike
clocked-alike None a b alike =
    let power : power_bits a ≡ power_bits b = LookAlike-power a b alike in
    let ticks : a.tick ≡ b.tick = ap (λ (chip : State). chip.tick) (LookAlike-outer a b alike) in
    let smclk : smclk_edge a ≡ smclk_edge b = ap not (has_bit-alike SCG1 a b refl power) in
    let oscillates : has_bit (slice_index a.registers SR) OSCOFF ≡ has_bit (slice_index b.registers SR) OSCOFF =
    has_bit-alike OSCOFF a b refl power in
    let aclk : aclk_edge a ≡ aclk_edge b =
    ap (λ off. a.tick % 32 == 0 && not off) oscillates
    ∙ ap (λ tick. tick % 32 == 0 && not (has_bit (slice_index b.registers SR) OSCOFF)) ticks in
    let passed : (chip : State) → IsPassed chip (clocked None chip) =
    λ chip. record { registers = refl; busy = refl; halted = refl; up = refl; encap = λ locked. refl } in
    let made : Bool → Bool → State → State = λ smclk aclk chip. record chip {
      bus = record (chip.bus) { units = units_clocked smclk aclk (chip.bus.units) };
    } in
    passed-LookAlike a b _ _ alike (passed a) (passed b)
    (ap (λ chip. made (smclk_edge a) (aclk_edge a) chip) (LookAlike-outer a b alike)
    ∙ ap (λ edge. made edge (aclk_edge a) (outer b)) smclk
    ∙ ap (λ edge. made (smclk_edge b) edge (outer b)) aclk)

boot_clocked-alike : (a b : State) → LookAlike a b → LookAlike (clocked a.boot a) (clocked b.boot b)
boot_clocked-alike a b alike =
    subst (λ boot. LookAlike (clocked a.boot a) (clocked boot b))
    (ap (λ (chip : State). chip.boot) (LookAlike-outer a b alike)) (clocked-alike a.boot a b alike)

timed-alike : (power : Power) (a b : State) → LookAlike a b → LookAlike (timed power a) (timed power b)
unfolding timed
timed-alike Off a b alike = alike
timed-alike On a b alike = boot_clocked-alike a b alike
timed-alike (Cut writes) a b alike = boot_clocked-alike a b alike

-- ---- the law

-- between ticks nothing is counted or noted
sound-LookAlike : (a b : State) → IsSound a → IsSound b → seen_chip a ≡ seen_chip b → LookAlike a b
sound-LookAlike a b sound_a sound_b same = record {
  public = same;
  budget = sound_a.unbudgeted ∙ sym sound_b.unbudgeted;
  writes = sound_a.unnumbered ∙ sym sound_b.unnumbered;
  noted = sound_a.quiet ∙ sym sound_b.quiet;
}

ready-alike :
    (power : Power) (bench : Stimulus) (a b : State) → IsKept a → IsKept b → LookAlike a b →
    StimulusAlike bench (powered power a) (powered power b)
ready-alike power bench a b kept_a kept_b alike =
    stimulus-alike bench _ _ (powered-IsKept power a kept_a) (powered-IsKept power b kept_b)
    (powered-alike power a b alike)

-- the chip on which the owner acts, by the power of its tick
abbrev readied : Power → Stimulus → State → State
readied power bench chip = timed power (stimulated bench (powered power chip))

ready-by : (bench : Stimulus) (chip : State) → ready_of bench chip ≡ readied (power_of bench chip) bench chip
unfolding moments stages
ready-by bench chip = refl

owner-by :
    (bench : Stimulus) (chip : State) → owner_in_tick bench chip ≡ owner_in (power_of bench chip) (ready_of bench chip)
unfolding moments stages
owner-by bench chip = refl

owner_of-outer : (chip : State) → owner_of chip ≡ owner_of (outer chip)
unfolding owner_of
owner_of-outer chip = refl

owners-alike : (power : Power) (a b : State) → outer a ≡ outer b → owner_in power a ≡ owner_in power b
owners-alike Off a b same = refl
owners-alike On a b same = owner_of-outer a ∙ ap owner_of same ∙ sym (owner_of-outer b)
owners-alike (Cut writes) a b same = owner_of-outer a ∙ ap owner_of same ∙ sym (owner_of-outer b)

pub beginnings_see_public : BeginningsSeePublic
beginnings_see_public bench a b sound_a sound_b same =
    let alike = sound-LookAlike a b sound_a sound_b same in
    let kept : (chip : State) → IsSound chip → IsKept chip =
    λ chip sound. record { borders = sound.borders; settled = sound.settled } in
    let powers : power_of bench a ≡ power_of bench b = ap (power_of bench) (LookAlike-outer a b alike) in
    let stimulus = ready-alike (power_of bench a) bench a b (kept a sound_a) (kept b sound_b) alike in
    let ready : LookAlike (readied (power_of bench a) bench a) (readied (power_of bench b) bench b) =
    subst (λ power. LookAlike (readied (power_of bench a) bench a) (readied power bench b)) powers
    (timed-alike (power_of bench a) _ _ stimulus.chips) in
    let chips : LookAlike (ready_of bench a) (ready_of bench b) =
    subst (λ x. LookAlike x (ready_of bench b)) (sym (ready-by bench a))
    (subst (LookAlike (readied (power_of bench a) bench a)) (sym (ready-by bench b)) ready) in
    record {
      power = powers;
      chips = chips;
      owner =
          owner-by bench a
          ∙ owners-alike (power_of bench a) _ _ (LookAlike-outer _ _ chips)
          ∙ ap (λ power. owner_in power (ready_of bench b)) powers
          ∙ sym (owner-by bench b);
      power_lines =
          power_lines-alike (power_of bench a) a b alike ∙ ap (λ power. power_lines power b) powers;
      stimulus_lines =
          stimulus.lines ∙ ap (λ power. stimulus_lines bench (powered power b)) powers;
    }
