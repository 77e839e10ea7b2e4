-- What a plain tick leaves, shows, and gives away: what its stages from the bus owner's turn on do.
use Rattle.std.proofs.Common.{◌≡◌, ◌∙◌, ℕ, ◌<◌, true, List, [], ◌++◌, refl, sym, ap, arith}
use Rattle.std.specs.Prelude.{Option, Some, None}
use Rattle.boot_code.specs.Place.{Place}
use Rattle.power_schedule.specs.declared.powers.Power.TheVariants.{On}
use Rattle.stimulus.specs.Events.{on_tick}
use Rattle.stimulus.specs.Stimulus.{IsPlainWithin, Stimulus}
use Rattle.trace_print.specs.declared.items.TraceItem.{TraceItem}
use Rattle.chip_core.specs.Idle.{given_from, plainly_ticked, shown_from, started}
use Rattle.chip_core.specs.Items.{items_of, stages_items}
use Rattle.chip_core.specs.Lines.{events_lines, lines_at, lines_of, power_lines, stage_lines, stimulus_lines}
use Rattle.chip_core.specs.Pins.{pin_lines, pins_of}
use Rattle.chip_core.specs.State.{State}
use Rattle.chip_core.specs.Tick.{Moments, after_events, begun_by, behind_tick, clocked, moments, moments_from, power_of, powered, stages, stages_from, stimulated, supplied, ticked, timed}

-- power is on before the tick, and in it, and the bench has no event for it
record IsPlain (bench : Stimulus) (chip : State) : Type 0 where
  powered : chip.powered ≡ true
  power : power_of bench chip ≡ On
  events : on_tick chip.tick bench.events ≡ []

plain : (until : ℕ) (bench : Stimulus) (chip : State) → chip.powered ≡ true → chip.tick < until → IsPlainWithin chip.tick until bench → IsPlain bench chip
plain until bench chip powered before within =
    let tick = within chip.tick (omega arith) before in
    record { powered = powered; power = tick.power; events = tick.events }

-- The moments.

supplied_is : (bench : Stimulus) (chip : State) → IsPlain bench chip → supplied bench chip ≡ begun_by On chip
unfolding powered
supplied_is bench chip is = rw (is.power, is.powered) refl

nothing_stimulates : (bench : Stimulus) (chip : State) → IsPlain bench chip → stimulated bench (begun_by On chip) ≡ begun_by On chip
unfolding stimulated
nothing_stimulates bench chip is = ap (λ events. after_events events (begun_by On chip)) is.events

abbrev moments_of_plain : State → Moments
moments_of_plain chip = record {
  power = On;
  before = chip;
  supplied = begun_by On chip;
  stages = stages_from On (started chip);
}

moments_are : (bench : Stimulus) (chip : State) → IsPlain bench chip → moments bench chip ≡ moments_of_plain chip
unfolding moments stages
moments_are bench chip is =
    ap (λ power. moments_from power chip (supplied bench chip) (stimulated bench (supplied bench chip))) is.power
    ∙ ap (λ given. moments_from On chip given (stimulated bench given)) (supplied_is bench chip is)
    ∙ ap (λ left. moments_from On chip (begun_by On chip) left) (nothing_stimulates bench chip is)

-- What they leave, show, and give away.

pub plain_chip : (until : ℕ) (bench : Stimulus) (chip : State) → chip.powered ≡ true → chip.tick < until → IsPlainWithin chip.tick until bench → plainly_ticked chip ≡ ticked bench chip
unfolding ticked
plain_chip until bench chip powered before within =
    sym (ap (λ (tick : Moments). behind_tick chip.tick (tick.stages).after) (moments_are bench chip (plain until bench chip powered before within)))

no_event_line : (bench : Stimulus) (chip : State) → IsPlain bench chip → stimulus_lines bench (begun_by On chip) ≡ []
unfolding stimulus_lines
no_event_line bench chip is = ap (λ events. events_lines events (begun_by On chip)) is.events

no_power_line : (bench : Stimulus) (chip : State) → IsPlain bench chip → power_lines On chip ≡ []
no_power_line bench chip is = rw (is.powered) refl

-- the clock edges change no pin
same_pins : (boot : Option Place) (chip : State) → pins_of (clocked boot (begun_by On chip)) ≡ pins_of chip
unfolding pins_of
same_pins (Some place) chip = refl
same_pins None chip = refl

pins_start : (chip : State) → pins_of (started chip) ≡ pins_of chip
unfolding timed
pins_start chip = same_pins chip.boot chip

last_two : (a b c d : List TraceItem) → a ≡ [] → b ≡ [] → a ++ b ++ c ++ d ≡ c ++ d
last_two a b c d no_a no_b = rw (no_a, no_b) refl

shows : (bench : Stimulus) (chip : State) → IsPlain bench chip → lines_at bench (moments_of_plain chip) ≡ shown_from (started chip)
shows bench chip is =
    last_two _ _ _ _ (no_power_line bench chip is) (no_event_line bench chip is)
    ∙ ap (λ pins. stage_lines On (stages_from On (started chip)) ++ pin_lines pins (pins_of (stages_from On (started chip)).after))
    (sym (pins_start chip))

pub plain_lines : (until : ℕ) (bench : Stimulus) (chip : State) → chip.powered ≡ true → chip.tick < until → IsPlainWithin chip.tick until bench → shown_from (started chip) ≡ lines_of bench chip
unfolding lines_of
plain_lines until bench chip powered before within =
    let is = plain until bench chip powered before within in
    sym (ap (lines_at bench) (moments_are bench chip is) ∙ shows bench chip is)

pub plain_items : (until : ℕ) (bench : Stimulus) (chip : State) → chip.powered ≡ true → chip.tick < until → IsPlainWithin chip.tick until bench → given_from (started chip) ≡ items_of bench chip
unfolding items_of
plain_items until bench chip powered before within =
    sym (ap (λ (tick : Moments). stages_items tick.power tick.stages) (moments_are bench chip (plain until bench chip powered before within)))
