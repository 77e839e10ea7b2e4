-- A processor that acts alone and is busy waits: such a tick has no line and no item, and changes nothing but how long the
-- processor is busy. So do many at once.
use Rattle.std.proofs.Common.{◌≡◌, ◌∙◌, ℕ, zero, suc, ◌+◌, ◌-◌, ◌<◌, ◌≤◌, true, nat_lt, List, [], refl, sym, ap, subst, arith}
use Rattle.std.specs.Prelude.{None}
use Rattle.std.proofs.lemmas.Bool.{and_parts}
use Rattle.std.proofs.lemmas.Bool.Decides.{nat_tests}
use Rattle.bus_fabric.proofs.StillClocks.{still_clocks}
use Rattle.bus_fabric.specs.Fabric.{tick_begun, tick_ended}
use Rattle.chip_words.specs.BusPart.{BusPart}
use Rattle.chip_words.specs.Units.{Units}
use Rattle.power_schedule.specs.declared.powers.Power.TheVariants.{On}
use Rattle.stimulus.specs.Stimulus.{IsPlainWithin, Stimulus}
use Rattle.trace_print.specs.declared.items.TraceItem.{TraceItem}
use Rattle.trace_print.specs.declared.releases.Item.{Item}
use Rattle.timer_unit.proofs.Still.{counts_never}
use Rattle.chip_core.specs.Idle.{given_from, is_alone, is_undisturbed, shown_from, started, waited}
use Rattle.chip_core.specs.Items.{items_of}
use Rattle.chip_core.specs.Lines.{lines_of}
use Rattle.chip_core.specs.Run.{AreSilent, IsSilent, chip_after}
use Rattle.chip_core.specs.State.{State}
use Rattle.chip_core.specs.Tick.{aclk_edge, begun_by, behind_tick, clocked, smclk_edge, stages_from, ticked, timed}
use Rattle.chip_core.proofs.IdleTicks.{busy_after, busy_items, busy_lines, calm, not_set}
use Rattle.chip_core.proofs.PlainTicks.{plain_chip, plain_items, plain_lines}
use Rattle.chip_core.proofs.SilentTicks.{chip_after_more}

-- the processor acts alone in the next tick, which is plain as all are up to another, and no tick is under way
pub record IsAlone (until : ℕ) (bench : Stimulus) (chip : State) : Type 0 where
  pub powered : chip.powered ≡ true
  pub alone : is_alone chip ≡ true
  pub ended : tick_ended chip.bus ≡ chip.bus
  pub before : chip.tick < until
  pub plain : IsPlainWithin chip.tick until bench

undisturbed : (chip : State) → is_alone chip ≡ true → is_undisturbed chip ≡ true
undisturbed chip alone = let (undisturbed, still) = and_parts _ _ alone in undisturbed

-- Where its turn begins, the tick has changed nothing.

begins : (part : BusPart) → tick_ended part ≡ part → tick_begun None part ≡ part
begins part ended = ap (tick_begun None) (sym ended) ∙ ended

begun : (chip : State) → tick_ended chip.bus ≡ chip.bus → begun_by On chip ≡ chip
begun chip ended = ap {A = BusPart} {B = State} (λ part. record chip { bus = part }) (begins chip.bus ended)

counts_nothing : (chip : State) → is_alone chip ≡ true → clocked None chip ≡ chip
counts_nothing chip alone =
    let (undisturbed, still) = and_parts _ _ alone in
    let never = counts_never ((chip.bus).units).timers (smclk_edge chip) (aclk_edge chip) (not_set _ still) in
    ap {A = Units} {B = State} (λ units. record chip { bus = record (chip.bus) { units = units } }) (still_clocks (chip.bus).units (smclk_edge chip) (aclk_edge chip) never)

starts : (chip : State) → is_alone chip ≡ true → tick_ended chip.bus ≡ chip.bus → started chip ≡ chip
unfolding timed
starts chip alone ended =
    ap (timed On) (begun chip ended)
    ∙ ap (λ boot. clocked boot chip) (calm chip (undisturbed chip alone)).booted
    ∙ counts_nothing chip alone

-- So the tick is what the processor does.

record IsTurn (bench : Stimulus) (chip : State) : Type 0 where
  after : behind_tick chip.tick (stages_from On chip).after ≡ ticked bench chip
  lines : shown_from chip ≡ lines_of bench chip
  items : given_from chip ≡ items_of bench chip

turn : (until : ℕ) (bench : Stimulus) (chip : State) → IsAlone until bench chip → IsTurn bench chip
turn until bench chip is =
    let start = sym (starts chip is.alone is.ended) in
    record {
      after = ap (λ start. behind_tick chip.tick (stages_from On start).after) start ∙ plain_chip until bench chip is.powered is.before is.plain;
      lines = ap shown_from start ∙ plain_lines until bench chip is.powered is.before is.plain;
      items = ap given_from start ∙ plain_items until bench chip is.powered is.before is.plain;
    }

-- A tick in which it is busy.

waits_once : (until : ℕ) (bench : Stimulus) (chip : State) → IsAlone until bench chip → nat_lt 0 chip.busy ≡ true → ticked bench chip ≡ waited 1 chip
waits_once until bench chip is busy =
    sym (turn until bench chip is).after
    ∙ ap (behind_tick chip.tick) (sym (busy_after chip (undisturbed chip is.alone) busy))
    ∙ ap {A = BusPart} {B = State} (λ part. record (waited 1 chip) { bus = part }) is.ended

waits_silently : (until : ℕ) (bench : Stimulus) (chip : State) → IsAlone until bench chip → nat_lt 0 chip.busy ≡ true → IsSilent bench chip
waits_silently until bench chip is busy =
    let is_turn = turn until bench chip is in
    record {
      lines = sym is_turn.lines ∙ sym (busy_lines [] chip (undisturbed chip is.alone) busy refl);
      items = sym is_turn.items ∙ sym (busy_items [] chip (undisturbed chip is.alone) busy refl);
    }

-- So many of them.

still_alone : (n until : ℕ) (bench : Stimulus) (chip : State) → IsAlone until bench chip → chip.tick + n < until → IsAlone until bench (waited n chip)
still_alone n until bench chip is within = record {
  powered = is.powered;
  alone = is.alone;
  ended = is.ended;
  before = within;
  plain = λ tick from to. is.plain tick (omega (arith, from)) to;
}

is_busy : (n busy : ℕ) → n < busy → nat_lt 0 (busy - n) ≡ true
is_busy n busy within = grind (arith, nat_tests, within)

waits : (n until : ℕ) (bench : Stimulus) (chip : State) → IsAlone until bench chip → n ≤ chip.busy → chip.tick + n ≤ until → chip_after n bench chip ≡ waited n chip
waits zero until bench chip is busy within =
    let left : chip.busy ≡ chip.busy - 0 = omega arith in
    let tick : chip.tick ≡ chip.tick + 0 = omega arith in
    ap {A = ℕ} {B = State} (λ busy. record chip { busy = busy }) left
    ∙ ap {A = ℕ} {B = State} (λ tick. record chip { busy = chip.busy - 0; tick = tick }) tick
waits (suc n) until bench chip is busy within =
    let left : chip.busy - n - 1 ≡ chip.busy - suc n = omega (arith, busy) in
    let tick : chip.tick + n + 1 ≡ chip.tick + suc n = omega arith in
    ap (ticked bench) (waits n until bench chip is (omega (arith, busy)) (omega (arith, within)))
    ∙ waits_once until bench (waited n chip) (still_alone n until bench chip is (omega (arith, within))) (is_busy n chip.busy (omega (arith, busy)))
    ∙ ap {A = ℕ} {B = State} (λ busy. record chip { busy = busy; tick = chip.tick + n + 1 }) left
    ∙ ap {A = ℕ} {B = State} (λ tick. record chip { busy = chip.busy - suc n; tick = tick }) tick

are_silent : (n until : ℕ) (bench : Stimulus) (chip : State) → IsAlone until bench chip → n ≤ chip.busy → chip.tick + n ≤ until → AreSilent n bench chip
are_silent n until bench chip is busy within = λ k earlier.
    let there = waits k until bench chip is (omega (arith, busy, earlier)) (omega (arith, within, earlier)) in
    let here = waits_silently until bench (waited k chip) (still_alone k until bench chip is (omega (arith, within, earlier))) (is_busy k chip.busy (omega (arith, busy, earlier))) in
    subst (IsSilent bench) (sym there) here

-- The tick behind them.

-- so many ticks of which nothing is told, and one more
pub record IsAdvanced (n : ℕ) (bench : Stimulus) (chip after : State) (lines : List TraceItem) (items : List Item) : Type 0 where
  pub silent : AreSilent (n + 1 - 1) bench chip
  pub is_after : after ≡ chip_after (n + 1) bench chip
  pub are_lines : lines ≡ lines_of bench (chip_after (n + 1 - 1) bench chip)
  pub are_items : items ≡ items_of bench (chip_after (n + 1 - 1) bench chip)

pub advanced :
    (n until : ℕ) (bench : Stimulus) (chip waiting after : State) (lines : List TraceItem) (items : List Item) → IsAlone until bench chip →
    n ≤ chip.busy → chip.tick + n ≤ until - 1 → waiting ≡ waited n chip →
    after ≡ behind_tick waiting.tick (stages_from On waiting).after → lines ≡ shown_from waiting → items ≡ given_from waiting →
    IsAdvanced n bench chip after lines items
advanced n until bench chip waiting after lines items is few most waits_so ticks_so shows gives =
    let before = is.before in
    let within : chip.tick + n < until = omega (arith, most, before) in
    let there = waits n until bench chip is few (omega (arith, within)) in
    let last = turn until bench (waited n chip) (still_alone n until bench chip is within) in
    let number : n ≡ n + 1 - 1 = omega arith in
    let place = ap (λ k. chip_after k bench chip) number in
    record {
      silent = subst (λ k. AreSilent k bench chip) number (are_silent n until bench chip is few (omega (arith, within)));
      is_after =
          chip_after_more n bench chip (waited n chip) after (sym there)
          (ticks_so ∙ ap (λ waiting. behind_tick waiting.tick (stages_from On waiting).after) waits_so ∙ last.after);
      are_lines = shows ∙ ap shown_from waits_so ∙ last.lines ∙ ap (lines_of bench) (sym there ∙ place);
      are_items = gives ∙ ap given_from waits_so ∙ last.items ∙ ap (items_of bench) (sym there ∙ place);
    }
