-- A tick whose power is cut: what its turn leaves of what outlasts the cut, and the cut.
use Rattle.std.specs.Prelude.{◌≡◌, ℕ, List}
use Rattle.boot_code.specs.declared.boots.Keep.{Keep}
use Rattle.chip_words.specs.declared.seals.Seal.{Seal}
use Rattle.chip_words.specs.Public.{hidden}
use Rattle.power_schedule.specs.declared.powers.Power.TheVariants.{Cut}
use Rattle.chip_core.specs.Lines.{stage_lines}
use Rattle.chip_core.specs.Pins.{pins_of}
use Rattle.chip_core.specs.State.{State}
use Rattle.chip_core.specs.Tick.{Stages, stages_from}
use Rattle.stage_laws.specs.Seen.{IsReady, seen}
use Rattle.stage_laws.specs.Stages.{IsPrivateTurn, tick_items, turned}

-- what is public and outlasts a cut
pub record Lasting : Type 0 where
  -- the addresses that stay secret, and the bytes at all others, of which SRAM then gets the fill
  pub kept : Seal
  pub memory : List ℕ
  pub fill : ℕ
  -- mark and pointer
  pub keep : Keep
  -- the external levels of P1 and P2, and of P3 and P4
  pub first_levels : ℕ
  pub second_levels : ℕ
  pub tick : ℕ

abbrev pub lasting : State → Lasting
lasting chip = record {
  kept = chip.bus.kept;
  memory = hidden chip.bus.kept chip.bus.memory;
  fill = chip.bus.fill;
  keep = chip.keep;
  first_levels = (((chip.bus.units).ports).first).levels;
  second_levels = (((chip.bus.units).ports).second).levels;
  tick = chip.tick;
}

-- Two chips with equal public parts, in ticks that are cut and have equal items: the processor's turn in private phase
-- leaves equal what outlasts. Neither the cuts nor the counts of writes need be equal, since a write that is absent is no
-- item; and one may be an entry where the other is an instruction, since a cut tick doesn't tell which.
abbrev pub CutTurnsAgree : Type 0
CutTurnsAgree =
    (one other : ℕ) (a b : State) → IsReady a → IsPrivateTurn a → seen a ≡ seen b →
    tick_items (Cut one) a ≡ tick_items (Cut other) b → lasting (turned a) ≡ lasting (turned b)

-- equal public parts are equal in what outlasts
abbrev pub PublicPartsLast : Type 0
PublicPartsLast = (a b : State) → seen a ≡ seen b → lasting a ≡ lasting b

-- two cut ticks end in chips of which the same is public, and show the same, CUT and the pins
pub record CutAlike (one other : ℕ) (a b : Stages) : Type 0 where
  pub public : seen a.after ≡ seen b.after
  pub lines : stage_lines (Cut one) a ≡ stage_lines (Cut other) b
  pub pins : pins_of a.after ≡ pins_of b.after

-- what outlasts decides how a cut tick ends, whoever owned the bus
abbrev pub CutsEndAlike : Type 0
CutsEndAlike =
    (one other : ℕ) (a b : State) → lasting (turned a) ≡ lasting (turned b) →
    CutAlike one other (stages_from (Cut one) a) (stages_from (Cut other) b)
