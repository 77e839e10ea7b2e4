-- Pins that stayed as they were have no line.
use Rattle.std.proofs.Common.{◌≡◌, ◌∙◌, ℕ, true, List, [], ◌∷◌, ◌++◌, refl, sym, ap}
use Rattle.std.proofs.lemmas.List.{append-nil}
use Rattle.trace_print.specs.declared.items.TraceItem.{TraceItem}
use Rattle.port_unit.specs.declared.levels.Level.{Level}
use Rattle.port_unit.specs.declared.levels.Level.TheVariants.{Low, High, Open}
use Rattle.port_unit.specs.declared.pins.Pins.{Pins}
use Rattle.port_unit.specs.Pins.{levels_of, same_level, same_levels}
use Rattle.chip_core.specs.Pins.{pin_lines, port_line}

same : (level : Level) → same_level level level ≡ true
same Low = refl
same High = refl
same Open = refl

all_same : (levels : List Level) → same_levels levels levels ≡ true
all_same [] = refl
all_same (level ∷ levels) = rw (same level, all_same levels) refl

no_line : (port : ℕ) (pins : Pins) → port_line port pins pins ≡ []
unfolding port_line
no_line port pins = rw (all_same (levels_of pins port)) refl

pub unchanged : (pins : Pins) → pin_lines pins pins ≡ []
unchanged pins = rw (no_line 1 pins, no_line 2 pins, no_line 3 pins, no_line 4 pins) refl

pub no_lines : (items : List TraceItem) (before now : Pins) → before ≡ now → items ≡ items ++ pin_lines before now
no_lines items before now stayed =
    sym (append-nil items) ∙ ap (λ more. items ++ more) (sym (unchanged before) ∙ ap (λ pins. pin_lines before pins) stayed)
