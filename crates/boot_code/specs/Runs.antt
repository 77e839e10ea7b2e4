-- A boot from step to step, where no cut comes and nothing but the boot changes memory.
use Rattle.std.specs.Prelude.{◌≡◌, ℕ, zero, suc, true, List, []}
use Rattle.chip_words.specs.BusPart.{BusPart}
use Rattle.chip_words.specs.Causes.{no_causes}
use Rattle.ip_encap.specs.declared.encap.Borders.{Borders}
use Rattle.boot_code.specs.declared.boots.Keep.{Keep}
use Rattle.boot_code.specs.declared.boots.BootStep.{BootStep}
use Rattle.boot_code.specs.declared.boots.BootStep.TheVariants.{Going, Done}
use Rattle.boot_code.specs.Place.{Place, Start}
use Rattle.boot_code.specs.Boot.{first_keep, is_going, run_of}
use Rattle.boot_code.specs.Facts.{kept_behind}

-- a boot before one of its steps
pub record Booting : Type 0 where
  pub place : Place
  pub keep : Keep
  pub part : BusPart

abbrev pub boot_at : Place → Keep → BusPart → Booting
boot_at place keep part = record { place = place; keep = keep; part = part }

-- the first boot of a new chip
abbrev pub first_boot : BusPart → Booting
first_boot part = boot_at Start first_keep part

-- the next tick has made no write and no access yet
abbrev pub rested : BusPart → BusPart
rested part = record part { writes = 0; accesses = []; causes = no_causes }

-- what a step answers
abbrev pub answer_of : Booting → BootStep
answer_of boot = (run_of boot.place boot.keep boot.part).value.step

-- and the boot behind it, where the caller writes what the step asks for
abbrev pub stepped : Booting → Booting
stepped boot =
    boot_at (run_of boot.place boot.keep boot.part).value.place (kept_behind (answer_of boot) boot.keep)
    (rested (run_of boot.place boot.keep boot.part).part)

-- an answer ends the boot, and a fact holds of the borders that it gives
abbrev pub EndsIn : (Borders → Type 0) → BootStep → Type 0
EndsIn P (Going act) = ⊥
EndsIn P (Done borders) = P borders

-- a boot goes on but for the last of so many steps, which ends it; and a fact holds of its borders and of memory
unfoldable pub EndsAfter : (Borders → List ℕ → Type 0) → ℕ → Booting → Type 0
EndsAfter P zero boot = ⊥
EndsAfter P (suc zero) boot = EndsIn (λ borders. P borders boot.part.memory) (answer_of boot)
EndsAfter P (suc (suc n)) boot = (is_going (answer_of boot) ≡ true) × EndsAfter P (suc n) (stepped boot)
