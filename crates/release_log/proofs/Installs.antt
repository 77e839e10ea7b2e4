-- A boot that ends installs the structure that it read.
use Rattle.std.proofs.Common.{◌≡◌, ◌*◌, ◌/◌, ◌&&◌, ℕ, List, true, false, arith, refl, ap, sym, ◌∙◌, subst}
use Rattle.std.specs.Prelude.{Option, Some, None, bit_and, is_none}
use Rattle.std.proofs.lemmas.Nat.{and_assoc}
use Rattle.chip_words.specs.Causes.{POWER_ON}
use Rattle.chip_words.specs.Encap.{Encap, installed}
use Rattle.chip_words.specs.Script.{Ran}
use Rattle.chip_words.specs.Steps.{begun}
use Rattle.ip_encap.specs.declared.encap.Borders.{Borders}
use Rattle.boot_code.specs.declared.boots.Act.{Act}
use Rattle.boot_code.specs.declared.boots.Act.TheVariants as act
use Rattle.boot_code.specs.declared.boots.BootStep.{BootStep}
use Rattle.boot_code.specs.declared.boots.BootStep.TheVariants.{Going, Done}
use Rattle.boot_code.specs.Place.{Place, Structure}
use Rattle.boot_code.specs.Boot.{Stepped, borders_of, run_of}
use Rattle.boot_code.specs.Facts.{AreInstalled, EndsWell}
use Rattle.boot_code.proofs.Fitting.{step_ends_well}
use Rattle.dma_unit.specs.Transfers.{passed}
use Rattle.power_schedule.specs.declared.powers.Power.{Power}
use Rattle.power_schedule.specs.declared.powers.Power.TheVariants.{On, Cut, Off}
use Rattle.step_laws.proofs.Shapes.{either_holds}
use Rattle.stimulus.specs.declared.events.Event.{Event}
use Rattle.stimulus.specs.Events.{on_tick}
use Rattle.stimulus.specs.Stimulus.{Stimulus}
use Rattle.chip_core.specs.Boot.{acted, after_boot_step, boot_ended, boot_run, ended_unless_cut}
use Rattle.chip_core.specs.Phase.{is_up}
use Rattle.chip_core.specs.State.{State}
use Rattle.chip_core.specs.Tick.{after_bor, after_events, begun_by, behind_tick, cut, power_of, powered, powered_on, stages, stimulated, timed}
use Rattle.chip_core.specs.Turns.{boot_turn, owned, with_dma}
use Rattle.release_log.specs.Boots.{BootInstalls, IsInstalled, encapsulation_of}
use Rattle.release_log.specs.Facts.{IsSound, MayBeOff}
use Rattle.release_log.proofs.Ending.{true-false}
use Rattle.release_log.proofs.Booting.{IsBooting}
use Rattle.release_log.proofs.Kept.{Boots, IsOn, Runs, began, booting-uncut, booting-unup, events-IsBooting, events-budget, off_events-powered, passed-IsBooting, powered_on-IsOn, powered_on-budget, ticked-by, ticked_by}

-- ---- registers

-- what a register keeps it keeps again
installed-same :
    (words : Structure) →
    installed (borders_of words).c0 (borders_of words).b2 (borders_of words).b1 ≡ encapsulation_of words
unfolding borders_of
installed-same words =
    let made : ℕ → ℕ → ℕ → Encap = λ c0 b2 b1. record { mpuipc0 = c0; mpuipsegb2 = b2; mpuipsegb1 = b1 } in
    let again : (word : ℕ) → word / 64 * 64 / 64 * 64 ≡ word / 64 * 64 = λ word. omega arith in
    let control = bit_and words.control 0xE0 in
    let second = words.second_border / 64 * 64 in
    let first = words.first_border / 64 * 64 in
    ap (λ c0. made c0 (second / 64 * 64) (first / 64 * 64)) (and_assoc 0xE0 words.control 0xE0)
    ∙ ap (λ b2. made control b2 (first / 64 * 64)) (again words.second_border)
    ∙ ap (made control second) (again words.first_border)

-- the registers of borders
registers_by : Borders → Encap
registers_by borders = installed borders.c0 borders.b2 borders.b1

ended-IsInstalled :
    (borders : Borders) (chip : State) → AreInstalled borders chip.keep chip.bus.memory →
    IsInstalled (boot_ended borders chip)
unfolding registers_by
ended-IsInstalled borders chip are = record {
  saved = λ saved. ap registers_by (are.saved saved) ∙ installed-same _;
  good = are.good;
  others = λ other. ap registers_by (are.others other);
  secret = refl;
}

-- ---- the boot's last step

acted-boot : (act : Act) (chip : State) → (acted act chip).boot ≡ chip.boot
acted-boot (act.Mark mark) chip = refl
acted-boot (act.Ptr ptr) chip = refl
acted-boot act chip = refl

boot_turn-IsInstalled :
    (place : Place) (chip : State) → IsBooting place chip → is_up (boot_turn place chip) ≡ true →
    IsInstalled (boot_turn place chip)
unfolding boot_turn boot_run
boot_turn-IsInstalled place chip is up = by_step (ran.value).step refl up
  where
    ran : Ran Stepped
    ran = run_of place chip.keep (begun chip.bus)

    after : State
    after = record chip { bus = ran.part; boot = Some (ran.value).place }

    ends : EndsWell (ran.value).step chip.keep ran.part.memory
    ends = step_ends_well place chip.keep (begun chip.bus) is.fit

    by_budget :
        (budget : Option ℕ) (borders : Borders) → AreInstalled borders chip.keep ran.part.memory →
        is_up (ended_unless_cut budget borders after) ≡ true → IsInstalled (ended_unless_cut budget borders after)
    by_budget (Some budget) borders are up = absurd (true-false (sym up ∙ booting-unup (ran.value).place after refl))
    by_budget None borders are up = ended-IsInstalled borders after are

    by_step :
        (step : BootStep) → (ran.value).step ≡ step → is_up (after_boot_step step after) ≡ true →
        IsInstalled (after_boot_step step after)
    by_step (Going act) stepped up =
        absurd (true-false (sym up ∙ booting-unup (ran.value).place (acted act after) (acted-boot act after)))
    by_step (Done borders) stepped up =
        by_budget ran.part.budget borders (subst (λ step. EndsWell step chip.keep ran.part.memory) stepped ends) up

-- ---- a chip that isn't up boots, as soon as it has power

pub data InBoot (chip : State) : Type 0 where
  At : (place : Place) → IsBooting place chip → InBoot chip

on-InBoot : (chip : State) → IsOn chip → is_up chip ≡ false → InBoot chip
on-InBoot chip (Runs is) down =
    absurd (true-false (sym (ap (λ powered. powered && is_none chip.boot) is.powered ∙ ap is_none is.booted) ∙ down))
on-InBoot chip (Boots place is) down = At place is

powered_on-unup :
    (budget : Option ℕ) (chip : State) → is_up chip ≡ false → is_up (powered_on (began budget chip)) ≡ false
powered_on-unup budget chip down =
    either_holds (λ (now : State). is_up now ≡ false) chip.powered (began budget chip)
    (record (after_bor POWER_ON (began budget chip)) { powered = true }) down refl

pub powered_on-InBoot :
    (budget : Option ℕ) (chip : State) → IsSound chip → is_up chip ≡ false →
    InBoot (powered_on (began budget chip))
powered_on-InBoot budget chip is down =
    on-InBoot (powered_on (began budget chip)) (powered_on-IsOn budget chip is)
    (powered_on-unup budget chip down)

-- ---- the tick

behind_tick-IsInstalled : (tick : ℕ) (chip : State) → IsInstalled chip → IsInstalled (behind_tick tick chip)
behind_tick-IsInstalled tick chip is =
    record { saved = is.saved; good = is.good; others = is.others; secret = is.secret }

uncut-IsInstalled :
    (events : List Event) (chip : State) → InBoot chip → chip.bus.budget ≡ None →
    is_up (stages On (after_events events chip)).after ≡ true →
    IsInstalled (stages On (after_events events chip)).after
uncut-IsInstalled events chip (At place is) uncut up =
    let now : State = after_events events chip in
    let boots : IsBooting place now = events-IsBooting place events chip is in
    let same : (stages On now).after ≡ boot_turn place (with_dma passed now) =
    booting-uncut place now boots (events-budget place events chip is ∙ uncut) in
    subst IsInstalled (sym same)
    (boot_turn-IsInstalled place (with_dma passed now) (passed-IsBooting place now boots) (ap is_up (sym same) ∙ up))

-- a tick that is cut leaves no chip up, and a tick without power leaves one without power
cut-unup : (writes : ℕ) (chip : State) → is_up (stages (Cut writes) chip).after ≡ false
unfolding stages cut
cut-unup writes chip = refl

off-unup-behind :
    (events : List Event) (chip : State) → chip.powered ≡ false →
    is_up (stages Off (after_events events chip)).after ≡ false
unfolding stages timed owned
off-unup-behind events chip off =
    ap (λ powered. powered && is_none (after_events events chip).boot) (off_events-powered events chip off)

by-IsInstalled :
    (power : Power) (bench : Stimulus) (chip : State) → MayBeOff power chip → IsSound chip → is_up chip ≡ false →
    is_up (ticked_by power bench chip) ≡ true → IsInstalled (ticked_by power bench chip)
unfolding powered stimulated
by-IsInstalled On bench chip off is down up =
    behind_tick-IsInstalled chip.tick _
    (uncut-IsInstalled (on_tick (powered_on (begun_by On chip)).tick bench.events) (powered_on (begun_by On chip))
    (powered_on-InBoot None chip is down) (powered_on-budget None chip) up)
by-IsInstalled (Cut writes) bench chip off is down up = absurd (true-false (sym up ∙ cut-unup writes _))
by-IsInstalled Off bench chip off is down up =
    absurd (true-false (sym up ∙ off-unup-behind (on_tick chip.tick bench.events) (begun_by Off chip) off))

pub boot_installs : BootInstalls
boot_installs bench chip off is down up =
    subst IsInstalled (sym (ticked-by bench chip))
    (by-IsInstalled (power_of bench chip) bench chip off is down (ap is_up (sym (ticked-by bench chip)) ∙ up))
