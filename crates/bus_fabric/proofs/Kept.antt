-- A read of a register changes none of the encapsulation, so the addresses that stay secret are those from before.
use Rattle.std.proofs.Common.{◌≡◌, ◌∙◌, ℕ, Bool, true, false, refl, ap}
use Rattle.std.specs.Prelude.{◌&&◌, not, Option, Some, None, if◌then◌else◌}
use Rattle.chip_words.specs.declared.seals.Seal.{Seal}
use Rattle.chip_words.specs.declared.unit_names.UnitName.{UnitName}
use Rattle.chip_words.specs.declared.unit_names.UnitName.TheVariants as of
use Rattle.chip_words.specs.Addresses.{unit_at}
use Rattle.chip_words.specs.Encap.{is_enabled, is_locked, kept_after, seal}
use Rattle.chip_words.specs.Units.{Units, touched_in, units_touched}

touched_in-encap : (name : Option UnitName) (units : Units) (at : ℕ) → (touched_in name units at).encap ≡ units.encap
touched_in-encap (Some of.Sys) units at = refl
touched_in-encap (Some of.Timers) units at = refl
touched_in-encap (Some of.Ports) units at = refl
touched_in-encap (Some of.Dma) units at = refl
touched_in-encap (Some of.Fram) units at = refl
touched_in-encap (Some of.Mpu) units at = refl
touched_in-encap (Some of.Encap) units at = refl
touched_in-encap None units at = refl

-- no lock is set where it stands as it was
not_sealing : (lock enable : Bool) (kept sealed : Seal) → (if not lock && lock && enable then sealed else kept) ≡ kept
not_sealing true enable kept sealed = refl
not_sealing false enable kept sealed = refl

pub kept_by_a_read : (kept : Seal) (units : Units) (at : ℕ) → kept_after kept units.encap (units_touched units at).encap ≡ kept
unfolding units_touched
kept_by_a_read kept units at =
    ap (λ encap. kept_after kept units.encap encap) (touched_in-encap (unit_at at) units at)
    ∙ not_sealing (is_locked units.encap) (is_enabled units.encap) kept (seal units.encap)
