-- How a step over a bus begins, runs and ends. A step is an instruction, an entry, a transfer or a boot step.
use Rattle.std.specs.Prelude.{◌≡◌, ℕ, ◌*◌, count_by, ◌&&◌, ◌||◌, not, Bool, if◌then◌else◌, [], Option, Some, None}
use Rattle.chip_words.specs.declared.accesses.Agent.{Agent}
use Rattle.chip_words.specs.declared.segments.Segment.{Segment}
use Rattle.chip_words.specs.declared.segments.Segment.TheVariants.{One, Two, Three, Info, Sealed}
use Rattle.chip_words.specs.Access.{requested}
use Rattle.chip_words.specs.Bits.{has_bit}
use Rattle.chip_words.specs.BusPart.{BusPart}
use Rattle.chip_words.specs.Causes.{no_causes}
use Rattle.chip_words.specs.Fram.{waits_of}
use Rattle.chip_words.specs.Map.{is_fram}
use Rattle.chip_words.specs.Encap.{MPUIPVS}
use Rattle.chip_words.specs.Mpu.{interrupts, mpu_flagged, resets_at}
use Rattle.chip_words.specs.Segments.{cause_of_violation, flag_of}
use Rattle.chip_words.specs.Script.{Script, run}
use Rattle.chip_words.specs.Units.{Units}

-- a step begins with no access in its list, and with no cause
abbrev pub begun : BusPart → BusPart
begun part = record part { accesses = []; causes = no_causes }

-- a step answers the value, and leaves the bus part, that its script does
abbrev pub RunsAs : {A : Type 0} → Agent → Script A → BusPart → A → BusPart → Type 0
RunsAs who script old value new = (value ≡ (run who script old).value) × (new ≡ (run who script old).part)

-- the accesses of a step to FRAM, refused and absent ones too
abbrev pub fram_accesses : BusPart → ℕ
fram_accesses part = count_by (λ access. is_fram access.at) part.accesses

-- the cycles that FRAM adds to a step: NWAITS for each of them, as the step left it
unfoldable pub waits_in : BusPart → ℕ
waits_in part = waits_of (part.units).fram * fram_accesses part

-- a violation at a place asks for a reset: VS of the area is in MPUIPC0, and those of the segments are in MPUSAM
abbrev pub has_reset : Segment → Units → Bool
has_reset Sealed units = has_bit (units.encap).mpuipc0 MPUIPVS
has_reset segment units = resets_at units.mpu segment

-- the reset that a violation asks for, where it has one
abbrev pub reset_at : Segment → Units → Option ℕ
reset_at place units = if has_reset place units then Some (cause_of_violation place) else None

-- a violation without a reset asks for the NMI, where it may
abbrev pub has_interrupt : Segment → Units → Bool
has_interrupt place units = not (has_reset place units) && interrupts units.mpu

-- the end of a step at a place that was violated: its flag is set, and a reset or the NMI is asked for
abbrev pub violation_ended : Segment → BusPart → BusPart
violation_ended place part = requested (reset_at place part.units) (record part {
  units = record (part.units) { mpu = mpu_flagged place (part.units).mpu };
  nmi = part.nmi || has_interrupt place part.units;
})

-- the end of a step at a place, where it is one of those that were noted
abbrev pub ended_at : ℕ → Segment → BusPart → BusPart
ended_at noted place part = if has_bit noted (flag_of place) then violation_ended place part else part

-- Behind the last access of a step each place that was noted sets its flag, and asks by the registers as the step left
-- them. What a place asks for doesn't go by flags, so the order of the places decides nothing.
unfoldable pub ended_with : ℕ → BusPart → BusPart
ended_with noted part =
    ended_at noted Three (ended_at noted Two (ended_at noted One (ended_at noted Info (ended_at noted Sealed part))))

-- the end of a step
abbrev pub step_ended : BusPart → BusPart
step_ended part = ended_with part.noted (record part { noted = 0 })
