-- What a violation asks for (SLAU367, MPU).
use Rattle.std.specs.Prelude.{ℕ, Bool, if◌then◌else◌}
use Rattle.chip_words.specs.declared.segments.Segment.{Segment}
use Rattle.chip_words.specs.declared.segments.Segment.TheVariants.{Sealed}
use Rattle.chip_words.specs.Mpu.{Mpu, interrupts, resets_at}
use Rattle.chip_words.specs.Segments.{cause_of_violation}
use Rattle.mpu_segments.specs.declared.noted.Noted.{Noted}
use Rattle.mpu_segments.specs.declared.noted.Noted.TheVariants.{Nothing, Nmi, Reset}

-- VS of a place; that of the sealed area, which has none in MPUSAM, is handed in
abbrev pub vs_of : Bool → Mpu → Segment → Bool
vs_of ip_vs mpu Sealed = ip_vs
vs_of ip_vs mpu place = resets_at mpu place

-- VS asks for the reset, and without it SEGIE asks for the NMI
abbrev pub noted_of : Bool → Mpu → Segment → Noted
noted_of ip_vs mpu place =
    if vs_of ip_vs mpu place then Reset (cause_of_violation place) else if interrupts mpu then Nmi else Nothing

-- a fact of the cause, where a reset is asked for
abbrev pub IfReset : Noted → (ℕ → Type 0) → Type 0
IfReset (Reset cause) P = P cause
IfReset noted P = Unit {0}
