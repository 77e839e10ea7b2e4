-- Rights: whether an agent may make an access, and which place refuses it.
use Rattle.std.specs.Prelude.{ℕ, Bool, true, false, not, if◌then◌else◌}
use Rattle.chip_words.specs.declared.accesses.Kind.{Kind}
use Rattle.chip_words.specs.declared.accesses.Agent.{Agent}
use Rattle.chip_words.specs.declared.accesses.Agent.TheVariants.{Cpu, Dma}
use Rattle.chip_words.specs.declared.segments.Segment.TheVariants.{Sealed}
use Rattle.chip_words.specs.declared.segments.Right.{Right}
use Rattle.chip_words.specs.declared.segments.Right.TheVariants.{Yes, No}
use Rattle.chip_words.specs.Encap.{allows}
use Rattle.chip_words.specs.Mpu.{segment_right}
use Rattle.chip_words.specs.Units.{Units}

-- the agents that the segments judge
abbrev pub is_segmented : Agent → Bool
is_segmented (Cpu ia) = true
is_segmented Dma = true
is_segmented who = false

-- the right of an access: the encapsulation is asked first, and the segments where it allows the access
unfoldable pub right_of : Units → Agent → Kind → ℕ → Right
right_of units who kind at =
    if not (allows units.encap who kind at) then No Sealed
    else if is_segmented who then segment_right units.mpu kind at
    else Yes
