-- The facts that hold of a chip between two ticks are kept by every tick, and hold of every chip of a run.
use Rattle.std.specs.Prelude.{ℕ, List}
use Rattle.elf_image.specs.Image.{Segment}
use Rattle.stimulus.specs.Stimulus.{Stimulus}
use Rattle.chip_core.specs.FirstState.{first_state}
use Rattle.chip_core.specs.Run.{chip_after}
use Rattle.chip_core.specs.State.{State}
use Rattle.chip_core.specs.Tick.{power_of, ticked}
use Rattle.release_log.specs.Facts.{IsSound, MayBeOff}

-- each tick keeps them, whatever its power and its events are
abbrev pub TickKeepsFacts : Type 0
TickKeepsFacts =
    (bench : Stimulus) (chip : State) → MayBeOff (power_of bench chip) chip → IsSound chip →
    IsSound (ticked bench chip)

-- they hold of the chip after so many ticks of a run, whatever the image and the bench are
abbrev pub RunKeepsFacts : Type 0
RunKeepsFacts =
    (image : List Segment) (bench : Stimulus) (n : ℕ) → IsSound (chip_after n bench (first_state image bench.fill))

-- and a tick of a run that is without power finds power off
abbrev pub RunLosesPowerByCuts : Type 0
RunLosesPowerByCuts =
    (image : List Segment) (bench : Stimulus) (n : ℕ) →
    MayBeOff (power_of bench (chip_after n bench (first_state image bench.fill)))
    (chip_after n bench (first_state image bench.fill))
