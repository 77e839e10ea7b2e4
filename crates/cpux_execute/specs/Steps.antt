-- What a step of the processor does over a bus: by its script, for the instruction whose first word is at an address.
use Rattle.std.specs.Prelude.{◌≡◌, ◌≤◌, ◌+◌, ℕ, List, length}
use Rattle.chip_words.specs.declared.accesses.Agent.TheVariants.{Cpu}
use Rattle.chip_words.specs.BusPart.{BusPart}
use Rattle.chip_words.specs.Script.{Script, run}
use Rattle.chip_words.specs.Steps.{RunsAs}
use Rattle.cpux_execute.specs.declared.outcomes.Outcome.{Outcome}
use Rattle.cpux_execute.specs.Execution.{Stepped}

-- the step answers the value that its script ends in, and leaves the bus part that the script leaves
abbrev pub CpuRuns : {A : Type 0} → ℕ → Script A → BusPart → A → BusPart → Type 0
CpuRuns ia script old value new = RunsAs (Cpu ia) script old value new

-- a whole instruction leaves the registers, ends, and leaves the bus part as its script does
abbrev pub CpuSteps : ℕ → Script Stepped → BusPart → List ℕ → Outcome → BusPart → Type 0
CpuSteps ia script old registers outcome new =
    (registers ≡ (run (Cpu ia) script old).value.registers)
    × (outcome ≡ (run (Cpu ia) script old).value.outcome)
    × (new ≡ (run (Cpu ia) script old).part)

-- a step makes at most so many accesses
abbrev pub AddsAtMost : ℕ → BusPart → BusPart → Type 0
AddsAtMost n old new = length new.accesses ≤ length old.accesses + n
