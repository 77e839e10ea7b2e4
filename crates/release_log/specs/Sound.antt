-- What every step keeps of the facts that hold of a chip between ticks, whoever makes it and whatever its accesses are.
use Rattle.std.specs.Prelude.{◌≡◌, ◌<◌, ◌≤◌, ℕ, Bool, true, false, List, Some, length}
use Rattle.chip_words.specs.declared.accesses.Agent.{Agent}
use Rattle.chip_words.specs.Access.{is_watched}
use Rattle.chip_words.specs.BusPart.{BusPart}
use Rattle.chip_words.specs.Causes.{least_cause}
use Rattle.chip_words.specs.Public.{IsSettled}
use Rattle.chip_words.specs.Script.{Script, run}
use Rattle.chip_words.specs.Steps.{step_ended}
use Rattle.access_laws.specs.Boots.{HasBorders}
use Rattle.right_laws.specs.Ends.{is_asked, requests}

-- Requests.

-- the debugger's reset
abbrev pub DEBUGGER : ℕ
DEBUGGER = 0x04

-- which is the least that anything in a tick asks for: 02h comes with power alone
abbrev pub LEAST_REQUEST : ℕ
LEAST_REQUEST = DEBUGGER

-- a list of requests has none below the least
abbrev pub HasNoneLower : List Bool → Type 0
HasNoneLower requested = (cause : ℕ) → cause < LEAST_REQUEST → is_asked requested cause ≡ false

-- requests only join: each that there was stands, and none below the least is new
pub record OnlyJoin (before after : List Bool) : Type 0 where
  pub count : length after ≡ length before
  pub stand : (cause : ℕ) → is_asked before cause ≡ true → is_asked after cause ≡ true
  pub none_lower : (cause : ℕ) → cause < LEAST_REQUEST → is_asked after cause ≡ is_asked before cause

-- The bus part.

-- what the bus parts before a step and behind it have in common
pub record KeepsFacts (before after : BusPart) : Type 0 where
  pub size : length after.memory ≡ length before.memory
  pub fill : after.fill ≡ before.fill
  pub budget : after.budget ≡ before.budget
  pub requested : OnlyJoin (requests before) (requests after)
  -- the kept set is one that borders give, and the seal in force stays in force
  pub borders : HasBorders before.kept → HasBorders after.kept
  pub settled : IsSettled before → IsSettled after

-- so behind each script of each agent, and behind the end of a step, which leaves nothing noted; the debugger and the
-- boot note nothing
pub record StepsKeepFacts : Type 0 where
  pub accesses : (who : Agent) (step : Script (List ℕ)) (part : BusPart) → KeepsFacts part (run who step part).part
  pub end : (part : BusPart) → KeepsFacts part (step_ended part)
  pub quiet : (part : BusPart) → (step_ended part).noted ≡ 0
  pub unwatched :
      (who : Agent) (step : Script (List ℕ)) (part : BusPart) → is_watched who ≡ false →
      ((run who step part).part).noted ≡ part.noted

-- Which request is taken.

-- where none is below the least, the debugger's is the one that is taken, and every one that is taken is the least or
-- above it; and requests that only join leave it so
pub record DebuggerComesFirst : Type 0 where
  pub stays : (before after : List Bool) → OnlyJoin before after → HasNoneLower before → HasNoneLower after
  pub taken :
      (requested : List Bool) → HasNoneLower requested → is_asked requested DEBUGGER ≡ true →
      least_cause requested ≡ Some DEBUGGER
  pub least :
      (requested : List Bool) (cause : ℕ) → HasNoneLower requested → least_cause requested ≡ Some cause →
      LEAST_REQUEST ≤ cause
