-- The words that the program is called with, and what they ask for.
use Rattle.std.specs.Prelude.{ℕ, List, [], ◌∷◌, Option, Some, None, codes, if◌then◌else◌}
use Rattle.std.specs.Option.{option_copied}
use Rattle.std.specs.Str.{bytes_eq}
use Rattle.capsule.specs.declared.commands.Command.{Command}
use Rattle.capsule.specs.declared.commands.Command.TheVariants.{Run, Release, Pair}

-- what a call is asked to do
pub data Request : Type 0 where
  -- the words are no command
  NoCommand : Request
  -- an image by its name, and a bench by its name where one is given
  RunImage : List ℕ → Option (List ℕ) → Request
  -- an image and a bench by their names, and the release list of their run
  ReleaseImage : List ℕ → List ℕ → Request
  -- two images and a bench by their names, and how the runs compare; both may have one name
  PairImages : List ℕ → List ℕ → List ℕ → Request

-- what `run` asks for, or else what another command does
abbrev pub if_run : List ℕ → Request → Request → Request
if_run command request other = if bytes_eq command (codes "run") then request else other

abbrev pub if_release : List ℕ → Request → Request
if_release command request = if bytes_eq command (codes "release") then request else NoCommand

abbrev pub if_pair : List ℕ → Request → Request
if_pair command request = if bytes_eq command (codes "pair") then request else NoCommand

-- the words `run IMAGE`, `run IMAGE BENCH`, `release IMAGE BENCH` and `pair IMAGE IMAGE BENCH`
abbrev pub request_of : List (List ℕ) → Request
request_of (command ∷ image ∷ []) = if_run command (RunImage image None) NoCommand
request_of (command ∷ image ∷ bench ∷ []) =
    if_run command (RunImage image (Some bench)) (if_release command (ReleaseImage image bench))
request_of (command ∷ one ∷ other ∷ bench ∷ []) = if_pair command (PairImages one other bench)
request_of words = NoCommand

-- what a command asks for
abbrev pub request_of_command : Option Command → Request
request_of_command None = NoCommand
request_of_command (Some (Run image bench)) = RunImage image.now (option_copied bench)
request_of_command (Some (Release image bench)) = ReleaseImage image.now bench.now
request_of_command (Some (Pair one other bench)) = PairImages one.now other.now bench.now
