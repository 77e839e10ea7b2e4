use Rattle.right_laws.proofs.Ending.{steps_end_by_notes as law}
use Rattle.right_laws.proofs.steps_end_by_notes.Goals as goal

pub returns : goal.returns
returns c = law
