use Rattle.right_laws.proofs.Ending.{no_notes_no_change as law}
use Rattle.right_laws.proofs.no_notes_no_change.Goals as goal

pub returns : goal.returns
returns c = law
