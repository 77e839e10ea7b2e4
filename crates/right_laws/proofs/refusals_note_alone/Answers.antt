use Rattle.right_laws.proofs.Refusing.{refusals_note_alone as law}
use Rattle.right_laws.proofs.refusals_note_alone.Goals as goal

pub returns : goal.returns
returns c = law
