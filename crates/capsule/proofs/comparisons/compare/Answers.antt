-- The verdict gives the status.
use Rattle.capsule.proofs.Comparing.{compared_of}
use Rattle.capsule.proofs.comparisons.compare.Goals as goal

pub returns-in-Ok-put_comparison : goal.returns-in-Ok-put_comparison
returns-in-Ok-put_comparison g c =
    compared_of c.args.bench.now c.args.one.now c.args.other.now c.in-Ok-put_comparison.verdict _ _ _ _ c.ending.result c.ending.ensures c.in-Ok-put_comparison.ensures.due c.in-Ok-put_comparison.ensures.whole c.in-Ok-put_comparison.ensures.uncounted
