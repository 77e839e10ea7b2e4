use Rattle.std.proofs.Common.{sym}
use Rattle.ip_encap.proofs.Leaving.{opened-holes}
use Rattle.ip_encap.proofs.intervals.opened.Goals as goal

pub returns-clause-intervals : goal.returns-clause-intervals
returns-clause-intervals c =
    let pieces = opened-holes c.args.before c.args.after (c.holes.result).0 (c.holes.result).1 _ _ _ _ c.max-low.ensures c.min-high.ensures c.max-between.ensures c.max-above.ensures c.holes.ensures in
    rw (c.push_piece-3.ensures.items, c.push_piece-2.ensures.items, c.push_piece.ensures.items, c.new-intervals.ensures, c.min.ensures, c.min-2.ensures) (sym pieces)
