use Rattle.elf_image.proofs.SegmentLemmas.{loaded-inside, loaded-none, loaded-above}
use Rattle.elf_image.proofs.segments.LoadSegment.load_within.Goals as goal

pub returns-then-range-clause-inside : goal.returns-then-range-clause-inside
returns-then-range-clause-inside c at l h =
    loaded-inside c.args.self.now c.args.memory.now c.copy_from_slice.new.self c.args.low c.args.high _ _ at c.within-range.ensures.start c.within-range.ensures.end c.if-range.true c.requires (rw (← c.self.view_is) c.copy_from_slice.ensures.after) l h

pub returns-then-range-clause-above : goal.returns-then-range-clause-above
returns-then-range-clause-above c at h =
    loaded-above c.args.self.now c.args.memory.now c.copy_from_slice.new.self c.args.low c.args.high _ _ at c.within-range.ensures.start c.within-range.ensures.end c.if-range.true c.requires (rw (← c.self.view_is) c.copy_from_slice.ensures.after) h

pub returns-else-range-clause-inside : goal.returns-else-range-clause-inside
returns-else-range-clause-inside c at l h = loaded-none c.args.self.now _ c.args.low c.args.high _ _ at c.within-range.ensures.start c.within-range.ensures.end c.if-range.false l h
