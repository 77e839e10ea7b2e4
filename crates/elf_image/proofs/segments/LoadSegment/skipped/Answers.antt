use Rattle.std.proofs.Common.{length, ap, arith}
use Rattle.elf_image.specs.Image.{Segment, skipped_in}
use Rattle.elf_image.proofs.FramLemmas.{count_by-off_fram}
use Rattle.elf_image.proofs.segments.LoadSegment.skipped.Goals as goal

pub returns-clause-value : goal.returns-clause-value
unfolding skipped_in
returns-clause-value c =
    let total = count_by-off_fram c.args.self.now.at (length c.args.self.now.bytes) in
    let size = ap (λ (s : Segment). length s.bytes) c.self.view_is in
    omega (arith, total, size)
