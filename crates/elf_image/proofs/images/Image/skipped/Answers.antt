use Rattle.std.proofs.Common.{sym, ◌∙◌, ap, arith}
use Rattle.elf_image.specs.Image.{skipped_of}
use Rattle.elf_image.proofs.ImageLemmas.{skipped_from-start, skipped_from-some, skipped_from-none, skipped_from-end}
use Rattle.elf_image.proofs.images.Image.skipped.Goals.{in-Some, in_default}
use Rattle.elf_image.proofs.images.Image.skipped.Goals as goal

pub loop-header-init : goal.loop-header-init
loop-header-init c =
    let whole = skipped_from-start c.self.inside.file.now c.self.inside.headers.now ∙ ap skipped_of c.self.view_is in
    record { small = omega arith; rest = omega (arith, whole) }

pub loop-header-preserved : goal.loop-header-preserved
loop-header-preserved c =
    elim c.match-of.branch [
      | in-Some w ↦ let step = skipped_from-some _ _ _ _ c.loop-header-test.true (sym c.of.ensures ∙ w.in-Some.is) in
          record { small = omega arith; rest = omega (arith, step) }
      | in_default w ↦ let step = skipped_from-none _ _ _ c.loop-header-test.true (sym c.of.ensures ∙ w.in_default.is) in
          record { small = omega arith; rest = omega (arith, step) }
    ]

pub returns : goal.returns
returns c =
    let end = skipped_from-end c.self.inside.file.now c.self.inside.headers.now c.loop-header.header-index c.loop-header-test.false in
    omega (arith, end)
