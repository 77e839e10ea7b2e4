use Rattle.std.proofs.Common.{List, sym, ◌∙◌, ap}
use Rattle.elf_image.specs.Image.{Segment, byte_of}
use Rattle.elf_image.proofs.ImageLemmas.{byte_from-start, byte_from-some, byte_from-none, byte_from-end}
use Rattle.elf_image.proofs.images.Image.load.Goals.{in-Some, in_default}
use Rattle.elf_image.proofs.images.Image.load.Goals as goal

pub loop-header-init : goal.loop-header-init
loop-header-init c = record {
  fram = λ at inside. rw (c.erase.ensures.fram at inside) (byte_from-start _ _ _ ∙ ap (λ (image : List Segment). byte_of image at) c.self.view_is);
  others = c.erase.ensures.others;
}

pub loop-header-preserved : goal.loop-header-preserved
loop-header-preserved c =
    elim c.match-of.branch [
      | in-Some w ↦ record {
        fram = λ at inside. rw (w.memory-is, w.load.ensures.fram at inside) (byte_from-some _ _ _ _ _ _ c.loop-header-test.true (sym c.of.ensures ∙ w.in-Some.is) ∙ c.loop-header.invariant.fram at inside);
        others = λ at outside. rw (w.memory-is, w.load.ensures.others at outside) (c.loop-header.invariant.others at outside);
      }
      | in_default w ↦ record {
        fram = λ at inside. rw w.memory-is (byte_from-none _ _ _ _ _ c.loop-header-test.true (sym c.of.ensures ∙ w.in_default.is) ∙ c.loop-header.invariant.fram at inside);
        others = λ at outside. rw w.memory-is (c.loop-header.invariant.others at outside);
      }
    ]

pub returns-clause-fram : goal.returns-clause-fram
returns-clause-fram c at inside = sym (byte_from-end _ _ _ _ _ c.loop-header-test.false) ∙ c.loop-header.invariant.fram at inside
