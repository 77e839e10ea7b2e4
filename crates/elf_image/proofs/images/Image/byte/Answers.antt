use Rattle.std.proofs.Common.{◌≡◌, List, unwrap_or, sym, ◌∙◌, ap}
use Rattle.elf_image.specs.Image.{Segment, byte_in, byte_of}
use Rattle.elf_image.proofs.ImageLemmas.{byte_from-start, byte_from-some, byte_from-none, byte_from-end}
use Rattle.elf_image.proofs.images.Image.byte.Goals.{in-Some, in_default}
use Rattle.elf_image.proofs.images.Image.byte.Goals as goal

pub loop-header-init : goal.loop-header-init
loop-header-init c = byte_from-start _ _ _ ∙ ap (λ (image : List Segment). byte_of image c.args.at) c.self.view_is

pub loop-header-preserved : goal.loop-header-preserved
loop-header-preserved c =
    elim c.match-of.branch [
      | in-Some w ↦ let given : c.match-of.byte ≡ unwrap_or (byte_in w.in-Some.segment c.args.at) c.loop-header.byte = cc in
          rw given (byte_from-some _ _ _ _ _ _ c.loop-header-test.true (sym c.of.ensures ∙ w.in-Some.is) ∙ c.loop-header.invariant)
      | in_default w ↦ rw w.byte-is (byte_from-none _ _ _ _ _ c.loop-header-test.true (sym c.of.ensures ∙ w.in_default.is) ∙ c.loop-header.invariant)
    ]

pub returns : goal.returns
returns c = sym (byte_from-end _ _ _ _ _ c.loop-header-test.false) ∙ c.loop-header.invariant
