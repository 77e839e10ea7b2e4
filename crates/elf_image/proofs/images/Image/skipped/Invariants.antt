use Rattle.std.proofs.Common.{◌≡◌, ◌+◌, ◌*◌, ◌≤◌, ◌^◌}
use Rattle.elf_image.specs.Image.{skipped_of}
use Rattle.elf_image.proofs.ImageLemmas.{skipped_from}
use Rattle.elf_image.proofs.images.Image.skipped.Given as goal

abbrev pub invariant-loop-header : goal.invariant-loop-header
invariant-loop-header l = record {
  small : l.skipped ≤ 2 ^ 32 * l.header-index;
  rest : l.skipped + skipped_from l.self-inside.file.now l.self-inside.headers.now l.header-index ≡ skipped_of l.self;
}
