use Rattle.std.proofs.Common.{◌≡◌}
use Rattle.elf_image.specs.Image.{byte_of}
use Rattle.elf_image.proofs.ImageLemmas.{byte_from}
use Rattle.elf_image.proofs.images.Image.byte.Given as goal

abbrev pub invariant-loop-header : goal.invariant-loop-header
invariant-loop-header l = byte_from l.byte l.self-inside.file.now l.self-inside.headers.now l.header-index l.at ≡ byte_of l.self l.at
