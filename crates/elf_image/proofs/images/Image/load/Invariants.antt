use Rattle.std.proofs.Common.{◌≡◌, ℕ, false, IsTrue, slice_index}
use Rattle.chip_words.specs.Map.{is_fram}
use Rattle.elf_image.specs.Image.{byte_of}
use Rattle.elf_image.proofs.ImageLemmas.{byte_from}
use Rattle.elf_image.proofs.images.Image.load.Given as goal

abbrev pub invariant-loop-header : goal.invariant-loop-header
invariant-loop-header l = record {
  fram : (at : ℕ) → IsTrue (is_fram at) → byte_from (slice_index l.memory at) l.self-inside.file.now l.self-inside.headers.now l.header-index at ≡ byte_of l.self at;
  others : (at : ℕ) → is_fram at ≡ false → slice_index l.memory at ≡ slice_index l.fn.memory at;
}
