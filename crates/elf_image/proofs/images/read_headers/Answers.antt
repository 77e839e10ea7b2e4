use Rattle.std.proofs.Common.{arith}
use Rattle.elf_image.specs.Elf.{header_table}
use Rattle.elf_image.proofs.TableLemmas.{first_chunks-table}
use Rattle.elf_image.proofs.images.read_headers.Goals as goal

pub returns-clause-table : goal.returns-clause-table
unfolding header_table
returns-clause-table c =
    let header = c.read-header.result in
    grind (arith, first_chunks-table c.args.file.now header.e_phoff header.e_phnum)
