use Rattle.std.proofs.Common.{arith, length}
use Rattle.elf_image.specs.Elf.{header_of}
use Rattle.elf_image.specs.Image.{leaves}
use Rattle.elf_image.proofs.TableLemmas.{position-map}
use Rattle.elf_image.proofs.images.read_image.Goals as goal

pub returns-in-Some : goal.returns-in-Some
returns-in-Some c = grind (arith, position-map (leaves (length c.args.bytes.now)) header_of c.in_ok-headers.headers.now)

pub returns-in-None : goal.returns-in-None
returns-in-None c = grind (arith, position-map (leaves (length c.args.bytes.now)) header_of c.in_ok-headers.headers.now)
