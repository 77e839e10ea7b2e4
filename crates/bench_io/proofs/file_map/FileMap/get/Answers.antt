use Rattle.std.proofs.Common.{Some, sym, ◌∙◌, ap}
use Rattle.bench_io.specs.MemShelves.{file_named}
use Rattle.bench_io.proofs.FileMaps.{bytes_of, file_named-entries}
use Rattle.bench_io.proofs.file_map.FileMap.get.Goals as goal

pub returns-in-Some : goal.returns-in-Some
returns-in-Some c =
    ap Some c.as_slice.ensures.value ∙ ap bytes_of c.in-Some.ensures.value ∙ sym (file_named-entries c.self.inside.files.entries c.args.name.now) ∙ ap (λ files. file_named files c.args.name.now) c.self.view_is

pub returns-in-None : goal.returns-in-None
returns-in-None c =
    ap bytes_of c.in-None.ensures.value ∙ sym (file_named-entries c.self.inside.files.entries c.args.name.now) ∙ ap (λ files. file_named files c.args.name.now) c.self.view_is
