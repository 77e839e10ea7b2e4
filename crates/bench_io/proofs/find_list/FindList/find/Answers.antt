use Rattle.std.proofs.Common.{◌<◌, length, arith}
use Rattle.bench_io.proofs.Numbers.{below_given, find_of-numbered}
use Rattle.bench_io.proofs.find_list.FindList.find.Goals as goal

pub returns : goal.returns
returns c =
    let within : c.args.id < length c.self.inside.entries.items = omega (arith, below_given c.self.inside.entries.items 0 c.args.id (rw (← c.self.view_is) at c.requires)) in
    let found = find_of-numbered c.self.inside.entries.items 0 c.args.id c.args.id c.index-entry.result.now (omega arith) within in
    cc (found, c.self.view_is, c.index-entry.ensures, c.as_str.ensures.value)
