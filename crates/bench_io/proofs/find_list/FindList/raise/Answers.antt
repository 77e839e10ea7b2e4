use Rattle.std.proofs.Common.{◌<◌, length, ap, ◌∙◌, arith}
use Rattle.bench_io.specs.Shelves.{moved}
use Rattle.bench_io.proofs.Numbers.{below_given, moved-numbered, length-moved}
use Rattle.bench_io.proofs.find_list.FindList.raise.Goals as goal

pub returns-clause-moved : goal.returns-clause-moved
returns-clause-moved c =
    let entries = c.self.inside.entries.items in
    let old = c.index_mut-entry.result.now in
    let within : c.args.id < length entries = omega (arith, below_given entries 0 c.args.id (rw (← c.self.view_is) at c.requires)) in
    moved-numbered entries 0 c.args.id c.args.id c.args.n old (record old { place = c.saturating_add-entry.result }) (omega arith) within (ap (λ entry. entry.name) c.index_mut-entry.ensures.value) (cc (ap (λ entry. entry.place) c.index_mut-entry.ensures.value)) ∙ ap (moved c.args.id c.args.n) c.self.view_is

pub returns-clause-len : goal.returns-clause-len
returns-clause-len c = ap length (returns-clause-moved c) ∙ length-moved c.args.self.now c.args.id c.args.n
