use Rattle.std.proofs.Common.{◌≡◌, ◌∙◌, All, ◌+◌, List, [], ◌∷◌, ◌++◌, length, take, map, Some, None, Ok, refl, sym, ap, subst, length-append}
use Rattle.std.proofs.lemmas.List.Elements.{All-push}
use Rattle.toml.specs.View.{view}
use Rattle.power_schedule.specs.declared.cuts.Cut.{Cut}
use Rattle.power_schedule.specs.Cuts.{AreOrdered}
use Rattle.stimulus.specs.declared.refusals.BenchRefused.TheVariants as refused
use Rattle.stimulus.specs.Cuts.{IsCut, cut_rules}
use Rattle.stimulus.specs.Rules.{items_of, next_item}
use Rattle.stimulus.proofs.FirstBreaking.{all_taken, items_at, refused_at, taken_at}
use Rattle.stimulus.proofs.Stretches.{AreOrdered-behind}
use Rattle.stimulus.proofs.cuts.schedule_in.Goals as goal

pub returns-in_default-clause-schedule : goal.returns-in_default-clause-schedule
returns-in_default-clause-schedule c _ =
    let rules = cut_rules c.args.end in
    let index = c.loop-index.index in
    let value = c.index-values-index.result in
    let read : next_item rules (items_of rules (take index (map view c.args.values.now))) (view value) ≡ None =
    subst (λ (cuts : List Cut). next_item rules cuts (view value) ≡ None) (c.deref.ensures.value ∙ c.loop-index.invariant.so_far) (sym c.next_cut.ensures.cut ∙ c.in_default.is) in
    rw (refused_at rules refused.Cut c.args.values.now index value c.loop-index-test.true c.index-values-index.is c.loop-index.invariant.none_breaks read) refl

pub loop-index-preserved : goal.loop-index-preserved
loop-index-preserved c =
    let rules = cut_rules c.args.end in
    let index = c.loop-index.index in
    let cut = c.in-Some.cut in
    let cuts = c.loop-index.cuts.items in
    let value = c.index-values-index.result in
    let known = c.loop-index.invariant in
    let pushed = c.in-Ok.ensures.items in
    let read : next_item rules (items_of rules (take index (map view c.args.values.now))) (view value) ≡ Some cut =
    subst (λ (cuts : List Cut). next_item rules cuts (view value) ≡ Some cut) (c.deref.ensures.value ∙ known.so_far) (sym c.in-Some.ensures.cut) in
    let added = items_at rules c.args.values.now index value cut c.loop-index-test.true c.index-values-index.is read in
    let behind = rw c.deref.ensures.value at c.in-Some.ensures.behind in
    let count : length (cuts ++ cut ∷ []) ≡ index + 1 = length-append cuts (cut ∷ []) ∙ ap (λ n. n + 1) known.count in
    let in_range : All (IsCut c.args.end) (cuts ++ cut ∷ []) = All-push (IsCut c.args.end) cuts cut known.in_range c.in-Some.ensures.in_range in
    let in_order : AreOrdered (cuts ++ cut ∷ []) = AreOrdered-behind cuts cut known.in_order behind in
    record {
      so_far = pushed ∙ ap (λ (before : List Cut). before ++ cut ∷ []) known.so_far ∙ sym added;
      none_breaks = taken_at rules c.args.values.now index value cut c.loop-index-test.true c.index-values-index.is known.none_breaks read;
      count = rw pushed count;
      in_range = rw pushed in_range;
      in_order = rw pushed in_order;
    }

pub returns-clause-schedule : goal.returns-clause-schedule
returns-clause-schedule c _ =
    let known = c.loop-index.invariant in
    let same = c.in_ok-build_schedule.ensures ∙ c.deref-2.ensures.value ∙ known.so_far in
    rw (all_taken (cut_rules c.args.end) refused.Cut c.args.values.now c.loop-index.index c.loop-index-test.false known.none_breaks) (ap Ok same)
