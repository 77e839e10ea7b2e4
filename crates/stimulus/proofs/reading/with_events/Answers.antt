use Rattle.std.proofs.Common.{◌≡◌, ◌∙◌, [], ◌+◌, take, map, Some, None, Ok, refl, sym, ap, subst}
use Rattle.toml.specs.View.{view}
use Rattle.stimulus.specs.declared.refusals.BenchRefused.TheVariants as refused
use Rattle.stimulus.specs.Events.{event_rules}
use Rattle.stimulus.specs.Rules.{items_of, next_item}
use Rattle.stimulus.specs.Stimulus.{Stimulus, with_event}
use Rattle.stimulus.proofs.FirstBreaking.{all_taken, items_at, refused_at, taken_at}
use Rattle.stimulus.proofs.reading.with_events.Goals as goal

pub returns-in_default : goal.returns-in_default
returns-in_default c _ =
    let rules = event_rules c.args.end in
    let index = c.loop-index.index in
    let value = c.index-values-index.result in
    let read : next_item rules (items_of rules (take index (map view c.args.values.now))) (view value) ≡ None =
    subst (λ (bench : Stimulus). next_item (event_rules bench.end) bench.events (view value) ≡ None) c.loop-index.invariant.so_far (sym c.next_event.ensures.event ∙ c.in_default.is) in
    rw (refused_at rules refused.Event c.args.values.now index value c.loop-index-test.true c.index-values-index.is c.loop-index.invariant.none_breaks read) refl

pub loop-index-preserved : goal.loop-index-preserved
loop-index-preserved c =
    let rules = event_rules c.args.end in
    let index = c.loop-index.index in
    let event = c.in-Some.event in
    let value = c.index-values-index.result in
    let read : next_item rules (items_of rules (take index (map view c.args.values.now))) (view value) ≡ Some event =
    subst (λ (bench : Stimulus). next_item (event_rules bench.end) bench.events (view value) ≡ Some event) c.loop-index.invariant.so_far (sym c.in-Some.ensures.event) in
    let added = items_at rules c.args.values.now index value event c.loop-index-test.true c.index-values-index.is read in
    record {
      so_far = c.in_ok-add.ensures.ok ∙ subst (λ (bench : Stimulus). with_event bench event ≡ record { end = c.args.end; fill = c.args.fill; events = items_of rules (take (index + 1) (map view c.args.values.now)); cuts = [] }) (sym c.loop-index.invariant.so_far) (rw added refl);
      none_breaks = taken_at rules c.args.values.now index value event c.loop-index-test.true c.index-values-index.is c.loop-index.invariant.none_breaks read;
    }

pub returns : goal.returns
returns c _ =
    let known = c.loop-index.invariant in
    rw (all_taken (event_rules c.args.end) refused.Event c.args.values.now c.loop-index.index c.loop-index-test.false known.none_breaks) (ap Ok known.so_far)
