-- What holds of events behind which one more comes.
use Rattle.std.proofs.Common.{◌≡◌, ℕ, All, true, false, Bool, IsTrue, ◌-◌, ◌<◌, ◌≤◌, ◌==◌, cond, nat_lt, nat_le, List, [], ◌∷◌, ◌++◌, length, get_or, inl, inr, refl, ap, arith, length-append}
use Rattle.std.proofs.lemmas.Bool.{and_parts, cases_Bool, leb-true}
use Rattle.std.proofs.lemmas.Bool.Decides.{nat_tests}
use Rattle.std.proofs.lemmas.List.Elements.{All-push, All-nil, filter-append}
use Rattle.std.proofs.lemmas.List.Folds.{list_all_at}
use Rattle.std.proofs.lemmas.List.Sums.{AllPass-from_list_all, list_all-from_AllPass}
use Rattle.std.proofs.lemmas.List.Sorted.{IsNonDecreasingBy-push, IsNonDecreasingBy-short}
use Rattle.std.specs.List.{list_all}
use Rattle.std.specs.List.Sorted.{IsNonDecreasingBy}
use Rattle.power_schedule.specs.declared.cuts.Cut.{Cut}
use Rattle.power_schedule.specs.Cuts.{AreOrdered}
use Rattle.stimulus.specs.Cuts.{IsCut}
use Rattle.stimulus.specs.declared.events.Event.{Event}
use Rattle.stimulus.specs.Events.{IsEvent, may_follow, most_on_tick, none_after, on_tick}
use Rattle.stimulus.specs.Stimulus.{IsBench, Stimulus, greatest_end, with_event}

-- among events whose ticks don't fall, none is after a tick exactly where the last one isn't
pub none_after-last : (tick : ℕ) (events : List Event) (last : Event) → IsNonDecreasingBy (λ (event : Event). event.tick) events → 0 < length events → ((d : Event) → last ≡ get_or events (length events - 1) d) → nat_le last.tick tick ≡ none_after tick events
unfolding none_after
none_after-last tick events last sorted some ends =
    elim (cases_Bool (nat_le last.tick tick)) [
      | inl held ↦ rw (
        held,
        list_all-from_AllPass (λ (event : Event). nat_le event.tick tick) events (λ k d h.
            let below = sorted k (length events - 1) d (omega arith) (omega arith) in
            let bound = leb-true _ _ held in
            let same : last.tick ≡ (get_or events (length events - 1) d).tick = ap (λ (event : Event). event.tick) (ends d) in
            grind (arith, nat_tests)),
      )
      | inr failed ↦
          let there : nat_le (get_or events (length events - 1) last).tick tick ≡ false = rw (← ends last) failed in
          rw (failed, list_all_at (λ (event : Event). nat_le event.tick tick) events (length events - 1) last (omega arith) there)
    ]

pub none_after-empty : (tick : ℕ) (events : List Event) → length events ≤ 0 → true ≡ none_after tick events
unfolding none_after
none_after-empty tick [] h = refl
none_after-empty tick (event ∷ events) h = absurd (omega arith)

-- one more event on a tick that has room leaves no tick with too many
few_on_tick-push : (events : List Event) (event : Event) (tick : ℕ) → length (on_tick event.tick events) < most_on_tick → length (on_tick tick events) ≤ most_on_tick → length (on_tick tick (events ++ event ∷ [])) ≤ most_on_tick
unfolding on_tick
few_on_tick-push events event tick room few =
    rw (filter-append (λ (event : Event). event.tick == tick) events (event ∷ []), length-append)
    (elim (cases_Bool (event.tick == tick)) [
      | inl here ↦
          let same : event.tick ≡ tick = grind (arith, nat_tests) in
          rw here (omega (arith, rw same at room))
      | inr away ↦ rw away (omega arith)
    ])

-- an event that may follow makes a bench of a bench
pub IsBench-push : (bench : Stimulus) (event : Event) → IsBench bench → IsTrue (may_follow bench.events event) → event.tick < bench.end → IsEvent event → IsBench (with_event bench event)
unfolding may_follow none_after
IsBench-push bench event known follows before is_event =
    let (none_later, room) = and_parts (list_all (λ (earlier : Event). nat_le earlier.tick event.tick) bench.events) (nat_lt (length (on_tick event.tick bench.events)) most_on_tick) follows in
    let has_room : length (on_tick event.tick bench.events) < most_on_tick = grind (arith, nat_tests) in
    record {
      some_ticks = known.some_ticks;
      few_ticks = known.few_ticks;
      fill_is_byte = known.fill_is_byte;
      in_order = IsNonDecreasingBy-push (λ (event : Event). event.tick) bench.events event known.in_order (λ d some. leb-true _ _ (AllPass-from_list_all _ bench.events none_later (length bench.events - 1) d (omega arith)));
      few_on_tick = λ tick. few_on_tick-push bench.events event tick has_room (known.few_on_tick tick);
      before_end = All-push (λ (event : Event). event.tick < bench.end) bench.events event known.before_end before;
      in_range = All-push IsEvent bench.events event known.in_range is_event;
      cuts_in_range = known.cuts_in_range;
      cuts_in_order = known.cuts_in_order;
    }

-- the same of a push that may find no memory
pub IsBench-pushed : (bench : Stimulus) (event : Event) (pushed : Bool) (events : List Event) → IsBench bench → IsTrue (may_follow bench.events event) → event.tick < bench.end → IsEvent event → events ≡ cond pushed (bench.events ++ event ∷ []) bench.events → IsBench (record bench { events = events })
IsBench-pushed bench event true events known follows before is_event e = rw e (IsBench-push bench event known follows before is_event)
IsBench-pushed bench event false events known follows before is_event e = rw e known

-- a bench with no event
pub IsBench-plain : (end fill : ℕ) (events : List Event) (cuts : List Cut) → 1 ≤ end → end ≤ greatest_end → fill < 256 → events ≡ [] → All (IsCut end) cuts → AreOrdered cuts → IsBench (record { end = end; fill = fill; events = events; cuts = cuts })
unfolding on_tick
IsBench-plain end fill events cuts some few byte e in_range in_order = rw e (record {
  some_ticks = some;
  few_ticks = few;
  fill_is_byte = omega arith;
  in_order = IsNonDecreasingBy-short _ [] (omega arith);
  few_on_tick = λ tick. omega arith;
  before_end = All-nil _;
  in_range = All-nil _;
  cuts_in_range = in_range;
  cuts_in_order = in_order;
})

-- a bench with other cuts
pub IsBench-supplied : (bench : Stimulus) (cuts : List Cut) → IsBench bench → All (IsCut bench.end) cuts → AreOrdered cuts → IsBench (record bench { cuts = cuts })
IsBench-supplied bench cuts known in_range in_order = record {
  some_ticks = known.some_ticks;
  few_ticks = known.few_ticks;
  fill_is_byte = known.fill_is_byte;
  in_order = known.in_order;
  few_on_tick = known.few_on_tick;
  before_end = known.before_end;
  in_range = known.in_range;
  cuts_in_range = in_range;
  cuts_in_order = in_order;
}
