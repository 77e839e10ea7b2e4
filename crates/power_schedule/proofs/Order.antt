-- Which lists of cuts are in order, and the first cut that comes too early.
use Rattle.std.proofs.Common.{Err, List, Ok, [], add-one, ap, arith, false, get_or, inl, inr, length, length-append, nat_le, nat_lt, refl, suc, true, zero, ℕ, ◌++◌, ◌+◌, ◌-◌, ◌<◌, ◌∙◌, ◌∷◌, ◌≡◌}
use Rattle.std.proofs.lemmas.Bool.{cases_lt}
use Rattle.std.proofs.lemmas.Bool.Decides.{nat_tests}
use Rattle.std.proofs.lemmas.List.{get_or_append_left, get_or_push}
use Rattle.std.proofs.lemmas.Option.{slice_get-get_or}
use Rattle.std.proofs.lemmas.List.Sorted.{IsNonDecreasingBy-from_all_adjacent}
use Rattle.std.specs.List.Sorted.{IsNonDecreasingBy}
use Rattle.power_schedule.specs.declared.cuts.Cut.{Cut}
use Rattle.power_schedule.specs.declared.refusals.ScheduleRefused.TheVariants.{BadCut}
use Rattle.power_schedule.specs.Cuts.{AreOrdered, is_early, judged, last_tick, schedule_of}
use Rattle.power_schedule.specs.Laws.{OrderedCutsAreTaken}
use Rattle.power_schedule.proofs.FirstIndex.{find-range, find-range_none}

-- a cut with one before it
pub is_early-behind : (cuts : List Cut) (index : ℕ) (d : Cut) → 0 < index → index < length cuts → is_early cuts index ≡ nat_le (get_or cuts index d).tick (last_tick (get_or cuts (index - 1) d))
is_early-behind cuts index d some within =
    let behind : nat_lt 0 index ≡ true = grind (arith, nat_tests) in
    rw (behind, slice_get-get_or cuts (index - 1) d (omega arith), slice_get-get_or cuts index d within) refl

-- the first cut has none before it
pub is_early-first : (cuts : List Cut) (index : ℕ) → index < 1 → is_early cuts index ≡ false
is_early-first cuts index first =
    let none : nat_lt 0 index ≡ false = grind (arith, nat_tests) in
    rw none refl

-- cuts of which none comes too early are in order
pub AreOrdered-from_none_early : (cuts : List Cut) → ((k : ℕ) → k < length cuts → is_early cuts k ≡ false) → AreOrdered cuts
AreOrdered-from_none_early cuts none k d within =
    let early : nat_le (get_or cuts (k + 1) d).tick (last_tick (get_or cuts (k + 1 - 1) d)) ≡ false = rw (← is_early-behind cuts (k + 1) d (omega arith) within) (none (k + 1) within) in
    let same : k + 1 - 1 ≡ k = omega arith in
    let late = rw same at early in
    grind (arith, nat_tests)

test_above : (a b : ℕ) → a < b → nat_le b a ≡ false
test_above a b above = grind (arith, nat_tests)

-- and of cuts that are in order none comes too early
none_early-from_AreOrdered : (cuts : List Cut) (index : ℕ) → AreOrdered cuts → index < length cuts → is_early cuts index ≡ false
none_early-from_AreOrdered cuts zero ordered within = is_early-first cuts 0 (omega arith)
none_early-from_AreOrdered cuts (suc k) ordered within =
    let none : Cut = record { tick = 0; writes = 0; off = 0 } in
    let above = ordered k none (omega arith) in
    let before : suc k - 1 ≡ k = omega arith in
    is_early-behind cuts (suc k) none (omega arith) within ∙ rw before (test_above _ _ (rw (add-one k) at above))

-- a cut behind the last one keeps the order
pub AreOrdered-push : (cuts : List Cut) (cut : Cut) → AreOrdered cuts → ((d : Cut) → 0 < length cuts → last_tick (get_or cuts (length cuts - 1) d) < cut.tick) → AreOrdered (cuts ++ cut ∷ [])
AreOrdered-push cuts cut ordered behind k d within =
    let count : length (cuts ++ cut ∷ []) ≡ length cuts + 1 = length-append cuts (cut ∷ []) in
    let room = rw count at within in
    elim (cases_lt (k + 1) (length cuts)) [
      | inl inside ↦ rw (get_or_append_left cuts (cut ∷ []) d k (omega arith), get_or_append_left cuts (cut ∷ []) d (k + 1) inside) (ordered k d inside)
      | inr past ↦
          let at : length cuts ≡ k + 1 = omega arith in
          let before : length cuts - 1 ≡ k = omega arith in
          rw (get_or_append_left cuts (cut ∷ []) d k (omega arith), get_or_push cuts cut d (k + 1) at) (rw before at behind d (omega arith))
    ]

-- their ticks rise
pub ticks_rise : (cuts : List Cut) → AreOrdered cuts → IsNonDecreasingBy (λ (cut : Cut). cut.tick) cuts
ticks_rise cuts ordered = IsNonDecreasingBy-from_all_adjacent (λ (cut : Cut). cut.tick) cuts (λ k d within. let above = ordered k d within in omega arith)

-- the schedule that cuts make
pub schedule_of-taken : (cuts : List Cut) → ((k : ℕ) → k < length cuts → is_early cuts k ≡ false) → schedule_of cuts ≡ Ok cuts
unfolding schedule_of
schedule_of-taken cuts none = ap (judged cuts) (find-range_none (is_early cuts) 0 (length cuts) (λ j l k. none j (omega arith)))

pub schedule_of-refused : (cuts : List Cut) (index : ℕ) → index < length cuts → ((k : ℕ) → k < index → is_early cuts k ≡ false) → is_early cuts index ≡ true → schedule_of cuts ≡ Err (BadCut index)
unfolding schedule_of
schedule_of-refused cuts index within none early = ap (judged cuts) (find-range (is_early cuts) 0 (length cuts) index (omega arith) (omega arith) (λ j l k. none j k) early)

pub ordered_cuts_are_taken : OrderedCutsAreTaken
ordered_cuts_are_taken cuts ordered = schedule_of-taken cuts (λ k within. none_early-from_AreOrdered cuts k ordered within)
