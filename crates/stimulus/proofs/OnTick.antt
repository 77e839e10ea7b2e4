-- The events of one tick, among events whose ticks don't fall.
use Rattle.std.proofs.Common.{◌≡◌, ℕ, zero, suc, true, false, ◌==◌, nat_le, nat_lt, ◌-◌, ◌<◌, ◌≤◌, List, [], ◌∷◌, length, get_or, take, drop, inl, inr, refl, ap, arith}
use Rattle.std.specs.Prelude.{◌≢◌}
use Rattle.std.proofs.lemmas.Bool.{cases_Bool}
use Rattle.std.proofs.lemmas.Bool.Decides.{nat_tests}
use Rattle.std.specs.List.Sorted.{IsNonDecreasingBy, IsPartitionPoint}
use Rattle.stimulus.specs.declared.events.Event.{Event}
use Rattle.stimulus.specs.Events.{HasNoneWithin, IsEnd, IsStart, on_tick}

test_earlier : (a b : ℕ) → a < b → (a == b) ≡ false
test_earlier a b h = grind (arith, nat_tests)

test_later : (a b : ℕ) → b < a → (a == b) ≡ false
test_later a b h = grind (arith, nat_tests)

test_now : (a b : ℕ) → b ≤ a → a ≤ b → (a == b) ≡ true
test_now a b g h = grind (arith, nat_tests)

-- where the first `n` are the ones at the tick, and no event is before it
front : (tick : ℕ) (events : List Event) (n : ℕ) → n ≤ length events → IsStart tick events 0 → IsEnd tick events n → take n events ≡ on_tick tick events
unfolding on_tick
front tick [] zero room start end = refl
front tick [] (suc n) room start end = absurd (omega arith)
front tick (e ∷ events) zero room start end =
    let later = front tick events 0 (omega arith) (λ k d l h. absurd (omega arith), λ k d l h. start.1 (suc k) d (omega arith) (omega arith)) (λ k d l h. absurd (omega arith), λ k d l h. end.1 (suc k) d (omega arith) (omega arith)) in
    rw (test_later e.tick tick (end.1 0 e (omega arith) (omega arith))) later
front tick (e ∷ events) (suc n) room start end =
    let later = front tick events n (omega arith) (λ k d l h. absurd (omega arith), λ k d l h. start.1 (suc k) d (omega arith) (omega arith)) (λ k d l h. end.0 (suc k) d (omega arith) (omega arith), λ k d l h. end.1 (suc k) d (omega arith) (omega arith)) in
    rw (test_now e.tick tick (start.1 0 e (omega arith) (omega arith)) (end.0 0 e (omega arith) (omega arith))) (ap (λ rest. e ∷ rest) later)

-- what the two searches find is what stands on the tick
pub on_tick-found : (tick : ℕ) (events : List Event) (start n : ℕ) → start ≤ length events → n ≤ length (drop start events) → IsStart tick events start → IsEnd tick (drop start events) n → take n (drop start events) ≡ on_tick tick events
unfolding on_tick
on_tick-found tick events zero n room more begins ends = front tick events n more begins ends
on_tick-found tick [] (suc start) n room more begins ends = absurd (omega arith)
on_tick-found tick (e ∷ events) (suc start) n room more begins ends =
    let later = on_tick-found tick events start n (omega arith) more (λ k d l h. begins.0 (suc k) d (omega arith) (omega arith), λ k d l h. begins.1 (suc k) d (omega arith) (omega arith)) ends in
    rw (test_earlier e.tick tick (begins.0 0 e (omega arith) (omega arith))) later

-- a place is the start where the event before it comes before the tick, and the one at it doesn't
pub start_is :
    (tick : ℕ) (events : List Event) (place : ℕ) → IsNonDecreasingBy (λ (event : Event). event.tick) events →
    ((d : Event) → 0 < place → (get_or events (place - 1) d).tick < tick) →
    ((d : Event) → place < length events → tick ≤ (get_or events place d).tick) → place ≤ length events → IsStart tick events place
start_is tick events place sorted before behind within = (
  λ k d l h.
      let below = sorted k (place - 1) d (omega arith) (omega arith) in
      let last = before d (omega arith) in
      omega arith,
  λ k d l h.
      let above = sorted place k d (omega arith) (omega arith) in
      let first = behind d (omega arith) in
      omega arith,
)

-- where the first event comes behind the tick, all do
pub none_up_to :
    (tick : ℕ) (events : List Event) → IsNonDecreasingBy (λ (event : Event). event.tick) events →
    ((d : Event) → 0 < length events → tick < (get_or events 0 d).tick) → IsEnd tick events 0
none_up_to tick events sorted first = (
  λ k d l h. absurd (omega arith),
  λ k d l h.
      let above = sorted 0 k d (omega arith) (omega arith) in
      let least = first d (omega arith) in
      omega arith,
)

earlier : (a b : ℕ) → nat_lt a b ≡ true → a < b
earlier a b held = grind (arith, nat_tests)

not_earlier : (a b : ℕ) → nat_lt a b ≡ false → b ≤ a
not_earlier a b held = grind (arith, nat_tests)

at_most : (a b : ℕ) → nat_le a b ≡ true → a ≤ b
at_most a b held = grind (arith, nat_tests)

above : (a b : ℕ) → nat_le a b ≡ false → b < a
above a b held = grind (arith, nat_tests)

-- what a search for the first event that doesn't come before the tick finds
pub start_found : (tick : ℕ) (events : List Event) (count : ℕ) → IsPartitionPoint (λ (event : Event). nat_lt event.tick tick ≡ true) (λ (event : Event). nat_lt event.tick tick ≡ false) events count → IsStart tick events count
start_found tick events count point = (λ k d l h. earlier _ _ (point.0 k d l h), λ k d l h. not_earlier _ _ (point.1 k d l h))

-- and one for the first that comes behind it
pub end_found : (tick : ℕ) (events : List Event) (count : ℕ) → IsPartitionPoint (λ (event : Event). nat_le event.tick tick ≡ true) (λ (event : Event). nat_le event.tick tick ≡ false) events count → IsEnd tick events count
end_found tick events count point = (λ k d l h. at_most _ _ (point.0 k d l h), λ k d l h. above _ _ (point.1 k d l h))

-- events of which the first ones come before the tick, and all others behind it, have none on it
none_found :
    (tick : ℕ) (events : List Event) (place : ℕ) →
    ((k : ℕ) (d : Event) → k < place → k < length events → (get_or events k d).tick < tick) →
    ((k : ℕ) (d : Event) → place ≤ k → k < length events → tick < (get_or events k d).tick) → on_tick tick events ≡ []
unfolding on_tick
none_found tick [] place before behind = refl
none_found tick (e ∷ events) zero before behind =
    let rest = none_found tick events 0 (λ k d l h. absurd (omega (arith, l))) (λ k d l h. behind (suc k) d (omega arith) (omega (arith, h))) in
    rw (test_later e.tick tick (behind 0 e (omega arith) (omega arith))) rest
none_found tick (e ∷ events) (suc place) before behind =
    let rest = none_found tick events place (λ k d l h. before (suc k) d (omega (arith, l)) (omega (arith, h))) (λ k d l h. behind (suc k) d (omega (arith, l)) (omega (arith, h))) in
    rw (test_earlier e.tick tick (before 0 e (omega arith) (omega arith))) rest

-- so none stands on a tick behind the one that a place is the start of, up to that of the event at the place
pub none_within :
    (tick to : ℕ) (events : List Event) (place : ℕ) → IsNonDecreasingBy (λ (event : Event). event.tick) events →
    IsStart tick events place → ((d : Event) → place < length events → to ≤ (get_or events place d).tick) → HasNoneWithin tick to events
none_within tick to events place sorted start next t from below =
    none_found t events place
    (λ k d l h.
    let before = start.0 k d (omega arith) l in
    omega arith)
    (λ k d l h.
    let above = sorted place k d l h in
    let first = next d (omega arith) in
    omega arith)

-- an event stands on its own tick
pub some_at : (events : List Event) (place : ℕ) (d : Event) → place < length events → on_tick (get_or events place d).tick events ≢ []
unfolding on_tick
some_at [] place d within none = absurd (omega arith)
some_at (e ∷ events) zero d within none =
    let held = rw (test_now e.tick e.tick (omega arith) (omega arith)) at none in
    cc
some_at (e ∷ events) (suc place) d within none = elim (cases_Bool (e.tick == (get_or events place d).tick)) [
  | inl same ↦
      let held = rw same at none in
      cc
  | inr other ↦ some_at events place d (omega arith) (rw other at none)
]
