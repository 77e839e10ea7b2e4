-- The power of a tick by the last cut that has begun.
use Rattle.std.proofs.Common.{◌≡◌, ◌∙◌, add-one, ℕ, zero, suc, false, ◌<◌, ◌≤◌, ◌-◌, List, [], ◌∷◌, length, get_or, take, find, None, refl, ap, sym, arith}
use Rattle.std.proofs.lemmas.Bool.Decides.{nat_tests}
use Rattle.std.proofs.lemmas.List.{get_or-take, length-take-le}
use Rattle.power_schedule.specs.declared.cuts.Cut.{Cut}
use Rattle.power_schedule.specs.declared.powers.Power.TheVariants as power
use Rattle.power_schedule.specs.Cuts.{AreOrdered, HaveBegun, last_tick}
use Rattle.power_schedule.specs.Powers.{is_within, power_at, power_by}
use native.Mathlib.Numerals.{unary_clauses}

not_begun : (tick : ℕ) (cut : Cut) → tick < cut.tick → is_within tick cut ≡ false
not_begun tick cut later = grind (arith, nat_tests)

pub over : (tick : ℕ) (cut next : Cut) → last_tick cut < next.tick → next.tick ≤ tick → is_within tick cut ≡ false
over tick cut next above begun = grind (arith, nat_tests)

pub AreOrdered-tail : (cut : Cut) (cuts : List Cut) → AreOrdered (cut ∷ cuts) → AreOrdered cuts
AreOrdered-tail cut cuts ordered k d within = rw (add-one k) (simp unary_clauses at (ordered (suc k) d (omega arith)))

pub find-none_begun : (tick : ℕ) (cuts : List Cut) → HaveBegun tick cuts 0 → find (is_within tick) cuts ≡ None
find-none_begun tick [] begun = refl
find-none_begun tick (cut ∷ cuts) begun =
    rw (not_begun tick cut (begun.1 0 cut (omega arith) (omega arith)))
    (find-none_begun tick cuts (λ k d l h. absurd (omega arith), λ k d l h. begun.1 (suc k) d (omega arith) (omega arith)))

-- the stretches of all but the last cut that has begun are over
pub find-last_begun : (tick : ℕ) (cuts : List Cut) (n : ℕ) (last : Cut) → AreOrdered cuts → n < length cuts → HaveBegun tick cuts (suc n) → last ≡ get_or cuts n last → find (is_within tick) cuts ≡ find (is_within tick) (last ∷ [])
find-last_begun tick [] n last ordered within begun is = absurd (omega arith)
find-last_begun tick (cut ∷ cuts) zero last ordered within begun is =
    let rest = find-none_begun tick cuts (λ k d l h. absurd (omega arith), λ k d l h. begun.1 (suc k) d (omega arith) (omega arith)) in
    rw (is, rest) refl
find-last_begun tick (cut ∷ []) (suc n) last ordered within begun is = absurd (omega arith)
find-last_begun tick (cut ∷ next ∷ cuts) (suc n) last ordered within begun is =
    let later = find-last_begun tick (next ∷ cuts) n last (AreOrdered-tail cut (next ∷ cuts) ordered) (omega arith) (λ k d l h. begun.0 (suc k) d (omega arith) (omega arith), λ k d l h. begun.1 (suc k) d (omega arith) (omega arith)) is in
    rw (over tick cut next (ordered 0 cut (omega arith)) (begun.0 1 cut (omega arith) (omega arith))) later

-- the last cut that has begun, as the last of those taken
taken_last : (cuts : List Cut) (n : ℕ) (last : Cut) → suc n ≤ length cuts → last ≡ get_or (take (suc n) cuts) (length (take (suc n) cuts) - 1) last → last ≡ get_or cuts n last
taken_last cuts n last within is =
    let count : length (take (suc n) cuts) ≡ suc n = length-take-le (suc n) cuts within in
    let before : suc n - 1 ≡ n = omega arith in
    rw (count, before) at is ∙ get_or-take (suc n) cuts n last (omega arith)

pub power_at-none_begun : (tick : ℕ) (cuts : List Cut) (n : ℕ) → n ≤ length cuts → HaveBegun tick cuts n → length (take n cuts) ≤ 0 → power.On ≡ power_at cuts tick
unfolding power_at
power_at-none_begun tick cuts zero within begun none = ap (power_by tick) (sym (find-none_begun tick cuts begun))
power_at-none_begun tick [] (suc n) within begun none = absurd (omega arith)
power_at-none_begun tick (cut ∷ cuts) (suc n) within begun none = absurd (omega arith)

pub power_at-last_begun : (tick : ℕ) (cuts : List Cut) (n : ℕ) (last : Cut) → AreOrdered cuts → n ≤ length cuts → HaveBegun tick cuts n → 0 < length (take n cuts) → last ≡ get_or (take n cuts) (length (take n cuts) - 1) last → power_at (last ∷ []) tick ≡ power_at cuts tick
unfolding power_at
power_at-last_begun tick cuts zero last ordered within begun some is = absurd (omega arith)
power_at-last_begun tick cuts (suc n) last ordered within begun some is =
    ap (power_by tick) (sym (find-last_begun tick cuts n last ordered (omega arith) begun (taken_last cuts n last within is)))

-- it has begun
pub last_begun-begun : (tick : ℕ) (cuts : List Cut) (n : ℕ) (last : Cut) → n ≤ length cuts → HaveBegun tick cuts n → 0 < length (take n cuts) → last ≡ get_or (take n cuts) (length (take n cuts) - 1) last → last.tick ≤ tick
last_begun-begun tick cuts zero last within begun some is = absurd (omega arith)
last_begun-begun tick cuts (suc n) last within begun some is =
    let begun_then : (get_or cuts n last).tick ≤ tick = begun.0 n last (omega arith) (omega arith) in
    rw (← taken_last cuts n last within is) at begun_then
