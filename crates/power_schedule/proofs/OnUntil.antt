-- How long power stays on, by the last cut that has begun and the one behind it.
use Rattle.std.proofs.Common.{◌≡◌, ℕ, ◌+◌, ◌-◌, ◌<◌, ◌≤◌, List, length, get_or, inl, inr, arith}
use Rattle.std.specs.Prelude.{◌≢◌}
use Rattle.std.proofs.lemmas.Bool.{cases_lt}
use Rattle.std.proofs.lemmas.List.{get_or_default}
use Rattle.power_schedule.specs.declared.cuts.Cut.{Cut}
use Rattle.power_schedule.specs.declared.powers.Power.TheVariants as power
use Rattle.power_schedule.specs.Cuts.{AreOrdered, last_tick}
use Rattle.power_schedule.specs.Powers.{IsOnWithin, power_at}
use Rattle.power_schedule.proofs.Done.{each_cut_is_done, outside_is_on}
use Rattle.power_schedule.proofs.Order.{ticks_rise}

-- where the last of some cuts is over, so is each of them
all_over : (tick : ℕ) (cuts : List Cut) (n k : ℕ) (d : Cut) → AreOrdered cuts → n ≤ length cuts → k < n → last_tick (get_or cuts (n - 1) d) < tick → last_tick (get_or cuts k d) < tick
all_over tick cuts n k d ordered room before over = elim (cases_lt (k + 1) n) [
  | inl inside ↦
      let next = ordered k d (omega arith) in
      let rise = ticks_rise cuts ordered (k + 1) (n - 1) d (omega arith) (omega arith) in
      omega arith
  | inr last ↦
      let same : n - 1 ≡ k = omega arith in
      rw same at over
]

-- where the last cut that has begun is over, power is on up to the tick of the next one
pub on_within : (tick to : ℕ) (cuts : List Cut) (n : ℕ) (d : Cut) → AreOrdered cuts → n ≤ length cuts → (0 < n → last_tick (get_or cuts (n - 1) d) < tick) → (n < length cuts → to ≤ (get_or cuts n d).tick) → IsOnWithin tick to cuts
on_within tick to cuts n d ordered room over next t from before =
    outside_is_on cuts t (λ k e inside. rw (get_or_default cuts k e d inside) (elim (cases_lt k n) [
      | inl begun ↦
          let gone = all_over tick cuts n k d ordered room begun (over (omega arith)) in
          inr (omega arith)
      | inr later ↦
          let first = next (omega arith) in
          let rise = ticks_rise cuts ordered n k d later inside in
          inl (omega arith)
    ]))

-- power isn't on at the tick of a cut
pub not_on_at_cut : (tick : ℕ) (cuts : List Cut) (n : ℕ) (d : Cut) → AreOrdered cuts → n < length cuts → tick ≡ (get_or cuts n d).tick → power_at cuts tick ≢ power.On
not_on_at_cut tick cuts n d ordered inside at on =
    let done = (each_cut_is_done cuts ordered n d inside).is_cut in
    let cut = rw at at on in
    cc

-- nor behind it in its stretch
pub not_on_in_stretch : (tick : ℕ) (cuts : List Cut) (n : ℕ) (d : Cut) → AreOrdered cuts → n < length cuts → (get_or cuts n d).tick ≤ tick → tick ≤ last_tick (get_or cuts n d) → power_at cuts tick ≢ power.On
not_on_in_stretch tick cuts n d ordered inside begun held on = elim (cases_lt (get_or cuts n d).tick tick) [
  | inl behind ↦
      let off = (each_cut_is_done cuts ordered n d inside).is_off tick behind held in
      cc
  | inr own ↦ not_on_at_cut tick cuts n d ordered inside (omega arith) on
]
