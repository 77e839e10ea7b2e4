-- A cut that comes behind others, and cuts that are in order.
use Rattle.std.proofs.Common.{◌≡◌, not, IsTrue, ◌-◌, ◌<◌, nat_le, List, [], ◌∷◌, ◌++◌, length, get_or, Some, arith}
use Rattle.std.proofs.lemmas.Bool.Decides.{nat_tests}
use Rattle.std.proofs.lemmas.Option.{slice_get-get_or}
use Rattle.power_schedule.specs.declared.cuts.Cut.{Cut}
use Rattle.power_schedule.specs.Cuts.{AreOrdered, last_tick}
use Rattle.power_schedule.proofs.Order.{AreOrdered-push}
use Rattle.stimulus.specs.Cuts.{comes_behind, last_cut}

-- a cut that comes behind others is above the stretch of the last
above_last : (cuts : List Cut) (cut d : Cut) → IsTrue (comes_behind cuts cut) → 0 < length cuts → last_tick (get_or cuts (length cuts - 1) d) < cut.tick
unfolding comes_behind
above_last cuts cut d behind some =
    let last : last_cut cuts ≡ Some (get_or cuts (length cuts - 1) d) = slice_get-get_or cuts (length cuts - 1) d (omega arith) in
    let late : IsTrue (not (nat_le cut.tick (last_tick (get_or cuts (length cuts - 1) d)))) = rw last at behind in
    grind (arith, nat_tests)

-- and it keeps the order
pub AreOrdered-behind : (cuts : List Cut) (cut : Cut) → AreOrdered cuts → IsTrue (comes_behind cuts cut) → AreOrdered (cuts ++ cut ∷ [])
AreOrdered-behind cuts cut ordered behind = AreOrdered-push cuts cut ordered (λ d some. above_last cuts cut d behind some)
