-- What leaves a seal for another lies between the holes of the first.
use Rattle.std.proofs.Common.{◌≡◌, ℕ, Bool, false, not, ◌&&◌, ◌||◌, ◌<◌, ◌≤◌, ◌-◌, min, max, [], ◌∷◌, ◌++◌, append_assoc, refl, sym, ◌∙◌, arith}
use Rattle.std.specs.Prelude.{nat_lt}
use Rattle.std.proofs.lemmas.Bool.Decides.{nat_tests}
use Rattle.chip_words.specs.declared.seals.Seal.{Seal}
use Rattle.chip_words.specs.Seals.{BEHIND_MAIN_FRAM, is_in, is_never_sealed}
use Rattle.chip_words.specs.Segments.{MAIN_FRAM}
use Rattle.ip_encap.specs.declared.intervals.Interval.{Interval}
use Rattle.ip_encap.specs.Opened.{is_left, opened}
use Rattle.ip_encap.specs.Pieces.{AreHoles, has, is_bounded, piece}
use Rattle.ip_encap.proofs.Passing.{intervals_from-later}
use Rattle.ip_encap.proofs.Holes.{Ascend, IsHoled, intervals_from-holed, pieces_of}

-- an address from which on the first seal bounds some leaves it where it lies in no hole
is_left-holes : (before after : Seal) (at : ℕ) (in_first in_second : Bool) → max before.low MAIN_FRAM ≤ at → (in_first || in_second) ≡ (is_never_sealed at || is_bounded after at) → is_left before after at ≡ (nat_lt at (min before.high BEHIND_MAIN_FRAM) && not (in_first || (in_second || false)))
unfolding is_in
is_left-holes before after at in_first in_second l h = grind (arith, nat_tests)

is_left-below : (before after : Seal) (at : ℕ) → at < max before.low MAIN_FRAM → is_left before after at ≡ false
unfolding is_in
is_left-below before after at h = grind (arith, nat_tests)

ascending_holes : (seal : Seal) (first second : Interval) → AreHoles seal first second → Ascend (first ∷ second ∷ [])
ascending_holes seal first second holes =
    let order = holes.ascending in
    (holes.first_has_some, λ at l h. grind (arith, nat_tests), (holes.second_has_some, λ at l h. refl, tt))

-- the pieces below two holes, between them and above
pieces_of-two : (low high between above : ℕ) (first second : Interval) → between ≡ max low first.high → above ≡ max between second.high → pieces_of low high (first ∷ second ∷ []) ≡ (piece low (min high first.low) ++ piece between (min high second.low)) ++ piece above high
pieces_of-two low high between above first second is_between is_above =
    rw (is_above, is_between) (sym (append_assoc (piece low (min high first.low)) (piece (max low first.high) (min high second.low)) (piece (max (max low first.high) second.high) high)))

-- what leaves the first seal, where two holes have what the second bounds and what is never sealed
pub opened-holes : (before after : Seal) (first second : Interval) (low high between above : ℕ) → low ≡ max before.low MAIN_FRAM → high ≡ min before.high BEHIND_MAIN_FRAM → between ≡ max low first.high → above ≡ max between second.high → AreHoles after first second → opened before after ≡ (piece low (min high first.low) ++ piece between (min high second.low)) ++ piece above high
unfolding opened
opened-holes before after first second low high between above is_low is_high is_between is_above holes =
    let test = is_left before after in
    let start : ℕ = MAIN_FRAM - 1 in
    let below = is_left-below before after in
    let holed : IsHoled test start low high (first ∷ second ∷ []) = record {
      order = omega arith;
      within = omega arith;
      here = below start (omega arith);
      below = λ at l h. below at (omega arith);
      above = λ at l. rw is_high (is_left-holes before after at (has first at) (has second at) (omega arith) (holes.addresses at));
    } in
    let from_start = intervals_from-later test start MAIN_FRAM (omega arith) (omega arith) (λ at l h. below at (omega arith)) in
    let pieces = intervals_from-holed test start low high (first ∷ second ∷ []) (omega arith) (ascending_holes after first second holes) holed in
    sym from_start ∙ pieces ∙ pieces_of-two low high between above first second is_between is_above
