-- How borders divide main FRAM.
use Rattle.std.proofs.Common.{◌≡◌, ◌<◌, ◌≤◌, ℕ, ◌*◌, ◌%◌, nat_le, nat_lt, arith, ap, ◌∙◌, inl, inr, if◌then◌else◌}
use Rattle.std.proofs.lemmas.Bool.{cases_lt}
use Rattle.std.proofs.lemmas.Bool.Decides.{nat_tests}
use Rattle.chip_words.specs.declared.segments.Segment.{Segment}
use Rattle.chip_words.specs.declared.segments.Segment.TheVariants.{One, Two, Three, Info}
use Rattle.chip_words.specs.Mpu.{Mpu, segment_at}
use Rattle.chip_words.specs.Segments.{border}
use Rattle.right_laws.specs.Locks.{HasWholeBorders}
use Rattle.right_laws.specs.Places.{CrossedBordersLeaveNoTwo, InformationIsInfo, LiesCrossed, LiesInOrder, SegmentsLieInOrder, first_border, second_border}

pub information_is_info : InformationIsInfo
information_is_info mpu at low = grind (arith, nat_tests)

-- the segment by the addresses of the borders
abbrev divided : ℕ → ℕ → ℕ → Segment
divided first second at =
    if nat_lt at 0x4400 then Info else if nat_le second at then Three else if nat_le first at then Two else One

below_both : (first second at : ℕ) → 0x4400 ≤ at → at < second → at < first → divided first second at ≡ One
below_both first second at main low lower = grind (arith, nat_tests)

between : (first second at : ℕ) → 0x4400 ≤ at → at < second → first ≤ at → divided first second at ≡ Two
between first second at main low high = grind (arith, nat_tests)

above : (first second at : ℕ) → 0x4400 ≤ at → second ≤ at → divided first second at ≡ Three
above first second at main high = grind (arith, nat_tests)

whole_border : (register : ℕ) → register % 64 ≡ 0 → border register ≡ register * 16
whole_border register is = omega arith

by_borders :
    (mpu : Mpu) (at : ℕ) → HasWholeBorders mpu → segment_at mpu at ≡ divided (first_border mpu) (second_border mpu) at
by_borders mpu at is =
    ap (λ first. divided first (border mpu.mpusegb2) at) (whole_border mpu.mpusegb1 is.first)
    ∙ ap (λ second. divided (first_border mpu) second at) (whole_border mpu.mpusegb2 is.second)

pub segments_lie_in_order : SegmentsLieInOrder
segments_lie_in_order mpu at is order main =
    let by = by_borders mpu at is in
    let first = first_border mpu in
    let second = second_border mpu in
    elim (cases_lt at first) as (λ _. LiesInOrder mpu at) [
      | inl low ↦
          let here = by ∙ below_both first second at main (omega arith) low in
          record {
            one = (λ e. low, λ h. here);
            two = (λ e. cc, λ h. absurd (omega arith));
            three = (λ e. cc, λ h. absurd (omega arith));
          }
      | inr high ↦
          elim (cases_lt at second) as (λ _. LiesInOrder mpu at) [
            | inl low ↦
                let here = by ∙ between first second at main low high in
                record {
                  one = (λ e. cc, λ h. absurd (omega arith));
                  two = (λ e. (high, low), λ h. here);
                  three = (λ e. cc, λ h. absurd (omega arith));
                }
            | inr top ↦
                let here = by ∙ above first second at main top in
                record {
                  one = (λ e. cc, λ h. absurd (omega arith));
                  two = (λ e. cc, λ h. absurd (omega arith));
                  three = (λ e. top, λ h. here);
                }
          ]
    ]

pub crossed_borders_leave_no_two : CrossedBordersLeaveNoTwo
crossed_borders_leave_no_two mpu at is order main =
    let by = by_borders mpu at is in
    let first = first_border mpu in
    let second = second_border mpu in
    elim (cases_lt at second) as (λ _. LiesCrossed mpu at) [
      | inl low ↦
          let here = by ∙ below_both first second at main low (omega arith) in
          record { one = (λ e. low, λ h. here); two = λ e. cc; three = (λ e. cc, λ h. absurd (omega arith)) }
      | inr top ↦
          let here = by ∙ above first second at main top in
          record { one = (λ e. cc, λ h. absurd (omega arith)); two = λ e. cc; three = (λ e. top, λ h. here) }
    ]
