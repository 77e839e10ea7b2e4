-- Which address of FRAM is of which segment.
use Rattle.std.specs.Prelude.{◌≡◌, ◌≢◌, ◌<◌, ◌≤◌, ◌↔◌, ℕ, ◌*◌}
use Rattle.chip_words.specs.declared.segments.Segment.TheVariants.{One, Two, Three, Info}
use Rattle.chip_words.specs.Mpu.{Mpu, segment_at}
use Rattle.right_laws.specs.Locks.{HasWholeBorders}

-- the address of the first border
abbrev pub first_border : Mpu → ℕ
first_border mpu = mpu.mpusegb1 * 16

-- and of the second
abbrev pub second_border : Mpu → ℕ
second_border mpu = mpu.mpusegb2 * 16

-- main FRAM begins here
abbrev pub main_begin : ℕ
main_begin = 0x4400

-- the segments of an address of main FRAM, where the borders are in order
pub record LiesInOrder (mpu : Mpu) (at : ℕ) : Type 0 where
  pub one : (segment_at mpu at ≡ One) ↔ (at < first_border mpu)
  pub two : (segment_at mpu at ≡ Two) ↔ ((first_border mpu ≤ at) × (at < second_border mpu))
  pub three : (segment_at mpu at ≡ Three) ↔ (second_border mpu ≤ at)

-- so for every such address
abbrev pub SegmentsLieInOrder : Type 0
SegmentsLieInOrder =
    (mpu : Mpu) (at : ℕ) → HasWholeBorders mpu → first_border mpu ≤ second_border mpu → main_begin ≤ at →
    LiesInOrder mpu at

-- the segments of an address of main FRAM, where the first border is above the second
pub record LiesCrossed (mpu : Mpu) (at : ℕ) : Type 0 where
  pub one : (segment_at mpu at ≡ One) ↔ (at < second_border mpu)
  pub two : segment_at mpu at ≢ Two
  pub three : (segment_at mpu at ≡ Three) ↔ (second_border mpu ≤ at)

-- so for every such address
abbrev pub CrossedBordersLeaveNoTwo : Type 0
CrossedBordersLeaveNoTwo =
    (mpu : Mpu) (at : ℕ) → HasWholeBorders mpu → second_border mpu < first_border mpu → main_begin ≤ at →
    LiesCrossed mpu at

-- FRAM below main FRAM is information FRAM
abbrev pub InformationIsInfo : Type 0
InformationIsInfo = (mpu : Mpu) (at : ℕ) → at < main_begin → segment_at mpu at ≡ Info
