-- Where the area of the encapsulation and its seal lie.
use Rattle.std.specs.Prelude.{◌≡◌, ◌<◌, ◌≤◌, ◌↔◌, ◌⊎◌, ℕ, true, false}
use Rattle.chip_words.specs.Bits.{has_bit}
use Rattle.chip_words.specs.Encap.{Encap, MPUIPENA, MPUIPLOCK, area, seal}
use Rattle.chip_words.specs.Seals.{is_in}
use Rattle.chip_words.specs.Segments.{border}

-- the address of the first border
abbrev pub area_begin : Encap → ℕ
area_begin encap = border encap.mpuipsegb1

-- and of the second
abbrev pub area_end : Encap → ℕ
area_end encap = border encap.mpuipsegb2

-- the area is there, and the address lies between the borders, in main FRAM, and is no signature or vector
pub record LiesInArea (encap : Encap) (at : ℕ) : Type 0 where
  pub enabled : has_bit encap.mpuipc0 MPUIPENA ≡ true
  pub above : area_begin encap ≤ at
  pub below : at < area_end encap
  pub main : (0x4400 ≤ at) × (at < 0x14000)
  pub not_vector : (at < 0xFF80) ⊎ (0xFFFF < at)

-- the area holds exactly these addresses
abbrev pub AreaLiesBetweenBorders : Type 0
AreaLiesBetweenBorders = (encap : Encap) (at : ℕ) → (is_in (area encap) at ≡ true) ↔ LiesInArea encap at

-- the seal is the area where MPUIPLOCK is set, and holds nothing where it is clear
pub record SealIsLockedArea : Type 0 where
  pub locked : (encap : Encap) → has_bit encap.mpuipc0 MPUIPLOCK ≡ true → seal encap ≡ area encap
  pub unlocked :
      (encap : Encap) (at : ℕ) → has_bit encap.mpuipc0 MPUIPLOCK ≡ false → is_in (seal encap) at ≡ false

-- areas that hold the same addresses are equal, and so are seals
pub record AreasGoByAddresses : Type 0 where
  pub areas :
      (one other : Encap) → ((at : ℕ) → is_in (area one) at ≡ is_in (area other) at) → area one ≡ area other
  pub seals :
      (one other : Encap) → ((at : ℕ) → is_in (seal one) at ≡ is_in (seal other) at) → seal one ≡ seal other
