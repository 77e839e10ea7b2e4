-- Where the area and the seal lie.
use Rattle.std.proofs.Common.{◌≡◌, ◌<◌, ◌≤◌, ◌⊎◌, ℕ, ◌-◌, ◌%◌, ◌&&◌, not, nat_le, nat_lt, max, min, Bool, true, false, arith, refl, ap, sym, subst, ◌∙◌, inl, inr, if◌then◌else◌}
use Rattle.std.proofs.lemmas.Bool.{cases_lt}
use Rattle.std.proofs.lemmas.Bool.Decides.{nat_tests}
use Rattle.chip_words.specs.declared.seals.Seal.{Seal}
use Rattle.chip_words.specs.Bits.{has_bit}
use Rattle.chip_words.specs.Encap.{Encap, MPUIPENA, MPUIPLOCK, area, seal}
use Rattle.chip_words.specs.Seals.{between, holds_any, is_in, nowhere}
use Rattle.chip_words.specs.Segments.{border}
use Rattle.right_laws.specs.Areas.{AreaLiesBetweenBorders, AreasGoByAddresses, LiesInArea, SealIsLockedArea, area_begin, area_end}

-- ---- what the area holds

-- the area by its test
abbrev area_if : Bool → Encap → Seal
area_if enabled encap = if enabled then between (area_begin encap) (area_end encap) else nowhere

by_enabled :
    (encap : Encap) (enabled : Bool) → has_bit encap.mpuipc0 MPUIPENA ≡ enabled → area encap ≡ area_if enabled encap
unfolding area
by_enabled encap enabled e = ap (λ b. area_if b encap) e

nowhere_holds : (at : ℕ) → is_in nowhere at ≡ false
unfolding is_in
nowhere_holds at = grind (arith, nat_tests)

-- an address lies from one up to and without another, in main FRAM, and is no signature or vector
record LiesBetween (low high at : ℕ) : Type 0 where
  above : low ≤ at
  below : at < high
  main : (0x4400 ≤ at) × (at < 0x14000)
  not_vector : (at < 0xFF80) ⊎ (0xFFFF < at)

-- the four tests of an address
abbrev held_by : ℕ → ℕ → ℕ → Bool
held_by low high at =
    nat_le low at && nat_lt at high && (nat_le 0x4400 at && nat_lt at 0x14000)
    && not (nat_le 0xFF80 at && nat_le at 0xFFFF)

lies : (low high at : ℕ) → held_by low high at ≡ true → LiesBetween low high at
lies low high at held = record {
  above = grind (arith, nat_tests);
  below = grind (arith, nat_tests);
  main = (grind (arith, nat_tests), grind (arith, nat_tests));
  not_vector = side (cases_lt at 0xFF80);
}
  where
    side : (at < 0xFF80) ⊎ (0xFF80 ≤ at) → (at < 0xFF80) ⊎ (0xFFFF < at)
    side (inl low) = inl low
    side (inr high) = inr (grind (arith, nat_tests))

is_held : (low high at : ℕ) → LiesBetween low high at → held_by low high at ≡ true
is_held low high at is = vectors is.not_vector
  where
    vectors : (at < 0xFF80) ⊎ (0xFFFF < at) → held_by low high at ≡ true
    vectors (inl before) = grind (arith, nat_tests, is.above, is.below, is.main.0, is.main.1)
    vectors (inr behind) = grind (arith, nat_tests, is.above, is.below, is.main.0, is.main.1)

lies_between : (low high at : ℕ) → is_in (between low high) at ≡ true → LiesBetween low high at
unfolding is_in
lies_between low high at held = by_any (holds_any low high) held
  where
    by_any :
        (any : Bool) →
        held_by (if any then max low 0x4400 else 0) (if any then min high 0x14000 else 0) at ≡ true →
        LiesBetween low high at
    by_any true held =
        let is = lies (max low 0x4400) (min high 0x14000) at held in
        record {
          above = omega (arith, is.above);
          below = omega (arith, is.below);
          main = is.main;
          not_vector = is.not_vector;
        }
    by_any false held =
        let is = lies 0 0 at held in
        absurd (omega (arith, is.below))

held_between : (low high at : ℕ) → LiesBetween low high at → is_in (between low high) at ≡ true
unfolding is_in
held_between low high at is =
    let any : holds_any low high ≡ true = grind (arith, nat_tests, is.above, is.below, is.main.0, is.main.1) in
    ap (λ b. held_by (if b then max low 0x4400 else 0) (if b then min high 0x14000 else 0) at) any
    ∙ is_held (max low 0x4400) (min high 0x14000) at (record {
      above = omega (arith, is.above, is.main.0);
      below = omega (arith, is.below, is.main.1);
      main = is.main;
      not_vector = is.not_vector;
    })

holds :
    (encap : Encap) (at : ℕ) (enabled : Bool) → has_bit encap.mpuipc0 MPUIPENA ≡ enabled →
    is_in (area encap) at ≡ true → LiesInArea encap at
holds encap at true e inside =
    let is =
    lies_between (area_begin encap) (area_end encap) at
    (ap (λ held. is_in held at) (sym (by_enabled encap true e)) ∙ inside) in
    record { enabled = e; above = is.above; below = is.below; main = is.main; not_vector = is.not_vector }
holds encap at false e inside =
    let none = ap (λ held. is_in held at) (by_enabled encap false e) ∙ nowhere_holds at in
    cc

is_held_by_area : (encap : Encap) (at : ℕ) → LiesInArea encap at → is_in (area encap) at ≡ true
is_held_by_area encap at is =
    ap (λ held. is_in held at) (by_enabled encap true is.enabled)
    ∙ held_between (area_begin encap) (area_end encap) at (record {
      above = is.above;
      below = is.below;
      main = is.main;
      not_vector = is.not_vector;
    })

pub area_lies_between_borders : AreaLiesBetweenBorders
area_lies_between_borders encap at =
    (holds encap at (has_bit encap.mpuipc0 MPUIPENA) refl, is_held_by_area encap at)

-- ---- the seal

-- the seal by its test
abbrev seal_if : Bool → Encap → Seal
seal_if locked encap = if locked then area encap else nowhere

pub seal_is_locked_area : SealIsLockedArea
seal_is_locked_area = record {
  locked = λ encap locked. ap (λ b. seal_if b encap) locked;
  unlocked = λ encap at unlocked. ap (λ b. is_in (seal_if b encap) at) unlocked ∙ nowhere_holds at;
}

-- ---- areas that hold the same addresses

-- main FRAM between two multiples of 1 KB
record IsWhole (held : Seal) : Type 0 where
  low : held.low % 0x400 ≡ 0
  high : held.high % 0x400 ≡ 0
  main : 0x4400 ≤ held.low
  some : held.low < held.high
  end : held.high ≤ 0x14000

-- or nothing
abbrev IsCut : Seal → Type 0
IsCut held = (held ≡ nowhere) ⊎ IsWhole held

whole_border : (register : ℕ) → border register % 0x400 ≡ 0
whole_border register = omega arith

between_is_cut : (low high : ℕ) → low % 0x400 ≡ 0 → high % 0x400 ≡ 0 → IsCut (between low high)
between_is_cut low high whole_low whole_high = by_any (holds_any low high) refl
  where
    by_any :
        (any : Bool) → holds_any low high ≡ any →
        IsCut
        (record { low = (if any then max low 0x4400 else 0); high = (if any then min high 0x14000 else 0) })
    by_any true some = inr (record {
      low = omega arith;
      high = omega arith;
      main = omega arith;
      some = grind (arith, nat_tests);
      end = omega arith;
    })
    by_any false none = inl refl

area_is_cut : (encap : Encap) → IsCut (area encap)
area_is_cut encap = by_test (has_bit encap.mpuipc0 MPUIPENA) refl
  where
    by_test : (enabled : Bool) → has_bit encap.mpuipc0 MPUIPENA ≡ enabled → IsCut (area encap)
    by_test true e =
        subst IsCut (sym (by_enabled encap true e))
        (between_is_cut (area_begin encap) (area_end encap) (whole_border encap.mpuipsegb1)
        (whole_border encap.mpuipsegb2))
    by_test false e = inl (by_enabled encap false e)

seal_is_cut : (encap : Encap) → IsCut (seal encap)
seal_is_cut encap = by_test (has_bit encap.mpuipc0 MPUIPLOCK)
  where
    by_test : (locked : Bool) → IsCut (seal_if locked encap)
    by_test true = area_is_cut encap
    by_test false = inl refl

-- each whole 1 KB of it begins with an address that it holds
holds_kilobyte :
    (held : Seal) (at : ℕ) → IsWhole held → at % 0x400 ≡ 0 → held.low ≤ at → at < held.high → is_in held at ≡ true
unfolding is_in
holds_kilobyte held at is whole low high =
    is_held held.low held.high at (record {
      above = low;
      below = high;
      main = (omega (arith, is.main), omega (arith, is.end));
      not_vector = side (cases_lt at 0xFF80);
    })
  where
    side : (at < 0xFF80) ⊎ (0xFF80 ≤ at) → (at < 0xFF80) ⊎ (0xFFFF < at)
    side (inl before) = inl before
    side (inr behind) = inr (omega arith)

held_lies : (held : Seal) (at : ℕ) → is_in held at ≡ true → LiesBetween held.low held.high at
unfolding is_in
held_lies held at inside = lies held.low held.high at inside

-- the ends of one that holds all that another holds
record Reaches (one other : Seal) : Type 0 where
  low : one.low ≤ other.low
  high : other.high ≤ one.high

reaches :
    (one other : Seal) → IsWhole one → IsWhole other → ((at : ℕ) → is_in one at ≡ is_in other at) →
    Reaches one other
reaches one other is also same =
    let first = held_lies one other.low
    (same other.low ∙ holds_kilobyte other other.low also also.low (omega arith) also.some) in
    let last = held_lies one (other.high - 0x400)
    (same (other.high - 0x400)
    ∙ holds_kilobyte other (other.high - 0x400) also (omega (arith, also.low, also.high, also.some, also.main))
    (omega (arith, also.low, also.high, also.some)) (omega (arith, also.some))) in
    record {
      low = first.above;
      high = omega (arith, last.below, is.high, also.high, also.some, also.main);
    }

some_held : (one other : Seal) → one ≡ nowhere → IsWhole other → ((at : ℕ) → is_in one at ≡ is_in other at) → one ≡ other
some_held one other none also same =
    let held = holds_kilobyte other other.low also also.low (omega arith) also.some in
    let not_held = ap (λ s. is_in s other.low) none ∙ nowhere_holds other.low in
    let equal = same other.low in
    cc

same_ends : (one other : Seal) → one.low ≡ other.low → one.high ≡ other.high → one ≡ other
same_ends one other low high = λ i. record { low = low i; high = high i }

same_seals :
    (one other : Seal) → IsCut one → IsCut other → ((at : ℕ) → is_in one at ≡ is_in other at) → one ≡ other
same_seals one other (inl none) (inl also) same = none ∙ sym also
same_seals one other (inl none) (inr also) same = some_held one other none also same
same_seals one other (inr is) (inl none) same = sym (some_held other one none is (λ at. sym (same at)))
same_seals one other (inr is) (inr also) same =
    let out = reaches one other is also same in
    let back = reaches other one also is (λ at. sym (same at)) in
    same_ends one other (omega (arith, out.low, back.low)) (omega (arith, out.high, back.high))

pub areas_go_by_addresses : AreasGoByAddresses
areas_go_by_addresses = record {
  areas = λ one other same. same_seals (area one) (area other) (area_is_cut one) (area_is_cut other) same;
  seals = λ one other same. same_seals (seal one) (seal other) (seal_is_cut one) (seal_is_cut other) same;
}
