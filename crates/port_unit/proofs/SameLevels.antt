-- The levels of two ports are the same exactly where the words of their pins are.
use Rattle.std.proofs.Common.{◌≡◌, ◌≢◌, ℕ, zero, suc, ◌+◌, ◌/◌, ◌%◌, ◌^◌, ◌<◌, Bool, true, false, ◌&&◌, ◌==◌, not, if◌then◌else◌, List, [], ◌∷◌, refl, ◌∙◌, arith}
use Rattle.std.specs.Prelude.{bit_and}
use Rattle.std.proofs.lemmas.Bool.Decides.{nat_tests}
use Rattle.std.proofs.lemmas.Nat.{and_le_r, and_shr, shr-shr}
use Rattle.std.proofs.lemmas.Nat.Bits.{bit_at_and}
use Rattle.std.proofs.Math.Nat.{div-one}
use Rattle.chip_words.specs.Bits.{has_bit}
use Rattle.port_unit.specs.declared.levels.Level.{Level}
use Rattle.port_unit.specs.declared.levels.Level.TheVariants.{Low, High, Open}
use Rattle.port_unit.specs.declared.pins.Pins.{Pins}
use Rattle.port_unit.specs.Pins.{level_of, same_level, same_levels}

abbrev same_bool : Bool → Bool → Bool
same_bool true other = other
same_bool false other = not other

abbrev level : Bool → Bool → Level
level driven high = if driven then (if high then High else Low) else Open

-- of one pin: its level says whether it is driven, and whether it is driven and high
same_level-bits : (d h d' h' : Bool) → same_level (level d h) (level d' h') ≡ (same_bool d d' && same_bool (d && h) (d' && h'))
same_level-bits false h false h' = refl
same_level-bits false h true true = refl
same_level-bits false h true false = refl
same_level-bits true true false h' = refl
same_level-bits true false false h' = refl
same_level-bits true true true true = refl
same_level-bits true true true false = refl
same_level-bits true false true true = refl
same_level-bits true false true false = refl

-- two numbers are the same where their last bits and what is above these are
eq-halves : (a b : ℕ) → (a == b) ≡ (same_bool (a % 2 == 1) (b % 2 == 1) && (a / 2 == b / 2))
eq-halves a b = grind (arith, nat_tests)

and_swap : (p q r s : Bool) → ((p && q) && (r && s)) ≡ ((p && r) && (q && s))
and_swap true q true s = refl
and_swap true true false s = refl
and_swap true false false s = refl
and_swap false q r s = refl

has_bit-and : (a b n : ℕ) → has_bit (bit_and a b) n ≡ (has_bit b n && has_bit a n)
has_bit-and a b n = let e = bit_at_and a b n in grind (arith, nat_tests)

-- the pins that are driven and high
abbrev driven_high : Pins → ℕ
driven_high pins = bit_and pins.high pins.driven

pin : (one other : Pins) (n : ℕ) → same_level (level_of one n) (level_of other n) ≡ (same_bool (has_bit one.driven n) (has_bit other.driven n) && same_bool (has_bit (driven_high one) n) (has_bit (driven_high other) n))
pin one other n = rw (has_bit-and one.high one.driven n, has_bit-and other.high other.driven n) (same_level-bits (has_bit one.driven n) (has_bit one.high n) (has_bit other.driven n) (has_bit other.high n))

halves : (a b n : ℕ) → (a / 2 ^ n == b / 2 ^ n) ≡ (same_bool (has_bit a n) (has_bit b n) && (a / 2 ^ (n + 1) == b / 2 ^ (n + 1)))
halves a b n = rw (shr-shr a n 1, shr-shr b n 1) at (eq-halves (a / 2 ^ n) (b / 2 ^ n))

both_parts : {l r a b : Bool} (p q s t : Bool) → l ≡ (p && q) → r ≡ (s && t) → a ≡ (p && s) → b ≡ (q && t) → (l && r) ≡ (a && b)
both_parts p q s t e f g h = rw (e, f, g, h) (and_swap p q s t)

-- the levels of so many pins, from one on
abbrev levels_from : Pins → ℕ → ℕ → List Level
levels_from pins n zero = []
levels_from pins n (suc k) = level_of pins n ∷ levels_from pins (n + 1) k

same_levels_from : (one other : Pins) (n k : ℕ) → one.driven / 2 ^ n < 2 ^ k → other.driven / 2 ^ n < 2 ^ k → same_levels (levels_from one n k) (levels_from other n k) ≡ ((one.driven / 2 ^ n == other.driven / 2 ^ n) && (driven_high one / 2 ^ n == driven_high other / 2 ^ n))
same_levels_from one other n zero one_below other_below =
    let one_none : driven_high one / 2 ^ n ≡ 0 = high_below one n one_below in
    let other_none : driven_high other / 2 ^ n ≡ 0 = high_below other n other_below in
    grind (arith, nat_tests)
  where
    high_below : (pins : Pins) (n : ℕ) → pins.driven / 2 ^ n < 1 → driven_high pins / 2 ^ n ≡ 0
    high_below pins n below = omega (arith, and_shr pins.high pins.driven n, and_le_r (pins.high / 2 ^ n) (pins.driven / 2 ^ n))
same_levels_from one other n (suc k) one_below other_below =
    both_parts (same_bool (has_bit one.driven n) (has_bit other.driven n)) (same_bool (has_bit (driven_high one) n) (has_bit (driven_high other) n)) (one.driven / 2 ^ (n + 1) == other.driven / 2 ^ (n + 1)) (driven_high one / 2 ^ (n + 1) == driven_high other / 2 ^ (n + 1)) (pin one other n) (same_levels_from one other (n + 1) k (next_below one.driven one_below) (next_below other.driven other_below)) (halves one.driven other.driven n) (halves (driven_high one) (driven_high other) n)
  where
    next_below : (word : ℕ) → word / 2 ^ n < 2 ^ suc k → word / 2 ^ (n + 1) < 2 ^ k
    next_below word below = let half : word / 2 ^ n / 2 ≡ word / 2 ^ (n + 1) = shr-shr word n 1 in omega arith

-- the levels of a port, by the words of its pins
same_levels-words : (one other : Pins) → one.driven < 0x100 → other.driven < 0x100 → same_levels (levels_from one 0 8) (levels_from other 0 8) ≡ ((one.driven == other.driven) && (driven_high one == driven_high other))
same_levels-words one other one_below other_below =
    same_levels_from one other 0 8 (rw div-one one_below) (rw div-one other_below)
    ∙ no_shift one.driven other.driven (driven_high one) (driven_high other)
  where
    no_shift : (a b c d : ℕ) → ((a / 1 == b / 1) && (c / 1 == d / 1)) ≡ ((a == b) && (c == d))
    no_shift a b c d = simp div-one refl

and-same : (a b : ℕ) (rest both : Bool) → both ≡ ((a == b) && rest) → a ≡ b → rest ≡ both
and-same a b rest both h same = grind (arith, nat_tests)

and-other : (a b : ℕ) (rest both : Bool) → both ≡ ((a == b) && rest) → a ≢ b → (a == b) ≡ both
and-other a b rest both h other = grind (arith, nat_tests)

-- where the same pins are driven
pub same_levels-driven : (pins pins' one other : Pins) → pins ≡ one → pins' ≡ other → one.driven < 0x100 → other.driven < 0x100 → pins.driven ≡ pins'.driven → (driven_high pins == driven_high pins') ≡ same_levels (levels_from one 0 8) (levels_from other 0 8)
same_levels-driven pins pins' one other e e' below below' driven =
    rw (e, e') (and-same one.driven other.driven (driven_high one == driven_high other) _ (same_levels-words one other below below') (rw (e, e') at driven))

-- where others are driven
pub same_levels-not_driven : (pins pins' one other : Pins) → pins ≡ one → pins' ≡ other → one.driven < 0x100 → other.driven < 0x100 → pins.driven ≢ pins'.driven → (pins.driven == pins'.driven) ≡ same_levels (levels_from one 0 8) (levels_from other 0 8)
same_levels-not_driven pins pins' one other e e' below below' driven =
    rw (e, e') (and-other one.driven other.driven (driven_high one == driven_high other) _ (same_levels-words one other below below') (rw (e, e') at driven))
