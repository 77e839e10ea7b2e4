-- The compare registers of a timer from one number on.
use Rattle.std.proofs.Common.{◌≡◌, ℕ, zero, suc, ◌+◌, ◌<◌, ◌≤◌, List, [], ◌∷◌, ◌++◌, length, false, None, Some, if◌then◌else◌, drop, take, replicate, refl, ap, arith, slice_index_or, slice_set}
use Rattle.std.proofs.lemmas.List.{drop_more}
use Rattle.timer_unit.specs.Silence.{AsksNothing}
use Rattle.chip_words.specs.Timer.{CCIFG, Timer, is_compare_waiting, is_first_waiting, is_timer_waiting, least_waiting, with_bit, with_flags}

-- the search from a number on looks at the register of that number, and then from the next one on
pub least_waiting-drop : (n : ℕ) (cctl : List ℕ) → n < length cctl → least_waiting n (drop n cctl) ≡ (if is_compare_waiting (slice_index_or cctl n 0) then Some n else least_waiting (n + 1) (drop (n + 1) cctl))
least_waiting-drop n cctl below = rw (drop_more cctl n 0 below) refl

-- the registers below a number have their flags, and those from it on are still to get them
abbrev pub flagged_below : ℕ → ℕ → List ℕ → List ℕ → List ℕ
flagged_below n r ccr cctl = take n cctl ++ with_flags r (drop n ccr) (drop n cctl)

-- the register of that number gets its flag
pub flagged_below-set : (n r : ℕ) (ccr cctl : List ℕ) → n < length cctl → length ccr ≡ length cctl → slice_index_or ccr n 0 ≡ r → flagged_below (n + 1) r ccr (slice_set cctl n (with_bit CCIFG (slice_index_or cctl n 0))) ≡ flagged_below n r ccr cctl
flagged_below-set n r [] [] below same equal = absurd (omega arith)
flagged_below-set n r [] (w ∷ cctl) below same equal = absurd (omega arith)
flagged_below-set n r (c ∷ ccr) [] below same equal = absurd (omega arith)
flagged_below-set zero r (c ∷ ccr) (w ∷ cctl) below same equal = grind (arith, equal)
flagged_below-set (suc n) r (c ∷ ccr) (w ∷ cctl) below same equal = let e : suc n + 1 ≡ suc (n + 1) = omega arith in rw e (ap (λ more. w ∷ more) (flagged_below-set n r ccr cctl (omega arith) (omega arith) equal))

-- or it stands
pub flagged_below-keep : (n r : ℕ) (ccr cctl : List ℕ) → n < length cctl → length ccr ≡ length cctl → ¬ (slice_index_or ccr n 0 ≡ r) → flagged_below (n + 1) r ccr cctl ≡ flagged_below n r ccr cctl
flagged_below-keep n r [] [] below same differs = absurd (omega arith)
flagged_below-keep n r [] (w ∷ cctl) below same differs = absurd (omega arith)
flagged_below-keep n r (c ∷ ccr) [] below same differs = absurd (omega arith)
flagged_below-keep zero r (c ∷ ccr) (w ∷ cctl) below same differs = grind (arith, differs)
flagged_below-keep (suc n) r (c ∷ ccr) (w ∷ cctl) below same differs = let e : suc n + 1 ≡ suc (n + 1) = omega arith in rw e (ap (λ more. w ∷ more) (flagged_below-keep n r ccr cctl (omega arith) (omega arith) differs))

pub ruleset flags = (flagged_below-set, flagged_below-keep)

-- no register waits where each is 0
none_waits : (n k : ℕ) → least_waiting n (replicate k 0) ≡ None
none_waits n zero = refl
none_waits n (suc k) = none_waits (n + 1) k

-- so a timer behind a reset asks for no interrupt
pub first_asks_nothing : (n : ℕ) → 3 ≤ n → AsksNothing 0 (replicate n 0)
first_asks_nothing zero least = absurd (omega (arith, least))
first_asks_nothing (suc k) least = (refl, none_waits 1 k, refl)

-- one that asks for none
pub waits_not : (timer : Timer) → AsksNothing timer.ctl timer.cctl → is_timer_waiting timer ≡ false
waits_not timer is = rw (is.1, is.2) refl

pub waits_not_first : (timer : Timer) → AsksNothing timer.ctl timer.cctl → is_first_waiting timer ≡ false
waits_not_first timer is = is.0

pub ruleset asks_nothing = (waits_not, waits_not_first)
