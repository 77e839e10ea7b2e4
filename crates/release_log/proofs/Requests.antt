-- Lists of requests to which causes join.
use Rattle.std.proofs.Common.{◌≡◌, ◌<◌, ◌≤◌, ◌+◌, ◌==◌, ℕ, zero, suc, List, [], ◌∷◌, Bool, true, false, slice_set, arith, refl, ap, ◌∙◌, if◌then◌else◌}
use Rattle.std.specs.Prelude.{Option, Some, None, nat_le}
use Rattle.std.proofs.lemmas.List.{get_or-set_other, length-set}
use Rattle.std.proofs.lemmas.Bool.Decides.{nat_tests}
use Rattle.chip_words.specs.declared.sizes.Size.{Size}
use Rattle.chip_words.specs.declared.segments.Segment.{Segment}
use Rattle.chip_words.specs.declared.segments.Segment.TheVariants.{One, Two, Three, Info, Sealed}
use Rattle.chip_words.specs.declared.unit_names.UnitName.{UnitName}
use Rattle.chip_words.specs.declared.unit_names.UnitName.TheVariants as of
use Rattle.chip_words.specs.Addresses.{PMMCTL0, WDTCTL, register_address, unit_at}
use Rattle.chip_words.specs.Bits.{has_bit}
use Rattle.chip_words.specs.Causes.{WATCHDOG_PASSWORD, FRAM_PASSWORD, MPU_PASSWORD, POWER_PASSWORD, SOFTWARE_BOR, SOFTWARE_POR, least_from, with_cause}
use Rattle.chip_words.specs.Passwords.{has_wrong_password, lower_byte}
use Rattle.chip_words.specs.Segments.{cause_of_violation}
use Rattle.chip_words.specs.Steps.{has_reset, reset_at}
use Rattle.chip_words.specs.Sys.{PMMSWBOR, PMMSWPOR, Sys, software_cause, sys_cause}
use Rattle.chip_words.specs.Timers.{timers_cause}
use Rattle.chip_words.specs.Units.{Units, cause_in, units_cause}
use Rattle.chip_words.specs.Watchdog.{is_watchdog_password, watchdog_cause}
use Rattle.right_laws.specs.Ends.{is_asked}
use Rattle.step_laws.proofs.Shapes.{either_holds}
use Rattle.release_log.specs.Sound.{DEBUGGER, DebuggerComesFirst, LEAST_REQUEST, OnlyJoin}

-- ---- requests that join

pub OnlyJoin-same : (requested : List Bool) → OnlyJoin requested requested
OnlyJoin-same requested = record { count = refl; stand = λ cause is. is; none_lower = λ cause low. refl }

pub OnlyJoin-then : (a b c : List Bool) → OnlyJoin a b → OnlyJoin b c → OnlyJoin a c
OnlyJoin-then a b c first second = record {
  count = second.count ∙ first.count;
  stand = λ cause is. second.stand cause (first.stand cause is);
  none_lower = λ cause low. second.none_lower cause low ∙ first.none_lower cause low;
}

set-stands : (xs : List Bool) (n k : ℕ) → is_asked xs k ≡ true → is_asked (slice_set xs n true) k ≡ true
set-stands [] n k is = is
set-stands (x ∷ xs) zero zero is = refl
set-stands (x ∷ xs) zero (suc k) is = is
set-stands (x ∷ xs) (suc n) zero is = is
set-stands (x ∷ xs) (suc n) (suc k) is = set-stands xs n k is

-- a cause that may be asked for
abbrev pub IsHigh : Option ℕ → Type 0
IsHigh (Some cause) = LEAST_REQUEST ≤ cause
IsHigh None = Unit {0}

pub with_cause-OnlyJoin : (cause : Option ℕ) (requested : List Bool) → IsHigh cause → OnlyJoin requested (with_cause cause requested)
with_cause-OnlyJoin (Some cause) requested high = record {
  count = length-set requested cause true;
  stand = λ k is. set-stands requested cause k is;
  none_lower = λ k low. get_or-set_other requested cause k true false (omega arith);
}
with_cause-OnlyJoin None requested high = OnlyJoin-same requested

-- ---- the least of them

-- a request with none before it is the least
least-at :
    (n k : ℕ) (xs : List Bool) → is_asked xs k ≡ true → ((j : ℕ) → j < k → is_asked xs j ≡ false) →
    least_from n xs ≡ Some (n + k)
least-at n k [] is none = cc
least-at n zero (true ∷ xs) is none = ap Some (omega arith)
least-at n (suc k) (true ∷ xs) is none =
    let no : true ≡ false = none 0 (omega arith) in
    cc
least-at n zero (false ∷ xs) is none = cc
least-at n (suc k) (false ∷ xs) is none =
    least-at (n + 1) k xs is (λ j below. none (suc j) (omega arith)) ∙ ap Some (omega arith)

-- and where none is below a number the least isn't either
least-above :
    (n low cause : ℕ) (xs : List Bool) → ((j : ℕ) → n + j < low → is_asked xs j ≡ false) →
    least_from n xs ≡ Some cause → low ≤ cause
least-above n low cause [] none e = cc
least-above n low cause (true ∷ xs) none e = by_order (nat_le low n) refl
  where
    by_order : (test : Bool) → nat_le low n ≡ test → low ≤ cause
    by_order true order = grind (arith, nat_tests, e)
    by_order false order =
        let no : true ≡ false = none 0 (grind (arith, nat_tests)) in
        cc
least-above n low cause (false ∷ xs) none e =
    least-above (n + 1) low cause xs (λ j below. none (suc j) (omega arith)) e

pub debugger_comes_first : DebuggerComesFirst
debugger_comes_first = record {
  stays = λ before after join none cause low. join.none_lower cause low ∙ none cause low;
  taken = λ requested none is. least-at 0 DEBUGGER requested is none;
  least = λ requested cause none e. least-above 0 LEAST_REQUEST cause requested (λ j below. none j (omega arith)) e;
}

-- ---- causes of registers

one-IsHigh : (test : Bool) (cause : ℕ) → LEAST_REQUEST ≤ cause → IsHigh (if test then Some cause else None)
one-IsHigh test cause high = either_holds IsHigh test (Some cause) None high tt

software-IsHigh : (byte : Option ℕ) → IsHigh (software_cause byte)
software-IsHigh (Some byte) =
    either_holds IsHigh (has_bit byte PMMSWBOR) (Some SOFTWARE_BOR) _ (omega arith)
    (one-IsHigh (has_bit byte PMMSWPOR) SOFTWARE_POR (omega arith))
software-IsHigh None = tt

sys-IsHigh : (sys : Sys) (at : ℕ) (size : Size) (value : ℕ) → IsHigh (sys_cause sys at size value)
sys-IsHigh sys at size value =
    let by_byte = lower_byte sys.is_open size at value in
    either_holds IsHigh (register_address at == PMMCTL0)
    (if has_wrong_password size value then Some POWER_PASSWORD else software_cause by_byte) None
    (either_holds IsHigh (has_wrong_password size value) (Some POWER_PASSWORD) (software_cause by_byte) (omega arith) (software-IsHigh by_byte))
    tt

watchdog-IsHigh : (size : Size) (value : ℕ) → IsHigh (watchdog_cause size value)
watchdog-IsHigh size value =
    either_holds IsHigh (is_watchdog_password size value) None (Some WATCHDOG_PASSWORD) tt (omega arith)

timers-IsHigh : (at : ℕ) (size : Size) (value : ℕ) → IsHigh (timers_cause at size value)
timers-IsHigh at size value =
    either_holds IsHigh (register_address at == WDTCTL) (watchdog_cause size value) None (watchdog-IsHigh size value) tt

cause_in-IsHigh : (unit : Option UnitName) (units : Units) (at : ℕ) (size : Size) (value : ℕ) → IsHigh (cause_in unit units at size value)
unfolding units_cause
cause_in-IsHigh (Some of.Sys) units at size value = sys-IsHigh units.sys at size value
cause_in-IsHigh (Some of.Timers) units at size value = timers-IsHigh at size value
cause_in-IsHigh (Some of.Ports) units at size value = tt
cause_in-IsHigh (Some of.Dma) units at size value = tt
cause_in-IsHigh (Some of.Fram) units at size value = one-IsHigh _ FRAM_PASSWORD (omega arith)
cause_in-IsHigh (Some of.Mpu) units at size value = one-IsHigh _ MPU_PASSWORD (omega arith)
cause_in-IsHigh (Some of.Encap) units at size value = tt
cause_in-IsHigh None units at size value = tt

pub units_cause-IsHigh : (units : Units) (at : ℕ) (size : Size) (value : ℕ) → IsHigh (units_cause units at size value)
unfolding units_cause
units_cause-IsHigh units at size value = cause_in-IsHigh (unit_at at) units at size value

-- ---- causes of violations

violation-IsHigh : (place : Segment) → LEAST_REQUEST ≤ cause_of_violation place
violation-IsHigh One = omega arith
violation-IsHigh Two = omega arith
violation-IsHigh Three = omega arith
violation-IsHigh Info = omega arith
violation-IsHigh Sealed = omega arith

pub reset_at-IsHigh : (place : Segment) (units : Units) → IsHigh (reset_at place units)
reset_at-IsHigh place units = one-IsHigh (has_reset place units) (cause_of_violation place) (violation-IsHigh place)
