-- What MPUIPLOCK, a closed latch and other addresses keep of the encapsulation, and of the addresses that stay secret.
use Rattle.std.proofs.Common.{◌≡◌, ◌≤◌, ℕ, ◌%◌, ◌==◌, ◌&&◌, not, Bool, true, false, List, [], ◌∷◌, arith, refl, ap, sym, ◌∙◌, inl, inr, if◌then◌else◌, bit_and}
use Rattle.std.proofs.lemmas.Bool.Decides.{nat_tests}
use Rattle.chip_words.specs.declared.sizes.Size.{Size}
use Rattle.chip_words.specs.declared.accesses.Agent.{Agent}
use Rattle.chip_words.specs.declared.accesses.Kind.{Kind}
use Rattle.chip_words.specs.declared.seals.Seal.{Seal}
use Rattle.chip_words.specs.Access.{access}
use Rattle.chip_words.specs.Addresses.{MPUIPC0, MPUIPSEGB1, MPUIPSEGB2, register_address}
use Rattle.chip_words.specs.Bits.{with_part}
use Rattle.chip_words.specs.BusPart.{BusPart}
use Rattle.chip_words.specs.Encap.{Encap, area, encap_written, is_enabled, is_locked, kept_after, kept_of_mpuipc0, seal, takes}
use Rattle.chip_words.specs.Map.{aligned}
use Rattle.chip_words.specs.Seals.{nowhere}
use Rattle.chip_words.specs.Segments.{border_bits}
use Rattle.right_laws.specs.EncapLocks.{AccessesKeepEncapsulation, AccessesKeepSecret, AreaBordersStayWhole, Event, HasWholeBorders, IsElsewhere, KeepsEncapsulation, LockKeepsEncapsulation, Puc, SecretGoesByLock, Written, behind_event, behind_events}
use Rattle.right_laws.proofs.Accessing.{access_covered, same_kept}

-- ---- borders

whole : (word : ℕ) → border_bits word % 64 ≡ 0
whole word = omega arith

either_whole :
    (test : Bool) (one other : ℕ) → one % 64 ≡ 0 → other % 64 ≡ 0 → (if test then one else other) % 64 ≡ 0
either_whole true one other is also = is
either_whole false one other is also = also

event_whole : (event : Event) (encap : Encap) → HasWholeBorders encap → HasWholeBorders (behind_event event encap)
unfolding encap_written
event_whole (Written is_open at size value) encap is = record {
  first =
      either_whole (takes encap is_open MPUIPSEGB1 at) (border_bits (with_part size at encap.mpuipsegb1 value))
      encap.mpuipsegb1 (whole (with_part size at encap.mpuipsegb1 value)) is.first;
  second =
      either_whole (takes encap is_open MPUIPSEGB2 at) (border_bits (with_part size at encap.mpuipsegb2 value))
      encap.mpuipsegb2 (whole (with_part size at encap.mpuipsegb2 value)) is.second;
}
event_whole Puc encap is = record { first = is.first; second = is.second }

events_whole :
    (events : List Event) (encap : Encap) → HasWholeBorders encap → HasWholeBorders (behind_events events encap)
events_whole [] encap is = is
events_whole (event ∷ events) encap is = events_whole events (behind_event event encap) (event_whole event encap is)

pub area_borders_stay_whole : AreaBordersStayWhole
area_borders_stay_whole = record {
  power_on = record { first = refl; second = refl };
  bor = λ encap. record { first = refl; second = refl };
  boot = λ control second first. record { first = whole first; second = whole second };
  events = events_whole;
}

-- ---- writes that change no register

word_stays : (test : Bool) (word other : ℕ) → test ≡ false → (if test then other else word) ≡ word
word_stays test word other is_not = ap (λ b. if b then other else word) is_not

-- none of the three registers takes a write
record TakesNone (encap : Encap) (is_open : Bool) (at : ℕ) : Type 0 where
  control : takes encap is_open MPUIPC0 at ≡ false
  second : takes encap is_open MPUIPSEGB2 at ≡ false
  first : takes encap is_open MPUIPSEGB1 at ≡ false

not_taken :
    (encap : Encap) (is_open : Bool) (at : ℕ) (size : Size) (value : ℕ) → TakesNone encap is_open at →
    encap_written encap is_open at size value ≡ encap
unfolding encap_written
not_taken encap is_open at size value none = λ i. record {
  mpuipc0 =
      word_stays (takes encap is_open MPUIPC0 at) encap.mpuipc0
      (bit_and (with_part size at encap.mpuipc0 value) kept_of_mpuipc0) none.control i;
  mpuipsegb2 =
      word_stays (takes encap is_open MPUIPSEGB2 at) encap.mpuipsegb2
      (border_bits (with_part size at encap.mpuipsegb2 value)) none.second i;
  mpuipsegb1 =
      word_stays (takes encap is_open MPUIPSEGB1 at) encap.mpuipsegb1
      (border_bits (with_part size at encap.mpuipsegb1 value)) none.first i;
}

-- a register takes a write by three tests
abbrev taken_by : Bool → Bool → Bool → Bool
taken_by here is_open locked = here && is_open && not locked

no_locked : (here is_open : Bool) → taken_by here is_open true ≡ false
no_locked true true = refl
no_locked true false = refl
no_locked false is_open = refl

locked_takes :
    (encap : Encap) (is_open : Bool) (register at : ℕ) → is_locked encap ≡ true →
    takes encap is_open register at ≡ false
locked_takes encap is_open register at locked =
    ap (taken_by (register_address at == register) is_open) locked
    ∙ no_locked (register_address at == register) is_open

no_closed : (here locked : Bool) → taken_by here false locked ≡ false
no_closed true locked = refl
no_closed false locked = refl

closed_takes :
    (encap : Encap) (is_open : Bool) (register at : ℕ) → is_open ≡ false → takes encap is_open register at ≡ false
closed_takes encap is_open register at closed =
    ap (λ b. taken_by (register_address at == register) b (is_locked encap)) closed
    ∙ no_closed (register_address at == register) (is_locked encap)

other_takes :
    (encap : Encap) (is_open : Bool) (register at : ℕ) → (register_address at == register) ≡ false →
    takes encap is_open register at ≡ false
other_takes encap is_open register at other = ap (λ here. taken_by here is_open (is_locked encap)) other

locked_takes_none : (encap : Encap) (is_open : Bool) (at : ℕ) → is_locked encap ≡ true → TakesNone encap is_open at
locked_takes_none encap is_open at locked = record {
  control = locked_takes encap is_open MPUIPC0 at locked;
  second = locked_takes encap is_open MPUIPSEGB2 at locked;
  first = locked_takes encap is_open MPUIPSEGB1 at locked;
}

closed_takes_none : (encap : Encap) (is_open : Bool) (at : ℕ) → is_open ≡ false → TakesNone encap is_open at
closed_takes_none encap is_open at closed = record {
  control = closed_takes encap is_open MPUIPC0 at closed;
  second = closed_takes encap is_open MPUIPSEGB2 at closed;
  first = closed_takes encap is_open MPUIPSEGB1 at closed;
}

not_there :
    (at register : ℕ) → IsElsewhere at → 0x05AA ≤ register → register ≤ 0x05AE →
    (register_address at == register) ≡ false
not_there at register (inl below) low high = grind (arith, nat_tests)
not_there at register (inr above) low high = grind (arith, nat_tests)

elsewhere_takes_none : (encap : Encap) (is_open : Bool) (at : ℕ) → IsElsewhere at → TakesNone encap is_open at
elsewhere_takes_none encap is_open at apart = record {
  control = other_takes encap is_open MPUIPC0 at (not_there at MPUIPC0 apart (omega arith) (omega arith));
  second = other_takes encap is_open MPUIPSEGB2 at (not_there at MPUIPSEGB2 apart (omega arith) (omega arith));
  first = other_takes encap is_open MPUIPSEGB1 at (not_there at MPUIPSEGB1 apart (omega arith) (omega arith));
}

pub lock_keeps_encapsulation : LockKeepsEncapsulation
lock_keeps_encapsulation [] encap locked = refl
lock_keeps_encapsulation (Written is_open at size value ∷ events) encap locked =
    ap (behind_events events) (not_taken encap is_open at size value (locked_takes_none encap is_open at locked))
    ∙ lock_keeps_encapsulation events encap locked
lock_keeps_encapsulation (Puc ∷ events) encap locked = lock_keeps_encapsulation events encap locked

-- ---- accesses

-- the registers and the secret addresses are still these
record IsStill (old : Encap) (hidden : Seal) (encap : Encap) (kept : Seal) : Type 0 where
  registers : encap ≡ old
  secret : kept ≡ hidden

is_still : (old : Encap) (secret : Seal) → IsStill old secret old secret
is_still old secret = record { registers = refl; secret = refl }

still_behind :
    (old encap : Encap) (secret : Seal) → encap ≡ old → IsStill old secret encap (kept_after secret old encap)
still_behind old encap secret same = record {
  registers = same;
  secret = ap (kept_after secret old) same ∙ same_kept secret old;
}

keeps :
    (who : Agent) (kind : Kind) (at : ℕ) (size : Size) (value : ℕ) (part : BusPart) →
    TakesNone (part.units).encap ((part.units).mpu).is_open (aligned size at) →
    KeepsEncapsulation part (access who kind at size value part).part
keeps who kind at size value part none =
    let old = (part.units).encap in
    let is_open = ((part.units).mpu).is_open in
    let still =
    access_covered (λ mpu encap kept. IsStill old part.kept encap kept) who kind at size value part (record {
      same = is_still old part.kept;
      read = is_still old part.kept;
      write = is_still old part.kept;
      encap_write =
          still_behind old (encap_written old is_open (aligned size at) size value) part.kept
          (not_taken old is_open (aligned size at) size value none);
    }) in
    record { registers = still.registers; secret = still.secret }

pub accesses_keep_encapsulation : AccessesKeepEncapsulation
accesses_keep_encapsulation = record {
  locked = λ who kind at size value part locked.
      keeps who kind at size value part
      (locked_takes_none (part.units).encap ((part.units).mpu).is_open (aligned size at) locked);
  closed = λ who kind at size value part closed.
      keeps who kind at size value part
      (closed_takes_none (part.units).encap ((part.units).mpu).is_open (aligned size at) closed);
  elsewhere = λ who kind at size value part apart.
      keeps who kind at size value part
      (elsewhere_takes_none (part.units).encap ((part.units).mpu).is_open (aligned size at) apart);
}

-- ---- the addresses that stay secret

-- what they become, by three tests
abbrev secret_by : Seal → Encap → Bool → Bool → Bool → Seal
secret_by secret after was_locked locked enabled = if not was_locked && locked && enabled then seal after else secret

open_keeps :
    (secret : Seal) (after : Encap) (was_locked enabled : Bool) →
    secret_by secret after was_locked false enabled ≡ secret
open_keeps secret after true enabled = refl
open_keeps secret after false enabled = refl

disabled_keeps :
    (secret : Seal) (after : Encap) (was_locked locked : Bool) →
    secret_by secret after was_locked locked false ≡ secret
disabled_keeps secret after true locked = refl
disabled_keeps secret after false true = refl
disabled_keeps secret after false false = refl

sealed_area : (encap : Encap) → is_locked encap ≡ true → seal encap ≡ area encap
sealed_area encap locked = ap (λ b. if b then area encap else nowhere) locked

goes_by_lock :
    (before after : BusPart) →
    after.kept ≡ kept_after before.kept (before.units).encap (after.units).encap → SecretGoesByLock before after
goes_by_lock before after e =
    let secret = before.kept in
    let old = (before.units).encap in
    let new = (after.units).encap in
    record {
      was_locked = λ locked. e ∙ ap (λ b. secret_by secret new b (is_locked new) (is_enabled new)) locked;
      stays_unlocked = λ unlocked.
          e ∙ ap (λ b. secret_by secret new (is_locked old) b (is_enabled new)) unlocked
          ∙ open_keeps secret new (is_locked old) (is_enabled new);
      is_disabled = λ off.
          e ∙ ap (λ b. secret_by secret new (is_locked old) (is_locked new) b) off
          ∙ disabled_keeps secret new (is_locked old) (is_locked new);
      is_sealed = λ unlocked locked enabled.
          e ∙ ap (λ b. secret_by secret new b (is_locked new) (is_enabled new)) unlocked
          ∙ ap (λ b. secret_by secret new false b (is_enabled new)) locked
          ∙ ap (λ b. secret_by secret new false true b) enabled
          ∙ sealed_area new locked;
    }

pub accesses_keep_secret : AccessesKeepSecret
accesses_keep_secret who kind at size value part =
    let old = (part.units).encap in
    let stays = sym (same_kept part.kept old) in
    goes_by_lock part (access who kind at size value part).part
    (access_covered (λ mpu encap kept. kept ≡ kept_after part.kept old encap) who kind at size value part (record {
      same = stays;
      read = stays;
      write = stays;
      encap_write = refl;
    }))
