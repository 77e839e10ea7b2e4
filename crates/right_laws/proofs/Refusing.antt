-- What a refused access changes.
use Rattle.std.proofs.Common.{Some, ◌≡◌, ◌≢◌, ◌<◌, ℕ, ◌^◌, ◌==◌, ◌&&◌, ◌||◌, ◌++◌, nat_lt, max, Bool, true, false, arith, refl, ap, sym, subst, ◌∙◌, if◌then◌else◌, bit_or}
use Rattle.std.specs.Int.{bit_at}
use Rattle.std.proofs.Math.Bool.{or-false, or-true}
use Rattle.std.proofs.lemmas.Nat.Bits.{bit_at-lt, bit_at-pow_other, bit_at-pow_same, bit_at_or}
use Rattle.std.proofs.lemmas.Bool.Decides.{nat_tests}
use Rattle.chip_words.specs.declared.sizes.Size.{Size}
use Rattle.chip_words.specs.declared.sizes.Size.TheVariants.{Byte, Word, Addr}
use Rattle.chip_words.specs.declared.regions.Region.TheVariants.{Periph}
use Rattle.chip_words.specs.declared.accesses.Agent.{Agent}
use Rattle.chip_words.specs.declared.accesses.Agent.TheVariants.{Cpu, Entry, Dma, Debug, Boot}
use Rattle.chip_words.specs.declared.accesses.Kind.{Kind}
use Rattle.chip_words.specs.declared.accesses.Kind.TheVariants.{Fetch, Read, Write}
use Rattle.chip_words.specs.declared.segments.Right.TheVariants.{No}
use Rattle.chip_words.specs.declared.segments.Segment.{Segment}
use Rattle.chip_words.specs.declared.segments.Segment.TheVariants.{One, Two, Three, Info, Sealed}
use Rattle.chip_words.specs.Access.{access, access_allowed, access_by_right, access_present, access_refused, as_listed, blank, is_low_start, listed, numbered, requested, write_absent}
use Rattle.chip_words.specs.Bits.{bit_of, has_bit}
use Rattle.chip_words.specs.BusPart.{BusPart}
use Rattle.chip_words.specs.Causes.{PERIPHERAL_FETCH}
use Rattle.chip_words.specs.Map.{aligned, is_fram, keeps_without_power, region_at}
use Rattle.chip_words.specs.Right.{right_of}
use Rattle.chip_words.specs.Segments.{flag_of}
use Rattle.chip_words.specs.Units.{Units}
use Rattle.right_laws.specs.Numbers.{place_flag}
use Rattle.right_laws.specs.Refusals.{AddsFlag, ChangesLittle, NotesPlace, RefusalsNoteAlone, RefusedChangeLittle, refused_answer}
use Rattle.right_laws.proofs.Judging.{only_fram_is_judged}

-- ---- what is noted

-- the bit of a flag is set in its word alone
flag_bit : (flag k : ℕ) (test : Bool) → (k == flag) ≡ test → bit_at (2 ^ flag) k ≡ bit_of test
flag_bit flag k true e =
    let same : k ≡ flag = grind (arith, nat_tests) in
    ap (bit_at (2 ^ flag)) same ∙ bit_at-pow_same flag
flag_bit flag k false e =
    let apart : k ≢ flag = λ same. grind (arith, nat_tests) in
    bit_at-pow_other flag k apart

merged : (x a b : ℕ) (test : Bool) → x ≡ max a b → a < 2 → b ≡ bit_of test → (x == 1) ≡ (a == 1 || test)
merged x a b true both small e =
    let set : x ≡ 1 = omega arith in
    ap (λ n. n == 1) set ∙ sym (or-true (a == 1))
merged x a b false both small e =
    let same : x ≡ a = omega arith in
    ap (λ n. n == 1) same ∙ sym (or-false (a == 1))

pub or_flag : (word flag k : ℕ) → has_bit (bit_or word (2 ^ flag)) k ≡ (has_bit word k || k == flag)
or_flag word flag k =
    let both : bit_at (bit_or word (2 ^ flag)) k ≡ max (bit_at word k) (bit_at (2 ^ flag) k) =
    bit_at_or word (2 ^ flag) k in
    let small : bit_at word k < 2 = bit_at-lt word k in
    merged (bit_at (bit_or word (2 ^ flag)) k) (bit_at word k) (bit_at (2 ^ flag) k) (k == flag) both small
    (flag_bit flag k (k == flag) refl)

-- both tables of flags agree
same_flag : (place : Segment) → flag_of place ≡ place_flag place
same_flag One = refl
same_flag Two = refl
same_flag Three = refl
same_flag Info = refl
same_flag Sealed = refl

or_place : (word : ℕ) (place : Segment) → AddsFlag place word (bit_or word (2 ^ flag_of place))
or_place word place k = or_flag word (flag_of place) k ∙ ap (λ flag. has_bit word k || k == flag) (same_flag place)

-- a place refuses an access of an agent: what is noted behind it
notes : (who : Agent) (place : Segment) (part : BusPart) (kind : Kind) (size : Size) (value : ℕ) →
    NotesPlace who place part.noted ((access_refused who place kind size value part).part).noted
notes (Cpu ia) place part kind size value = or_place part.noted place
notes Entry place part kind size value = or_place part.noted place
notes Dma place part kind size value = or_place part.noted place
notes Debug place part kind size value = refl
notes Boot place part kind size value = refl

answers :
    (who : Agent) (place : Segment) (kind : Kind) (size : Size) (value : ℕ) (part : BusPart) →
    (access_refused who place kind size value part).answer ≡ refused_answer kind size value
answers who place Fetch Byte value part = refl
answers who place Fetch Word value part = refl
answers who place Fetch Addr value part = refl
answers who place Read Byte value part = refl
answers who place Read Word value part = refl
answers who place Read Addr value part = refl
answers who place Write size value part = refl

pub refusals_note_alone : RefusalsNoteAlone
refusals_note_alone who kind at size value part place = record {
  answer = answers who place kind size value part;
  rest = refl;
  noted = notes who place part kind size value;
}

-- ---- a refused access isn't to the peripherals

low_is_periph : (at : ℕ) → at < 0x1000 → region_at at ≡ Periph
unfolding region_at
low_is_periph at low = grind (arith, nat_tests)

low_is_not_fram : (at : ℕ) → at < 0x1000 → is_fram at ≡ false
unfolding is_fram
low_is_not_fram at low = ap keeps_without_power (low_is_periph at low)

not_low : (at : ℕ) (test : Bool) → nat_lt at 0x1000 ≡ test → is_fram at ≡ true → nat_lt at 0x1000 ≡ false
not_low at false e fram = e
not_low at true e fram =
    let low : at < 0x1000 = grind (arith, nat_tests) in
    let off = low_is_not_fram at low in
    cc

refused_is_fram :
    (units : Units) (who : Agent) (kind : Kind) (at : ℕ) (place : Segment) (test : Bool) → is_fram at ≡ test →
    right_of units who kind at ≡ No place → is_fram at ≡ true
refused_is_fram units who kind at place true e lacks = e
refused_is_fram units who kind at place false e lacks =
    let yes = only_fram_is_judged units who kind at e in
    cc

and_false : (a : Bool) → (a && false) ≡ false
and_false true = refl
and_false false = refl

no_start : (who : Agent) (kind : Kind) (at : ℕ) → nat_lt at 0x1000 ≡ false → is_low_start who kind at ≡ false
no_start (Cpu ia) Fetch at high = ap (λ b. (at == ia) && b) high ∙ and_false (at == ia)
no_start (Cpu ia) Read at high = refl
no_start (Cpu ia) Write at high = refl
no_start Entry kind at high = refl
no_start Dma kind at high = refl
no_start Debug kind at high = refl
no_start Boot kind at high = refl

refused :
    (who : Agent) (kind : Kind) (at : ℕ) (size : Size) (value : ℕ) (part : BusPart) (place : Segment) →
    right_of part.units who kind at ≡ No place →
    access_allowed who kind at size value part ≡ access_refused who place kind size value part
refused who kind at size value part place lacks =
    let fram = refused_is_fram part.units who kind at place (is_fram at) refl lacks in
    let high = not_low at (nat_lt at 0x1000) refl fram in
    ap
    (λ b. if b then record { answer = blank size; part = requested (Some PERIPHERAL_FETCH) part }
    else access_by_right (right_of part.units who kind at) who kind at size value part)
    (no_start who kind at high)
    ∙ ap (λ right. access_by_right right who kind at size value part) lacks

-- ---- the whole access

pub refused_change_little : RefusedChangeLittle
unfolding access
refused_change_little who Fetch at size value part place lacks present =
    subst
    (λ after. ChangesLittle who Fetch at size value place part (listed who Fetch (aligned size at) size true after))
    (sym (refused who Fetch (aligned size at) size value part place lacks)) (record {
      answer = answers who place Fetch size value part;
      rest = refl;
      writes = refl;
      noted = notes who place part Fetch size value;
      list = ap (λ answer. part.accesses ++ as_listed who Fetch (aligned size at) size answer true)
          (answers who place Fetch size value part);
    })
refused_change_little who Read at size value part place lacks present =
    subst
    (λ after. ChangesLittle who Read at size value place part (listed who Read (aligned size at) size true after))
    (sym (refused who Read (aligned size at) size value part place lacks)) (record {
      answer = answers who place Read size value part;
      rest = refl;
      writes = refl;
      noted = notes who place part Read size value;
      list = ap (λ answer. part.accesses ++ as_listed who Read (aligned size at) size answer true)
          (answers who place Read size value part);
    })
refused_change_little who Write at size value part place lacks present =
    subst (ChangesLittle who Write at size value place part)
    (sym
    (ap
    (λ b. if b then write_absent who (aligned size at) size value (numbered part)
    else access_present who Write (aligned size at) size value (numbered part))
    present
    ∙ ap (listed who Write (aligned size at) size true)
    (refused who Write (aligned size at) size value (numbered part) place lacks)))
    (record {
      answer = refl;
      rest = refl;
      writes = refl;
      noted = notes who place part Write size value;
      list = refl;
    })
