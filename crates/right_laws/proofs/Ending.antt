-- The end of a step, place by place.
use Rattle.std.proofs.Common.{◌≡◌, ◌≢◌, ◌<◌, ◌≤◌, ℕ, ◌==◌, ◌&&◌, ◌||◌, not, Bool, true, false, List, length, Some, None, slice_set, arith, refl, ap, sym, ◌∙◌, if◌then◌else◌}
use Rattle.std.proofs.Math.Bool.{and-false, and-true, false-or, or-false, or-true}
use Rattle.std.proofs.lemmas.List.{get_or-set_other, get_or-set_same, length-set}
use Rattle.std.proofs.lemmas.Bool.Decides.{nat_tests}
use Rattle.chip_words.specs.declared.segments.Segment.{Segment}
use Rattle.chip_words.specs.declared.segments.Segment.TheVariants.{One, Two, Three, Info, Sealed}
use Rattle.chip_words.specs.Bits.{has_bit}
use Rattle.chip_words.specs.BusPart.{BusPart}
use Rattle.chip_words.specs.Causes.{with_cause}
use Rattle.chip_words.specs.Mpu.{MPUSEGIE}
use Rattle.chip_words.specs.Segments.{cause_of_violation, flag_of}
use Rattle.chip_words.specs.Steps.{ended_at, ended_with, has_reset, violation_ended}
use Rattle.chip_words.specs.Units.{Units}
use Rattle.right_laws.specs.Ends.{HasAllCauses, NoNotesNoChange, StepsEndByNotes, apart_from_end, at_some_place, flags, has_vs, is_asked, requests}
use Rattle.right_laws.specs.Numbers.{place_flag}
use Rattle.right_laws.proofs.Refusing.{or_flag}

-- ---- one place

reset_by_vs : (place : Segment) (units : Units) → has_reset place units ≡ has_vs place units
reset_by_vs One units = refl
reset_by_vs Two units = refl
reset_by_vs Three units = refl
reset_by_vs Info units = refl
reset_by_vs Sealed units = refl

-- the end of a step at a place leaves VS of each
same_vs :
    (place ended : Segment) (part : BusPart) →
    has_vs place (violation_ended ended part).units ≡ has_vs place part.units
same_vs One ended part = refl
same_vs Two ended part = refl
same_vs Three ended part = refl
same_vs Info ended part = refl
same_vs Sealed ended part = refl

small_cause : (place : Segment) → cause_of_violation place < 65
small_cause One = omega arith
small_cause Two = omega arith
small_cause Three = omega arith
small_cause Info = omega arith
small_cause Sealed = omega arith

set_asked :
    (requested : List Bool) (cause n : ℕ) (test : Bool) → (n == cause) ≡ test → cause < length requested →
    is_asked (slice_set requested cause true) n ≡ (is_asked requested n || test)
set_asked requested cause n true e within =
    let same : n ≡ cause = grind (arith, nat_tests) in
    ap (λ m. is_asked (slice_set requested cause true) m) same
    ∙ get_or-set_same requested cause true false within
    ∙ sym (or-true (is_asked requested n))
set_asked requested cause n false e within =
    let apart : n ≢ cause = λ same. grind (arith, nat_tests) in
    get_or-set_other requested cause n true false apart ∙ sym (or-false (is_asked requested n))

-- the cause of a place, where a test asks for it
cause_asked :
    (requested : List Bool) (place : Segment) (n : ℕ) (test : Bool) → length requested ≡ 65 →
    is_asked (with_cause (if test then Some (cause_of_violation place) else None) requested) n
    ≡ (is_asked requested n || test && n == cause_of_violation place)
cause_asked requested place n true all =
    let small = small_cause place in
    set_asked requested (cause_of_violation place) n (n == cause_of_violation place) refl (omega arith)
cause_asked requested place n false all = sym (or-false (is_asked requested n))

cause_length :
    (requested : List Bool) (place : Segment) (test : Bool) → length requested ≡ 65 →
    length (with_cause (if test then Some (cause_of_violation place) else None) requested) ≡ 65
cause_length requested place true all = length-set requested (cause_of_violation place) true ∙ all
cause_length requested place false all = all

-- the end of a step at one place, by the control of the segments and VS of each place
record EndsAt (noted : Bool) (place : Segment) (control : ℕ) (vs : Segment → Bool) (before after : BusPart) : Type 0 where
  kept_control : ((after.units).mpu).mpuctl0 ≡ control
  kept_vs : (other : Segment) → has_vs other after.units ≡ vs other
  all : HasAllCauses after
  bits : (k : ℕ) → has_bit (flags after) k ≡ (has_bit (flags before) k || noted && k == flag_of place)
  by_step :
      (n : ℕ) →
      is_asked after.causes n
      ≡ (is_asked before.causes n || noted && vs place && n == cause_of_violation place)
  of_chip :
      (n : ℕ) →
      is_asked (requests after) n
      ≡ (is_asked (requests before) n || noted && vs place && n == cause_of_violation place)
  nmi : after.nmi ≡ (before.nmi || noted && not (vs place) && has_bit control MPUSEGIE)
  kept_notes : after.noted ≡ before.noted
  rest : apart_from_end after ≡ apart_from_end before

ends_at :
    (noted : Bool) (place : Segment) (control : ℕ) (vs : Segment → Bool) (part : BusPart) →
    ((part.units).mpu).mpuctl0 ≡ control → ((other : Segment) → has_vs other part.units ≡ vs other) →
    HasAllCauses part → EndsAt noted place control vs part (if noted then violation_ended place part else part)
ends_at false place control vs part control_is vs_is all = record {
  kept_control = control_is;
  kept_vs = vs_is;
  all = all;
  bits = λ k. sym (or-false (has_bit (flags part) k));
  by_step = λ n. sym (or-false (is_asked part.causes n));
  of_chip = λ n. sym (or-false (is_asked (requests part) n));
  nmi = sym (or-false part.nmi);
  kept_notes = refl;
  rest = refl;
}
ends_at true place control vs part control_is vs_is all =
    let resets = has_reset place part.units in
    let by_vs : resets ≡ vs place = reset_by_vs place part.units ∙ vs_is place in
    record {
      kept_control = control_is;
      kept_vs = λ other. same_vs other place part ∙ vs_is other;
      all = record {
        by_step = cause_length part.causes place resets all.by_step;
        of_chip = cause_length (requests part) place resets all.of_chip;
      };
      bits = λ k. or_flag (flags part) (flag_of place) k;
      by_step = λ n.
          cause_asked part.causes place n resets all.by_step
          ∙ ap (λ b. is_asked part.causes n || b && n == cause_of_violation place) by_vs;
      of_chip = λ n.
          cause_asked (requests part) place n resets all.of_chip
          ∙ ap (λ b. is_asked (requests part) n || b && n == cause_of_violation place) by_vs;
      nmi =
          ap (λ b. part.nmi || not b && has_bit ((part.units).mpu).mpuctl0 MPUSEGIE) by_vs
          ∙ ap (λ c. part.nmi || not (vs place) && has_bit c MPUSEGIE) control_is;
      kept_notes = refl;
      rest = refl;
    }

-- ---- five places

-- tests one after another, of what was there before
five : (x a b c d e : Bool) → (x || a || b || c || d || e) ≡ (x || (a || b || c || d || e))
five true a b c d e = refl
five false a b c d e = refl

pub no_notes_no_change : NoNotesNoChange
unfolding ended_with
no_notes_no_change part none =
    ap (λ n. ended_with n (record part { noted = 0 })) none ∙ ap (λ n. record part { noted = n }) (sym none)

-- five places one after another: a test of the bus part that gets one more term at each
chained :
    (x0 x1 x2 x3 x4 x5 a b c d e : Bool) → x1 ≡ (x0 || a) → x2 ≡ (x1 || b) → x3 ≡ (x2 || c) → x4 ≡ (x3 || d) →
    x5 ≡ (x4 || e) → x5 ≡ (x0 || (a || b || c || d || e))
chained x0 x1 x2 x3 x4 x5 a b c d e p q r s t =
    t ∙ ap (λ x. x || e) (s ∙ ap (λ x. x || d) (r ∙ ap (λ x. x || c) (q ∙ ap (λ x. x || b) p))) ∙ five x0 a b c d e

-- a place's own flag is told by its own note
own_flag :
    (had : Bool) (noted : Segment → Bool) (place : Segment) →
    (had || at_some_place (λ other. noted other && place_flag place == place_flag other)) ≡ (had || noted place)
own_flag had noted One = simp (and-false, and-true, or-false, false-or)
own_flag had noted Two = simp (and-false, and-true, or-false, false-or)
own_flag had noted Three = simp (and-false, and-true, false-or)
own_flag had noted Info = simp (and-false, and-true, or-false, false-or)
own_flag had noted Sealed = simp (and-false, and-true, or-false)

-- and no place has a flag above bit 4
no_flag : (k : ℕ) (place : Segment) → 5 ≤ k → (k == place_flag place) ≡ false
no_flag k One high = grind (arith, nat_tests)
no_flag k Two high = grind (arith, nat_tests)
no_flag k Three high = grind (arith, nat_tests)
no_flag k Info high = grind (arith, nat_tests)
no_flag k Sealed high = grind (arith, nat_tests)

none_of_five :
    (had : Bool) (noted test : Segment → Bool) → ((place : Segment) → test place ≡ false) →
    (had || at_some_place (λ place. noted place && test place)) ≡ had
none_of_five had noted test none =
    simp (none Sealed, none Info, none One, none Two, none Three, and-false, or-false)

pub steps_end_by_notes : StepsEndByNotes
unfolding ended_with
steps_end_by_notes part all =
    let noted = λ (place : Segment). has_bit part.noted (place_flag place) in
    let control = ((part.units).mpu).mpuctl0 in
    let vs = λ (place : Segment). has_vs place part.units in
    let p0 : BusPart = record part { noted = 0 } in
    let p1 : BusPart = ended_at part.noted Sealed p0 in
    let p2 : BusPart = ended_at part.noted Info p1 in
    let p3 : BusPart = ended_at part.noted One p2 in
    let p4 : BusPart = ended_at part.noted Two p3 in
    let p5 : BusPart = ended_at part.noted Three p4 in
    let all_before : HasAllCauses p0 = record { by_step = all.by_step; of_chip = all.of_chip } in
    let s1 = ends_at (noted Sealed) Sealed control vs p0 refl (λ place. refl) all_before in
    let s2 = ends_at (noted Info) Info control vs p1 s1.kept_control s1.kept_vs s1.all in
    let s3 = ends_at (noted One) One control vs p2 s2.kept_control s2.kept_vs s2.all in
    let s4 = ends_at (noted Two) Two control vs p3 s3.kept_control s3.kept_vs s3.all in
    let s5 = ends_at (noted Three) Three control vs p4 s4.kept_control s4.kept_vs s4.all in
    let bits = λ (k : ℕ).
    chained _ _ _ _ _ _ _ _ _ _ _ (s1.bits k) (s2.bits k) (s3.bits k) (s4.bits k) (s5.bits k) in
    record {
      flagged = λ place. bits (place_flag place) ∙ own_flag (has_bit (flags part) (place_flag place)) noted place;
      no_others = λ k high.
          bits k
          ∙ none_of_five (has_bit (flags part) k) noted (λ place. k == place_flag place)
          (λ place. no_flag k place high);
      noted = s5.kept_notes ∙ s4.kept_notes ∙ s3.kept_notes ∙ s2.kept_notes ∙ s1.kept_notes;
      by_step = λ n.
          chained _ _ _ _ _ _ _ _ _ _ _ (s1.by_step n) (s2.by_step n) (s3.by_step n) (s4.by_step n) (s5.by_step n);
      of_chip = λ n.
          chained _ _ _ _ _ _ _ _ _ _ _ (s1.of_chip n) (s2.of_chip n) (s3.of_chip n) (s4.of_chip n) (s5.of_chip n);
      nmi = chained _ _ _ _ _ _ _ _ _ _ _ s1.nmi s2.nmi s3.nmi s4.nmi s5.nmi;
      rest = s5.rest ∙ s4.rest ∙ s3.rest ∙ s2.rest ∙ s1.rest;
    }
