-- Which accesses the area and the segments judge.
use Rattle.std.proofs.Common.{◌≡◌, ◌≢◌, ◌<◌, ◌+◌, nat_le, nat_lt, ℕ, ◌&&◌, ◌||◌, not, Bool, true, false, arith, refl, ap, sym, ◌∙◌, inl, inr, if◌then◌else◌}
use Rattle.std.proofs.Math.Bool.{and-false, or-true}
use Rattle.std.proofs.lemmas.Bool.Decides.{nat_tests}
use Rattle.chip_words.specs.declared.accesses.Agent.{Agent}
use Rattle.chip_words.specs.declared.accesses.Agent.TheVariants.{Cpu, Entry, Dma, Debug, Boot}
use Rattle.chip_words.specs.declared.accesses.Kind.{Kind}
use Rattle.chip_words.specs.declared.accesses.Kind.TheVariants.{Fetch, Read, Write}
use Rattle.chip_words.specs.declared.regions.Region.TheVariants.{Main}
use Rattle.chip_words.specs.declared.seals.Seal.{Seal}
use Rattle.chip_words.specs.declared.segments.Right.{Right}
use Rattle.chip_words.specs.declared.segments.Right.TheVariants.{Yes, No}
use Rattle.chip_words.specs.declared.segments.Segment.{Segment}
use Rattle.chip_words.specs.declared.segments.Segment.TheVariants.{One, Two, Three, Info, Sealed}
use Rattle.chip_words.specs.Bits.{has_bit}
use Rattle.chip_words.specs.Encap.{Encap, MPUIPENA, allows, area, has_area_right}
use Rattle.chip_words.specs.Map.{is_fram, keeps_without_power, region_at}
use Rattle.chip_words.specs.Mpu.{MPUENA, Mpu, gives, segment_at, segment_right}
use Rattle.chip_words.specs.Right.{is_segmented, right_of}
use Rattle.chip_words.specs.Seals.{between, is_in, is_main_fram, is_never_sealed, nowhere}
use Rattle.chip_words.specs.Segments.{MAIN_FRAM, border}
use Rattle.chip_words.specs.Units.{Units}
use Rattle.right_laws.specs.Areas.{area_begin}
use Rattle.right_laws.specs.Insiders.{AreaRefusesOthers, IsInsider, IsKeptOut, IsLeftToSegments, JumpsInAreAllowed}
use Rattle.right_laws.specs.Judged.{DisabledRefusesNothing, HasRightsOffArea, OnlyFramIsJudged, OthersAreNotJudged}
use Rattle.right_laws.specs.Rights.{RightsGoByBits, has_right, right_by_bit}

-- ---- the area's answer

-- the right by what the area answers
abbrev right_if : Bool → Units → Agent → Kind → ℕ → Right
right_if allowed units who kind at =
    if not allowed then No Sealed else if is_segmented who then segment_right units.mpu kind at else Yes

by_answer :
    (units : Units) (who : Agent) (kind : Kind) (at : ℕ) (answer : Bool) → allows units.encap who kind at ≡ answer →
    right_of units who kind at ≡ right_if answer units who kind at
unfolding right_of
by_answer units who kind at answer e = ap (λ b. right_if b units who kind at) e

-- the area's answer by two tests
abbrev answer_by : Bool → Bool → Bool
answer_by inside has = not inside || has

allowed_off :
    (encap : Encap) (who : Agent) (kind : Kind) (at : ℕ) → is_in (area encap) at ≡ false →
    allows encap who kind at ≡ true
unfolding allows
allowed_off encap who kind at off = ap (λ b. answer_by b (has_area_right encap who kind)) off

allowed_by :
    (encap : Encap) (who : Agent) (kind : Kind) (at : ℕ) → has_area_right encap who kind ≡ true →
    allows encap who kind at ≡ true
unfolding allows
allowed_by encap who kind at has =
    ap (answer_by (is_in (area encap) at)) has ∙ or-true (not (is_in (area encap) at))

refused_in :
    (encap : Encap) (who : Agent) (kind : Kind) (at : ℕ) → is_in (area encap) at ≡ true →
    has_area_right encap who kind ≡ false → allows encap who kind at ≡ false
unfolding allows
refused_in encap who kind at inside lacks =
    ap (λ b. answer_by b (has_area_right encap who kind)) inside ∙ lacks

-- ---- whom the area refuses

insider_has : (encap : Encap) (ia : ℕ) (kind : Kind) → IsInsider encap ia kind → has_area_right encap (Cpu ia) kind ≡ true
insider_has encap ia Fetch inside = inside
insider_has encap ia Read (inside, behind) =
    ap (λ b. b && nat_le (area_begin encap + 8) ia) inside ∙ grind (arith, nat_tests)
insider_has encap ia Write (inside, behind) =
    ap (λ b. b && nat_le (area_begin encap + 8) ia) inside ∙ grind (arith, nat_tests)

outsider_lacks :
    (encap : Encap) (ia : ℕ) (kind : Kind) → is_in (area encap) ia ≡ false →
    has_area_right encap (Cpu ia) kind ≡ false
outsider_lacks encap ia Fetch off = off
outsider_lacks encap ia Read off = ap (λ b. b && nat_le (area_begin encap + 8) ia) off
outsider_lacks encap ia Write off = ap (λ b. b && nat_le (area_begin encap + 8) ia) off

first_bytes_lack :
    (encap : Encap) (ia : ℕ) (kind : Kind) → ia < area_begin encap + 8 → kind ≢ Fetch →
    has_area_right encap (Cpu ia) kind ≡ false
first_bytes_lack encap ia Fetch low reads = absurd (reads refl)
first_bytes_lack encap ia Read low reads =
    let no : nat_le (area_begin encap + 8) ia ≡ false = grind (arith, nat_tests) in
    ap (λ b. is_in (area encap) ia && b) no ∙ and-false (is_in (area encap) ia)
first_bytes_lack encap ia Write low reads =
    let no : nat_le (area_begin encap + 8) ia ≡ false = grind (arith, nat_tests) in
    ap (λ b. is_in (area encap) ia && b) no ∙ and-false (is_in (area encap) ia)

kept_out :
    (units : Units) (who : Agent) → ((kind : Kind) → has_area_right units.encap who kind ≡ false) →
    IsKeptOut units who
kept_out units who lacks kind at inside =
    by_answer units who kind at false (refused_in units.encap who kind at inside (lacks kind))

pub area_refuses_others : AreaRefusesOthers
area_refuses_others = record {
  code = λ units ia off. kept_out units (Cpu ia) (λ kind. outsider_lacks units.encap ia kind off);
  first_bytes = λ units ia kind at low reads inside.
      by_answer units (Cpu ia) kind at false
      (refused_in units.encap (Cpu ia) kind at inside (first_bytes_lack units.encap ia kind low reads));
  entry = λ units. kept_out units Entry (λ kind. refl);
  dma = λ units. kept_out units Dma (λ kind. refl);
  debug = λ units. kept_out units Debug (λ kind. refl);
}

-- ---- what it leaves to the segments

left_is_allowed :
    (encap : Encap) (who : Agent) (kind : Kind) (at : ℕ) → IsLeftToSegments encap who kind at →
    allows encap who kind at ≡ true
left_is_allowed encap (Cpu ia) kind at (inl off) = allowed_off encap (Cpu ia) kind at off
left_is_allowed encap (Cpu ia) kind at (inr inside) =
    allowed_by encap (Cpu ia) kind at (insider_has encap ia kind inside)
left_is_allowed encap Entry kind at off = allowed_off encap Entry kind at off
left_is_allowed encap Dma kind at off = allowed_off encap Dma kind at off
left_is_allowed encap Debug kind at off = allowed_off encap Debug kind at off
left_is_allowed encap Boot kind at off = allowed_off encap Boot kind at off

off_is_left :
    (encap : Encap) (who : Agent) (kind : Kind) (at : ℕ) → is_in (area encap) at ≡ false →
    IsLeftToSegments encap who kind at
off_is_left encap (Cpu ia) kind at off = inl off
off_is_left encap Entry kind at off = off
off_is_left encap Dma kind at off = off
off_is_left encap Debug kind at off = off
off_is_left encap Boot kind at off = off

by_left :
    (units : Units) (who : Agent) (kind : Kind) (at : ℕ) → IsLeftToSegments units.encap who kind at →
    right_of units who kind at ≡ right_if true units who kind at
by_left units who kind at left = by_answer units who kind at true (left_is_allowed units.encap who kind at left)

-- ---- the segments

-- the right by the three tests
abbrev right_by : Mpu → Kind → ℕ → Bool → Bool → Right
right_by mpu kind at enabled fram =
    if enabled && fram && not (gives mpu kind (segment_at mpu at)) then No (segment_at mpu at) else Yes

disabled : (mpu : Mpu) (kind : Kind) (at : ℕ) → has_bit mpu.mpuctl0 MPUENA ≡ false → segment_right mpu kind at ≡ Yes
unfolding segment_right
disabled mpu kind at off = ap (λ b. right_by mpu kind at b (is_fram at)) off

no_enabled_judges : (mpu : Mpu) (kind : Kind) (at : ℕ) (enabled : Bool) → right_by mpu kind at enabled false ≡ Yes
no_enabled_judges mpu kind at true = refl
no_enabled_judges mpu kind at false = refl

off_fram : (mpu : Mpu) (kind : Kind) (at : ℕ) → is_fram at ≡ false → segment_right mpu kind at ≡ Yes
unfolding segment_right
off_fram mpu kind at off =
    ap (λ b. right_by mpu kind at (has_bit mpu.mpuctl0 MPUENA) b) off
    ∙ no_enabled_judges mpu kind at (has_bit mpu.mpuctl0 MPUENA)

either_yes : (test : Bool) (right : Right) → right ≡ Yes → (if test then right else Yes) ≡ Yes
either_yes true right passes = passes
either_yes false right passes = refl

-- an access that neither the area nor a segment refuses
not_refused :
    (units : Units) (who : Agent) (kind : Kind) (at : ℕ) → IsLeftToSegments units.encap who kind at →
    segment_right units.mpu kind at ≡ Yes → right_of units who kind at ≡ Yes
not_refused units who kind at left passes =
    by_left units who kind at left ∙ either_yes (is_segmented who) (segment_right units.mpu kind at) passes

-- ---- what can be refused

nowhere_holds : (at : ℕ) → is_in nowhere at ≡ false
unfolding is_in
nowhere_holds at = grind (arith, nat_tests)

off_disabled_area : (encap : Encap) (at : ℕ) → has_bit encap.mpuipc0 MPUIPENA ≡ false → is_in (area encap) at ≡ false
unfolding area
off_disabled_area encap at off =
    ap (λ b. is_in (if b then between (border encap.mpuipsegb1) (border encap.mpuipsegb2) else nowhere) at) off
    ∙ nowhere_holds at

pub disabled_refuses_nothing : DisabledRefusesNothing
disabled_refuses_nothing = record {
  segments = λ units who kind at off left. not_refused units who kind at left (disabled units.mpu kind at off);
  both = λ units who off area_off kind at.
      not_refused units who kind at (off_is_left units.encap who kind at (off_disabled_area units.encap at area_off))
      (disabled units.mpu kind at off);
}

third : (a b c d : Bool) → (a && b && c && d) ≡ true → c ≡ true
third true true true d e = refl
third true true false d e = cc
third true false c d e = cc
third false b c d e = cc

in_row : (at : ℕ) → is_main_fram at ≡ true → region_at at ≡ Main
unfolding region_at
in_row at main = grind (arith, nat_tests)

main_is_fram : (at : ℕ) → is_main_fram at ≡ true → is_fram at ≡ true
unfolding is_fram
main_is_fram at main = ap keeps_without_power (in_row at main)

pub held_is_fram : (held : Seal) (at : ℕ) → is_in held at ≡ true → is_fram at ≡ true
unfolding is_in
held_is_fram held at inside =
    main_is_fram at
    (third (nat_le held.low at) (nat_lt at held.high) (is_main_fram at) (not (is_never_sealed at)) inside)

off_fram_is_off_area :
    (encap : Encap) (at : ℕ) (test : Bool) → is_in (area encap) at ≡ test → is_fram at ≡ false →
    is_in (area encap) at ≡ false
off_fram_is_off_area encap at false e off = e
off_fram_is_off_area encap at true e off =
    let fram = held_is_fram (area encap) at e in
    cc

pub only_fram_is_judged : OnlyFramIsJudged
only_fram_is_judged units who kind at off =
    not_refused units who kind at
    (off_is_left units.encap who kind at
    (off_fram_is_off_area units.encap at (is_in (area units.encap) at) refl off))
    (off_fram units.mpu kind at off)

off_area : (units : Units) (who : Agent) → is_segmented who ≡ false → HasRightsOffArea units who
off_area units who apart kind at off =
    by_left units who kind at (off_is_left units.encap who kind at off)
    ∙ ap (λ b. if b then segment_right units.mpu kind at else Yes) apart

pub others_are_not_judged : OthersAreNotJudged
others_are_not_judged = record {
  entry = λ units. off_area units Entry refl;
  debug = λ units. off_area units Debug refl;
  boot = λ units kind at. by_answer units Boot kind at true (allowed_by units.encap Boot kind at refl);
}

-- ---- rights

not_sealed :
    (info three two : Bool) →
    (if info then Info else if three then Three else if two then Two else One) ≢ Sealed
not_sealed true three two = λ e. cc
not_sealed false true two = λ e. cc
not_sealed false false true = λ e. cc
not_sealed false false false = λ e. cc

never_sealed : (mpu : Mpu) (at : ℕ) → segment_at mpu at ≢ Sealed
never_sealed mpu at =
    not_sealed (nat_lt at MAIN_FRAM) (nat_le (border mpu.mpusegb2) at) (nat_le (border mpu.mpusegb1) at)

by_bit :
    (mpu : Mpu) (place : Segment) (kind : Kind) → place ≢ Sealed →
    gives mpu kind place ≡ has_right place kind mpu.mpusam
by_bit mpu One Fetch inside = refl
by_bit mpu One Read inside = refl
by_bit mpu One Write inside = refl
by_bit mpu Two Fetch inside = refl
by_bit mpu Two Read inside = refl
by_bit mpu Two Write inside = refl
by_bit mpu Three Fetch inside = refl
by_bit mpu Three Read inside = refl
by_bit mpu Three Write inside = refl
by_bit mpu Info Fetch inside = refl
by_bit mpu Info Read inside = refl
by_bit mpu Info Write inside = refl
by_bit mpu Sealed kind inside = absurd (inside refl)

by_not : (test : Bool) (place : Segment) → (if not test then No place else Yes) ≡ (if test then Yes else No place)
by_not true place = refl
by_not false place = refl

judged_by_bit :
    (mpu : Mpu) (kind : Kind) (at : ℕ) → has_bit mpu.mpuctl0 MPUENA ≡ true → is_fram at ≡ true →
    segment_right mpu kind at ≡ right_by_bit mpu kind at
unfolding segment_right
judged_by_bit mpu kind at enabled fram =
    let place = segment_at mpu at in
    ap (λ b. right_by mpu kind at b (is_fram at)) enabled
    ∙ ap (λ b. right_by mpu kind at true b) fram
    ∙ by_not (gives mpu kind place) place
    ∙ ap (λ b. if b then Yes else No place) (by_bit mpu place kind (never_sealed mpu at))

pub rights_go_by_bits : RightsGoByBits
rights_go_by_bits = record {
  processor = λ units ia kind at enabled fram left.
      by_left units (Cpu ia) kind at left ∙ judged_by_bit units.mpu kind at enabled fram;
  dma = λ units kind at enabled fram left.
      by_left units Dma kind at left ∙ judged_by_bit units.mpu kind at enabled fram;
}

-- ---- jumps

either_not_sealed : (test : Bool) (place : Segment) → place ≢ Sealed → (if test then No place else Yes) ≢ No Sealed
either_not_sealed true place apart = λ e. apart cc
either_not_sealed false place apart = λ e. cc

segments_are_not_sealed : (mpu : Mpu) (kind : Kind) (at : ℕ) → segment_right mpu kind at ≢ No Sealed
unfolding segment_right
segments_are_not_sealed mpu kind at =
    either_not_sealed (has_bit mpu.mpuctl0 MPUENA && is_fram at && not (gives mpu kind (segment_at mpu at)))
    (segment_at mpu at) (never_sealed mpu at)

own_fetch_is_left : (encap : Encap) (ia : ℕ) (test : Bool) → is_in (area encap) ia ≡ test → IsLeftToSegments encap (Cpu ia) Fetch ia
own_fetch_is_left encap ia true inside = inr inside
own_fetch_is_left encap ia false off = inl off

pub jumps_in_are_allowed : JumpsInAreAllowed
jumps_in_are_allowed units ia sealed =
    let left = own_fetch_is_left units.encap ia (is_in (area units.encap) ia) refl in
    let same = by_left units (Cpu ia) Fetch ia left in
    segments_are_not_sealed units.mpu Fetch ia (sym same ∙ sealed)
