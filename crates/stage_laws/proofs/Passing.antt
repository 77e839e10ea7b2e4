-- A stage that leaves the registers and the processor as they are: with the lock set the phase stays as it was.
use Rattle.std.proofs.Common.{◌≡◌, ℕ, List, Bool, true, false, not, ◌&&◌, slice_index, arith, refl, ap, sym, ◌∙◌}
use Rattle.std.proofs.lemmas.Bool.Decides.{nat_tests}
use Rattle.chip_words.specs.Encap.{Encap, is_locked, seal}
use Rattle.chip_words.specs.Registers.{PC}
use Rattle.chip_words.specs.Seals.{is_in}
use Rattle.access_laws.proofs.Masks.{is_in-nowhere}
use Rattle.chip_core.specs.Items.{power_bits}
use Rattle.chip_core.specs.Phase.{is_private, is_up}
use Rattle.chip_core.specs.State.{State}
use Rattle.stage_laws.specs.Alike.{LookAlike}
use Rattle.stage_laws.proofs.Faces.{LookAlike-face, LookAlike-phase, LookAlike-power, face, face-LookAlike, outer, private-LookAlike}

-- the processor stands still, and with the lock set the encapsulation does
pub record IsPassed (before after : State) : Type 0 where
  pub registers : after.registers ≡ before.registers
  pub busy : after.busy ≡ before.busy
  pub halted : after.halted ≡ before.halted
  pub up : is_up after ≡ is_up before
  pub encap : is_locked before.bus.units.encap ≡ true → after.bus.units.encap ≡ before.bus.units.encap

-- ---- the phase

in-locked : (encap : Encap) (at : ℕ) → is_in (seal encap) at ≡ true → is_locked encap ≡ true
in-locked encap at inside = grind (arith, nat_tests, is_in-nowhere at)

pub private-locked : (chip : State) → is_private chip ≡ true → is_locked chip.bus.units.encap ≡ true
unfolding is_private
private-locked chip private =
    in-locked chip.bus.units.encap (slice_index chip.registers PC) (grind (arith, nat_tests))

pub passed-private : (before after : State) → IsPassed before after → is_private before ≡ true → is_private after ≡ true
unfolding is_private
passed-private before after passed private =
    let encap = passed.encap (private-locked before private) in
    let phase : Bool → Bool → Encap → List ℕ → Bool = λ up halted encap registers.
    up && not halted && is_in (seal encap) (slice_index registers PC) in
    ap (λ up. phase up after.halted after.bus.units.encap after.registers) passed.up
    ∙ ap (λ halted. phase (is_up before) halted after.bus.units.encap after.registers) passed.halted
    ∙ ap (λ encap. phase (is_up before) before.halted encap after.registers) encap
    ∙ ap (phase (is_up before) before.halted before.bus.units.encap) passed.registers
    ∙ private

-- ---- two chips

-- in public phase all but the bus part is equal behind it
pub passed-faces :
    (a b x y : State) → is_private a ≡ false → LookAlike a b → IsPassed a x → IsPassed b y → outer x ≡ outer y →
    face x ≡ face y
passed-faces a b x y public alike passed_a passed_b same =
    let faces = LookAlike-face a b public alike in
    let registers = passed_a.registers ∙ ap (λ (chip : State). chip.registers) faces ∙ sym passed_b.registers in
    let busy = passed_a.busy ∙ ap (λ (chip : State). chip.busy) faces ∙ sym passed_b.busy in
    ap (λ (chip : State). record chip { registers = x.registers; busy = x.busy }) same
    ∙ ap (λ registers. record (face y) { registers = registers; busy = x.busy }) registers
    ∙ ap (λ busy. record (face y) { busy = busy }) busy

-- and in either phase they look alike
pub passed-LookAlike :
    (a b x y : State) → LookAlike a b → IsPassed a x → IsPassed b y → outer x ≡ outer y → LookAlike x y
passed-LookAlike a b x y alike passed_a passed_b same = by_phase (is_private a) refl
  where
    power : (before after : State) → IsPassed before after → power_bits after ≡ power_bits before
    power before after passed =
        ap (λ registers. power_bits (record after { registers = registers })) passed.registers

    by_phase : (private : Bool) → is_private a ≡ private → LookAlike x y
    by_phase false public = face-LookAlike x y (passed-faces a b x y public alike passed_a passed_b same)
    by_phase true private =
        let private_b = sym (LookAlike-phase a b alike) ∙ private in
        private-LookAlike x y (passed-private a x passed_a private) (passed-private b y passed_b private_b) same
        (power a x passed_a ∙ LookAlike-power a b alike ∙ sym (power b y passed_b))
