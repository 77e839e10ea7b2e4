-- The end of a tick: the reset, the cut, and what holds of the chip behind them.
use Rattle.std.proofs.Common.{◌≡◌, ◌≢◌, ◌<◌, ◌&&◌, ℕ, List, Bool, true, false, length, slice_index, arith, refl, ap, sym, ◌∙◌, subst, if◌then◌else◌, zero, suc, replicate}
use Rattle.std.specs.Prelude.{Option, Some, None}
use Rattle.std.proofs.lemmas.Bool.Decides.{nat_tests}
use Rattle.chip_words.specs.BusPart.{BusPart}
use Rattle.chip_words.specs.Causes.{is_of_bor, no_causes}
use Rattle.chip_words.specs.Map.{is_sram}
use Rattle.chip_words.specs.Memory.{memory_size}
use Rattle.chip_words.specs.Public.{IsSettled}
use Rattle.chip_words.specs.Registers.{AreRegisters, PC, SR, no_registers}
use Rattle.access_laws.specs.Boots.{HasBorders}
use Rattle.access_laws.proofs.Masks.{seal-HasBorders}
use Rattle.bus_fabric.specs.Memory.{sram_filled}
use Rattle.bus_fabric.proofs.MemoryBy.{length-memory_by, same_memory, slice_index-memory_by}
use Rattle.interrupt_reset.proofs.LeastCause.{least_cause-none}
use Rattle.boot_code.specs.Boot.{ERASING}
use Rattle.boot_code.specs.Facts.{is_mark, is_unerased}
use Rattle.right_laws.specs.Ends.{requests}
use Rattle.chip_core.specs.Phase.{is_up}
use Rattle.chip_core.specs.State.{State}
use Rattle.chip_core.specs.Tick.{after_bor, after_cause, after_puc, behind_tick, cut, reset, taken_cause}
use Rattle.release_log.specs.Facts.{FitsChip, IsSound, IsUnpowered}
use Rattle.release_log.specs.Sound.{DEBUGGER}
use Rattle.release_log.proofs.Registers.{with_register-Are}
use Rattle.release_log.proofs.Requests.{debugger_comes_first}
use Rattle.release_log.proofs.Running.{IsRunning}

-- ---- what holds

-- of a chip behind the last stage of a tick
pub record IsEnded (chip : State) : Type 0 where
  pub unrequested : requests chip.bus ≡ no_causes
  pub quiet : chip.bus.noted ≡ 0
  pub size : length chip.bus.memory ≡ memory_size
  pub registers : AreRegisters chip.registers
  pub marked : is_mark chip.keep.mark ≡ true
  pub borders : HasBorders chip.bus.kept
  pub settled : is_up chip ≡ true → IsSettled chip.bus
  pub unpowered : chip.powered ≡ false → IsUnpowered chip
  pub fit : FitsChip chip.boot chip.keep chip.bus.memory

unpowered-behind : (tick : ℕ) (chip : State) → IsUnpowered chip → IsUnpowered (behind_tick tick chip)
unpowered-behind tick chip is = record {
  registers = is.registers;
  sram = is.sram;
  idle = is.idle;
  alive = is.alive;
  running = is.running;
  unasked = is.unasked;
  first_tick = is.first_tick;
  place = is.place;
}

-- the end of the tick leaves nothing counted and nothing listed
pub behind_tick-IsSound : (tick : ℕ) (chip : State) → IsEnded chip → IsSound (behind_tick tick chip)
behind_tick-IsSound tick chip is = record {
  unrequested = is.unrequested;
  quiet = is.quiet;
  unnumbered = refl;
  unbudgeted = refl;
  unlisted = refl;
  uncaused = refl;
  size = is.size;
  registers = is.registers;
  marked = is.marked;
  borders = is.borders;
  settled = λ up. is.settled up;
  unpowered = λ off. unpowered-behind tick chip (is.unpowered off);
  fit = is.fit;
}

pub sound-IsEnded : (chip : State) → IsSound chip → IsEnded chip
sound-IsEnded chip is = record {
  unrequested = is.unrequested;
  quiet = is.quiet;
  size = is.size;
  registers = is.registers;
  marked = is.marked;
  borders = is.borders;
  settled = is.settled;
  unpowered = is.unpowered;
  fit = is.fit;
}

-- ---- truth values

pub true-false : true ≡ false → ⊥
true-false e = cc

-- a chip whose boot isn't done isn't up, nor is one without power
pub and-false : (test : Bool) → (test && false) ≡ false
and-false true = refl
and-false false = refl

-- ---- registers and marks

zeros : (n k : ℕ) → slice_index (replicate n 0) k ≡ 0
zeros zero k = refl
zeros (suc n) zero = refl
zeros (suc n) (suc k) = zeros n k

zeros-small : (k : ℕ) → slice_index no_registers k < 0x100000
zeros-small k = let zero : slice_index no_registers k ≡ 0 = zeros 16 k in omega arith

pub no_registers-Are : AreRegisters no_registers
no_registers-Are = record { count = refl; small = zeros-small; even = refl; status = omega arith; constant = refl }

pub settled-HasBorders : (part : BusPart) → IsSettled part → HasBorders part.kept
settled-HasBorders part settled = subst HasBorders (sym settled) (seal-HasBorders part.units.encap)

mark-unerased : (mark : ℕ) → is_mark mark ≡ true → mark ≢ ERASING → is_unerased mark ≡ true
mark-unerased mark marked other = by_test (is_unerased mark) refl
  where
    by_test : (test : Bool) → is_unerased mark ≡ test → is_unerased mark ≡ true
    by_test true is = is
    by_test false is = absurd (other (grind (arith, nat_tests)))

-- ---- the reset

-- the cause that is taken is one of a BOR
is_bor_taken : Option ℕ → Bool
is_bor_taken (Some cause) = is_of_bor cause
is_bor_taken None = false

-- an erase that has begun leads to a BOR
unerased : (chip : State) → IsRunning chip → is_bor_taken (taken_cause chip) ≡ false → is_unerased chip.keep.mark ≡ true
unfolding is_bor_taken
unerased chip is no_bor =
    mark-unerased chip.keep.mark is.marked (λ marked.
    let debugger : taken_cause chip ≡ Some DEBUGGER =
    debugger_comes_first.taken (requests chip.bus) is.high (is.erasing marked) in
    true-false (sym (ap is_bor_taken debugger) ∙ no_bor))

pub after_bor-IsEnded :
    (cause : ℕ) (chip : State) → chip.powered ≡ true → chip.bus.noted ≡ 0 → length chip.bus.memory ≡ memory_size →
    is_mark chip.keep.mark ≡ true → HasBorders chip.bus.kept → IsEnded (after_bor cause chip)
after_bor-IsEnded cause chip powered quiet size marked borders = record {
  unrequested = refl;
  quiet = quiet;
  size = size;
  registers = no_registers-Are;
  marked = marked;
  borders = borders;
  settled = λ up. absurd (true-false (sym up ∙ and-false chip.powered));
  unpowered = λ off. absurd (true-false (sym powered ∙ off));
  fit = marked;
}

after_puc-IsEnded :
    (cause : ℕ) (chip : State) → IsRunning chip → is_unerased chip.keep.mark ≡ true → IsEnded (after_puc cause chip)
after_puc-IsEnded cause chip is fits = record {
  unrequested = refl;
  quiet = is.quiet;
  size = is.size;
  registers = with_register-Are _ PC _ (with_register-Are chip.registers SR 0 is.registers);
  marked = is.marked;
  borders = settled-HasBorders chip.bus is.settled;
  settled = λ up. is.settled;
  unpowered = λ off. absurd (true-false (sym is.powered ∙ off));
  fit = subst (λ boot. FitsChip boot chip.keep chip.bus.memory) (sym is.booted) fits;
}

cause-IsEnded :
    (cause : ℕ) (chip : State) → IsRunning chip → (is_of_bor cause ≡ false → is_unerased chip.keep.mark ≡ true) →
    IsEnded (after_cause (Some cause) chip)
cause-IsEnded cause chip is fits = by_kind (is_of_bor cause) refl
  where
    by_kind :
        (test : Bool) → is_of_bor cause ≡ test → IsEnded (if test then after_bor cause chip else after_puc cause chip)
    by_kind true kind =
        after_bor-IsEnded cause chip is.powered is.quiet is.size is.marked (settled-HasBorders chip.bus is.settled)
    by_kind false kind = after_puc-IsEnded cause chip is (fits kind)

-- without a request
unreset-IsEnded :
    (chip : State) → IsRunning chip → requests chip.bus ≡ no_causes → is_unerased chip.keep.mark ≡ true → IsEnded chip
unreset-IsEnded chip is none fits = record {
  unrequested = none;
  quiet = is.quiet;
  size = is.size;
  registers = is.registers;
  marked = is.marked;
  borders = settled-HasBorders chip.bus is.settled;
  settled = λ up. is.settled;
  unpowered = λ off. absurd (true-false (sym is.powered ∙ off));
  fit = subst (λ boot. FitsChip boot chip.keep chip.bus.memory) (sym is.booted) fits;
}

pub reset-IsEnded : (chip : State) → IsRunning chip → IsEnded (reset chip)
unfolding reset is_bor_taken
reset-IsEnded chip is = by_cause (taken_cause chip) refl
  where
    by_cause : (taken : Option ℕ) → taken_cause chip ≡ taken → IsEnded (after_cause taken chip)
    by_cause (Some cause) taken =
        cause-IsEnded cause chip is (λ kind. unerased chip is (ap is_bor_taken taken ∙ kind))
    by_cause None taken =
        unreset-IsEnded chip is (least_cause-none (requests chip.bus) is.count taken)
        (unerased chip is (ap is_bor_taken taken))

-- ---- the cut

-- what a cut needs of the chip
pub record IsCuttable (chip : State) : Type 0 where
  pub marked : is_mark chip.keep.mark ≡ true
  pub borders : HasBorders chip.bus.kept

pub running-IsCuttable : (chip : State) → IsRunning chip → IsCuttable chip
running-IsCuttable chip is = record { marked = is.marked; borders = settled-HasBorders chip.bus is.settled }

chosen-twice :
    (test : Bool) (fill byte again : ℕ) → again ≡ (if test then fill else byte) →
    (if test then fill else again) ≡ (if test then fill else byte)
chosen-twice true fill byte again e = refl
chosen-twice false fill byte again e = e

-- SRAM that is filled is as it was
pub sram_filled-twice :
    (fill : ℕ) (memory : List ℕ) → sram_filled fill (sram_filled fill memory) ≡ sram_filled fill memory
sram_filled-twice fill memory =
    let byte : ℕ → ℕ = λ at. if is_sram at then fill else slice_index memory at in
    same_memory (λ at. if is_sram at then fill else slice_index (sram_filled fill memory) at) byte
    (λ at within. chosen-twice (is_sram at) fill (slice_index memory at) _ (slice_index-memory_by byte at within))

pub cut-IsEnded : (chip : State) → IsCuttable chip → IsEnded (cut chip)
unfolding cut
cut-IsEnded chip is = record {
  unrequested = refl;
  quiet = refl;
  size = length-memory_by (λ at. if is_sram at then chip.bus.fill else slice_index chip.bus.memory at);
  registers = no_registers-Are;
  marked = is.marked;
  borders = is.borders;
  settled = λ up. absurd (true-false (sym up));
  unpowered = λ off. record {
    registers = refl;
    sram = sram_filled-twice chip.bus.fill chip.bus.memory;
    idle = refl;
    alive = refl;
    running = refl;
    unasked = refl;
    first_tick = refl;
    place = refl;
  };
  fit = is.marked;
}
