-- The cut.
use Rattle.std.proofs.Common.{◌≡◌, ◌+◌, ◌<◌, ℕ, suc, List, [], ◌∷◌, Bool, true, false, length, slice_index, arith, refl, ap, sym, ◌∙◌, if◌then◌else◌}
use Rattle.std.specs.Prelude.{Some, None}
use Rattle.chip_words.specs.declared.seals.Seal.{Seal}
use Rattle.chip_words.specs.Causes.{NO_CAUSE, no_causes}
use Rattle.chip_words.specs.Dma.{first_dma}
use Rattle.chip_words.specs.Encap.{first_encap}
use Rattle.chip_words.specs.Fram.{first_fram}
use Rattle.chip_words.specs.Map.{is_sram}
use Rattle.chip_words.specs.Memory.{memory_size}
use Rattle.chip_words.specs.Mpu.{first_mpu}
use Rattle.chip_words.specs.Ports.{PortPair, no_pair}
use Rattle.chip_words.specs.Public.{hidden, hidden_from}
use Rattle.chip_words.specs.Registers.{no_registers}
use Rattle.chip_words.specs.Seals.{is_in}
use Rattle.chip_words.specs.Sys.{first_sys}
use Rattle.chip_words.specs.Timers.{first_timers}
use Rattle.boot_code.specs.Place.{Start}
use Rattle.access_laws.proofs.Masks.{hidden-get, hidden-twice}
use Rattle.bus_fabric.specs.Memory.{sram_filled}
use Rattle.bus_fabric.proofs.MemoryBy.{length-memory_by, slice_index-memory_by}
use Rattle.chip_core.specs.Phase.{is_private}
use Rattle.chip_core.specs.Pins.{open_pins, pins_of}
use Rattle.chip_core.specs.State.{State}
use Rattle.chip_core.specs.Tick.{cut}
use Rattle.stage_laws.specs.Cuts.{CutsEndAlike, Lasting, PublicPartsLast, lasting}
use Rattle.stage_laws.specs.Seen.{Seen, always_public, seen}
use Rattle.stage_laws.specs.Stages.{turned}

-- ---- memory

both_are : (x y : ℕ) (xs ys : List ℕ) → x ≡ y → xs ≡ ys → x ∷ xs ≡ y ∷ ys
both_are x y xs ys first rest = cc

hidden_byte : (inside : Bool) (x y : ℕ) → (inside ≡ false → x ≡ y) → (if inside then 0 else x) ≡ (if inside then 0 else y)
hidden_byte true x y same = refl
hidden_byte false x y same = same refl

-- two memories with the same bytes where a seal holds none
pub hidden_from-same :
    (seal : Seal) (at : ℕ) (one other : List ℕ) → length one ≡ length other →
    ((k : ℕ) → k < length one → is_in seal (at + k) ≡ false → slice_index one k ≡ slice_index other k) →
    hidden_from seal at one ≡ hidden_from seal at other
hidden_from-same seal at [] [] count same = refl
hidden_from-same seal at [] (y ∷ ys) count same = absurd (omega arith)
hidden_from-same seal at (x ∷ xs) [] count same = absurd (omega arith)
hidden_from-same seal at (x ∷ xs) (y ∷ ys) count same =
    let here : at + 0 ≡ at = omega arith in
    both_are _ _ _ _
    (hidden_byte (is_in seal at) x y (λ outside. same 0 (omega arith) (rw here outside)))
    (hidden_from-same seal (at + 1) xs ys (omega arith)
    (λ k within outside.
    let next : at + suc k ≡ at + 1 + k = omega arith in
    same (suc k) (omega arith) (rw next outside)))

-- SRAM that is filled shows nothing of the bytes that are hidden
filled-hidden :
    (seal : Seal) (fill : ℕ) (memory : List ℕ) →
    hidden seal (sram_filled fill memory) ≡ hidden seal (sram_filled fill (hidden seal memory))
unfolding hidden
filled-hidden seal fill memory =
    hidden_from-same seal 0 (sram_filled fill memory) (sram_filled fill (hidden seal memory))
    (length-memory_by byte ∙ sym (length-memory_by other))
    (λ k within outside.
    let few : k < memory_size = omega (arith, within, length-memory_by byte) in
    let here : 0 + k ≡ k = omega arith in
    slice_index-memory_by byte k few
    ∙ ap (λ x. if is_sram k then fill else x) (sym (hidden-get seal memory k (rw (← here) outside)))
    ∙ sym (slice_index-memory_by other k few))
  where
    byte : ℕ → ℕ
    byte at = if is_sram at then fill else slice_index memory at

    other : ℕ → ℕ
    other at = if is_sram at then fill else slice_index (hidden seal memory) at

-- ---- the cut

abbrev with_levels : ℕ → PortPair
with_levels levels = record no_pair { levels = levels }

-- from what outlasts alone
abbrev cut_by : Lasting → Seen
cut_by lasting = record {
  private = false;
  chip = record {
    bus = record {
      memory = hidden lasting.kept (sram_filled lasting.fill lasting.memory);
      units = record {
        sys = record first_sys { sysrstiv = NO_CAUSE };
        ports = record {
          first = with_levels lasting.first_levels;
          second = with_levels lasting.second_levels;
        };
        timers = first_timers;
        dma = first_dma;
        fram = first_fram;
        mpu = first_mpu;
        encap = first_encap;
      };
      kept = lasting.kept;
      fill = lasting.fill;
      nmi = false;
      budget = None;
      writes = 0;
      noted = 0;
      accesses = [];
      causes = no_causes;
    };
    registers = [];
    busy = 0;
    powered = false;
    keep = lasting.keep;
    boot = Some Start;
    dead = false;
    halted = false;
    pending = false;
    second_tick = false;
    tick = lasting.tick;
  };
  power = 0;
  registers = no_registers;
  busy = 0;
}

cut-seen : (chip : State) → seen (cut chip) ≡ cut_by (lasting chip)
unfolding cut is_private
cut-seen chip =
    let by_memory : List ℕ → Seen = λ memory.
    record (cut_by (lasting chip)) {
      chip = record (cut_by (lasting chip)).chip {
        bus = record (cut_by (lasting chip)).chip.bus { memory = memory };
      };
    } in
    ap by_memory (filled-hidden chip.bus.kept chip.bus.fill chip.bus.memory)

cut-pins : (chip : State) → pins_of (cut chip) ≡ open_pins
unfolding cut pins_of
cut-pins chip = refl

pub cuts_end_alike : CutsEndAlike
cuts_end_alike one other a b same = record {
  public = cut-seen (turned a) ∙ ap cut_by same ∙ sym (cut-seen (turned b));
  lines = refl;
  pins = cut-pins (turned a) ∙ sym (cut-pins (turned b));
}

pub lasting-public : (chip : State) → lasting chip ≡ lasting (always_public chip)
lasting-public chip =
    ap (λ memory. record (lasting chip) { memory = memory }) (sym (hidden-twice chip.bus.kept chip.bus.memory))

pub public_parts_last : PublicPartsLast
public_parts_last a b same =
    lasting-public a ∙ ap (λ (s : Seen). lasting s.chip) same ∙ sym (lasting-public b)
