-- Two runs, by their ticks one after another.
use Rattle.std.proofs.Common.{◌≡◌, ◌<◌, ◌+◌, ℕ, zero, suc, List, Bool, true, false, inl, inr, arith, refl, ap, sym, ◌∙◌, subst, if◌then◌else◌}
use Rattle.std.proofs.lemmas.Bool.{cases_lt}
use Rattle.chip_words.specs.declared.seals.Seal.{Seal}
use Rattle.chip_words.specs.Map.{is_fram, is_sram}
use Rattle.chip_words.specs.Memory.{memory_size}
use Rattle.chip_words.specs.Public.{hidden}
use Rattle.boot_code.specs.ImageSeal.{image_seal}
use Rattle.bus_fabric.proofs.MemoryBy.{length-memory_by, slice_index-memory_by}
use Rattle.elf_image.specs.Image.{Segment, byte_of}
use Rattle.chip_core.specs.FirstState.{first_byte, first_memory, first_state}
use Rattle.chip_core.specs.Lines.{lines_of}
use Rattle.chip_core.specs.Phase.{is_private}
use Rattle.chip_core.specs.State.{State}
use Rattle.release_log.specs.Erasing.{chip_at}
use Rattle.release_log.proofs.Begins.{run_keeps_facts}
use Rattle.stage_laws.specs.OneTick.{AgreeBehind}
use Rattle.stage_laws.specs.Seen.{Seen, seen}
use Rattle.stage_laws.specs.TwoRuns.{ImagesAgree, RunsAgree, RunsAlike}
use Rattle.stage_laws.proofs.Cutting.{hidden_from-same}
use Rattle.stage_laws.proofs.Seals.{seals_go_by_addresses}
use Rattle.stage_laws.proofs.Ticking.{one_tick_agrees}

-- ---- the first chips

-- FRAM decides, where an address is one of it
by_fram : (fram : Bool) (x y z : ℕ) → (fram ≡ true → x ≡ y) → (if fram then x else z) ≡ (if fram then y else z)
by_fram true x y z same = same refl
by_fram false x y z same = refl

first-hidden :
    (one other : List Segment) (fill : ℕ) → ImagesAgree one other →
    hidden (image_seal one) (first_memory one fill) ≡ hidden (image_seal one) (first_memory other fill)
unfolding hidden
first-hidden one other fill agree =
    let x : ℕ → ℕ = first_byte one fill in
    let y : ℕ → ℕ = first_byte other fill in
    hidden_from-same (image_seal one) 0 (first_memory one fill) (first_memory other fill)
    (length-memory_by x ∙ sym (length-memory_by y))
    (λ k within outside.
    let few : k < memory_size = omega (arith, within, length-memory_by x) in
    let here : 0 + k ≡ k = omega arith in
    slice_index-memory_by x k few
    ∙ by_fram (is_fram k) (byte_of one k) (byte_of other k) (if is_sram k then fill else 0)
    (λ fram. agree.bytes k (record { fram = fram; unsealed = rw (← here) outside }))
    ∙ sym (slice_index-memory_by y k few))

first-seen :
    (one other : List Segment) (fill : ℕ) → ImagesAgree one other →
    seen (first_state one fill) ≡ seen (first_state other fill)
unfolding is_private
first-seen one other fill agree =
    let seen_with : Seal → List ℕ → Seen = λ kept memory.
    let first : Seen = seen (first_state one fill) in
    record first { chip = record (first.chip) { bus = record (first.chip.bus) { kept = kept; memory = memory } } } in
    ap (seen_with (image_seal one)) (first-hidden one other fill agree)
    ∙ ap (λ kept. seen_with kept (hidden kept (first_memory other fill)))
    (seals_go_by_addresses one other agree.seal)

-- ---- tick by tick

pub runs_agree : RunsAgree
runs_agree one other bench zero images items = record {
  public = first-seen one other bench.fill images;
  lines = λ k before. absurd (omega arith);
}
runs_agree one other bench (suc n) images items =
    let a : State = chip_at one bench n in
    let b : State = chip_at other bench n in
    let until : RunsAlike bench one other n =
    runs_agree one other bench n images (λ k before. items k (omega arith)) in
    let next : AgreeBehind bench a b =
    one_tick_agrees bench a b (run_keeps_facts one bench n) (run_keeps_facts other bench n) until.public
    (items n (omega arith)) in
    record {
      public = next.public;
      lines = λ k before. elim (cases_lt k n) [
        | inl earlier ↦ until.lines k earlier
        | inr last ↦
            let same : n ≡ k = omega arith in
            subst (λ k. lines_of bench (chip_at one bench k) ≡ lines_of bench (chip_at other bench k)) same next.lines
      ];
    }
