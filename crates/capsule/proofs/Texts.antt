-- The texts of runs, line by line, row by row and tick by tick.
use Rattle.std.proofs.Common.{◌≡◌, ℕ, zero, suc, ◌+◌, ◌-◌, ◌*◌, ◌<◌, ◌≤◌, ◌∙◌, refl, subst, sym, ap, append-nil, append_assoc, List, [], ◌++◌, length, get_or, drop, add-one, arith}
use Rattle.std.proofs.Math.Seq.{drop-cons}
use Rattle.std.specs.List.{flat_map}
use Rattle.trace_print.specs.Releases.{open_line_of}
use Rattle.trace_print.specs.declared.releases.Item.{Item}
use Rattle.stimulus.specs.Stimulus.{Stimulus}
use Rattle.elf_image.specs.Image.{Segment}
use Rattle.chip_core.specs.State.{State}
use Rattle.chip_core.specs.FirstState.{first_state}
use Rattle.chip_core.specs.Items.{items_of}
use Rattle.chip_core.specs.Run.{AreSilent, IsSilent, chip_after}
use Rattle.chip_core.specs.Tick.{ticked}
use Rattle.chip_core.proofs.SilentTicks.{later, run_after}
use Rattle.capsule.specs.Ticks.{text_of_ticks}
use Rattle.capsule.specs.declared.runs.Report.{Report}
use Rattle.capsule.specs.declared.runs.Report.TheVariants.{Trace, Releases}
use Rattle.capsule.specs.Output.{report_of, report_text}
use Rattle.capsule.specs.Releases.{ROW, release_tick, releases_of, row_of, text_of_items, text_of_rows}
use Rattle.capsule.specs.Trace.{text_of_lines, trace_of, trace_tick}

module _ {Item : Type 0} (text_of : Item → List ℕ) where
  -- a text is written before those behind it
  pub texts-drop : (items : List Item) (i : ℕ) (d : Item) → i < length items → flat_map text_of (drop i items) ≡ text_of (get_or items i d) ++ flat_map text_of (drop (i + 1) items)
  texts-drop items i d h = rw (add-one, drop-cons items i d)

  -- the item at a place is written before those behind it
  pub texts-item : (items : List Item) (i : ℕ) (item : Item) → item ≡ get_or items i item → i < length items → flat_map text_of (drop i items) ≡ text_of item ++ flat_map text_of (drop (i + 1) items)
  texts-item items i item is h =
      texts-drop items i item h
      ∙ ap (λ (one : Item). text_of one ++ flat_map text_of (drop (i + 1) items)) (sym is)

-- a row is written before those behind it
pub rows-row : (tick : ℕ) (memory : List ℕ) (count n low at : ℕ) → n < count → at ≡ low + 16 * n → text_of_rows tick memory (count - n) at ≡ open_line_of tick at (row_of memory at) ++ text_of_rows tick memory (count - (n + 1)) (low + 16 * (n + 1))
rows-row tick memory count n low at h is =
    let e : count - n ≡ suc (count - (n + 1)) = omega arith in
    let next : at + ROW ≡ low + 16 * (n + 1) = omega (arith, is) in
    rw e (ap (λ a. open_line_of tick at (row_of memory at) ++ text_of_rows tick memory (count - (n + 1)) a) next)

module _ (tick_text : Stimulus → ℕ → State → List ℕ) where
  pub ticks-more : (end n : ℕ) (bench : Stimulus) (first : State) → n < end → text_of_ticks tick_text (end - n) n bench first ≡ tick_text bench n (chip_after n bench first) ++ text_of_ticks tick_text (end - (n + 1)) (n + 1) bench first
  ticks-more end n bench first h = let e : end - n ≡ suc (end - (n + 1)) = omega arith in rw (e, add-one) refl

  -- the text of one tick stands before what is left behind it, with a last text
  pub tick_parts : (last : List ℕ) (end n : ℕ) (bench : Stimulus) (first chip : State) (text : List ℕ) → n < end → chip ≡ chip_after n bench first → text ≡ tick_text bench n chip → text_of_ticks tick_text (end - n) n bench first ++ last ≡ text ++ (text_of_ticks tick_text (end - (n + 1)) (n + 1) bench first ++ last)
  tick_parts last end n bench first chip text h c t =
      let rest : List ℕ = text_of_ticks tick_text (end - (n + 1)) (n + 1) bench first in
      ap (λ told. told ++ last) (ticks-more end n bench first h)
      ∙ append_assoc (tick_text bench n (chip_after n bench first)) rest last
      ∙ ap (λ (told : List ℕ). told ++ (rest ++ last)) (sym (t ∙ ap (λ (state : State). tick_text bench n state) c))

  -- behind all ticks the last text is left
  pub end_parts : (last : List ℕ) (end n : ℕ) (bench : Stimulus) (first : State) → n ≡ end → text_of_ticks tick_text (end - n) n bench first ++ last ≡ last ++ []
  end_parts last end n bench first h =
      let e : end - n ≡ zero = omega arith in
      rw e (sym (append-nil last))

-- what silent ticks add

pub no_lines : (tick : ℕ) (bench : Stimulus) (chip : State) → IsSilent bench chip → trace_tick bench tick chip ≡ []
no_lines tick bench chip silent = ap (text_of_lines tick) silent.lines

pub no_releases : (tick : ℕ) (bench : Stimulus) (chip : State) → IsSilent bench chip → release_tick bench tick chip ≡ []
no_releases tick bench chip silent = ap (text_of_items tick (ticked bench chip).bus.memory) silent.items

module _ (tick_text : Stimulus → ℕ → State → List ℕ) (add_nothing : (tick : ℕ) (bench : Stimulus) (chip : State) → IsSilent bench chip → tick_text bench tick chip ≡ []) where
  -- behind silent ticks the text is left that was left before them
  skipped : (n end tick : ℕ) (bench : Stimulus) (first : State) → tick + n ≤ end → AreSilent n bench (chip_after tick bench first) → text_of_ticks tick_text (end - tick) tick bench first ≡ text_of_ticks tick_text (end - (tick + n)) (tick + n) bench first
  skipped zero end tick bench first within silent = let e : tick ≡ tick + 0 = omega arith in ap (λ t. text_of_ticks tick_text (end - t) t bench first) e
  skipped (suc n) end tick bench first within silent =
      let e : tick + n + 1 ≡ tick + suc n = omega arith in
      let last = add_nothing (tick + n) bench (chip_after (tick + n) bench first) (subst (IsSilent bench) (later n tick bench first) (silent n (omega arith))) in
      skipped n end tick bench first (omega arith) (λ k h. silent k (omega (arith, h)))
      ∙ ticks-more tick_text end (tick + n) bench first (omega arith)
      ∙ ap (λ (told : List ℕ). told ++ text_of_ticks tick_text (end - (tick + n + 1)) (tick + n + 1) bench first) last
      ∙ ap (λ t. text_of_ticks tick_text (end - t) t bench first) e

  -- the text of the last of so many ticks, of which the others are silent, stands before what is left behind them
  pub run_parts : (last : List ℕ) (end n tick : ℕ) (bench : Stimulus) (first chip : State) (text : List ℕ) → 1 ≤ n → tick + n ≤ end → chip ≡ chip_after tick bench first → AreSilent (n - 1) bench chip → text ≡ tick_text bench (tick + n - 1) (chip_after (n - 1) bench chip) → text_of_ticks tick_text (end - tick) tick bench first ++ last ≡ text ++ (text_of_ticks tick_text (end - (tick + n)) (tick + n) bench first ++ last)
  run_parts last end n tick bench first chip text some within at silent is =
      let before : tick + (n - 1) ≡ tick + n - 1 = omega (arith, some) in
      let behind : tick + n - 1 + 1 ≡ tick + n = omega (arith, some) in
      let there = run_after (n - 1) tick bench first chip (chip_after (n - 1) bench chip) at refl ∙ ap (λ k. chip_after k bench first) before in
      ap (λ (told : List ℕ). told ++ last) (skipped (n - 1) end tick bench first (omega (arith, some, within)) (subst (AreSilent (n - 1) bench) at silent))
      ∙ ap (λ t. text_of_ticks tick_text (end - t) t bench first ++ last) before
      ∙ tick_parts tick_text last end (tick + n - 1) bench first (chip_after (n - 1) bench chip) text (omega (arith, some, within)) there is
      ∙ ap (λ t. text ++ (text_of_ticks tick_text (end - t) t bench first ++ last)) behind

-- the items of the last of so many ticks are told with the bytes behind it
pub last_releases : (n tick : ℕ) (bench : Stimulus) (chip after : State) (items : List Item) → 1 ≤ n → after ≡ chip_after n bench chip → items ≡ items_of bench (chip_after (n - 1) bench chip) → text_of_items tick after.bus.memory items ≡ release_tick bench tick (chip_after (n - 1) bench chip)
last_releases n tick bench chip after items some is given =
    let last : n ≡ suc (n - 1) = omega (arith, some) in
    ap (λ chip. text_of_items tick chip.bus.memory items) (is ∙ ap (λ k. chip_after k bench chip) last)
    ∙ ap (text_of_items tick (ticked bench (chip_after (n - 1) bench chip)).bus.memory) given

-- what a run writes is written from its first chip on
pub report_of_first : (report : Report) (bench : Stimulus) (image : List Segment) (chip : State) (end : ℕ) → end ≡ bench.end → chip ≡ first_state image bench.fill → report_text report end bench chip ≡ report_of report bench image
unfolding trace_of releases_of
report_of_first Trace bench image chip end ends first = rw (ends, first) refl
report_of_first Releases bench image chip end ends first = rw (ends, first) refl
