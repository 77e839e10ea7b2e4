-- The release list of a run: the lines of the items of each tick, and END.
use Rattle.std.specs.Prelude.{ℕ, zero, suc, ◌+◌, ◌-◌, ◌/◌, List, [], ◌++◌, map, slice_index}
use Rattle.std.specs.List.{flat_map, range_with_len}
use Rattle.trace_print.specs.declared.releases.Item.{Item}
use Rattle.trace_print.specs.declared.releases.Item.TheVariants.{Opened}
use Rattle.trace_print.specs.Releases.{open_line_of, release_line_of}
use Rattle.elf_image.specs.Image.{Segment}
use Rattle.stimulus.specs.Stimulus.{Stimulus}
use Rattle.chip_core.specs.State.{State}
use Rattle.chip_core.specs.FirstState.{first_state}
unfoldable use Rattle.chip_core.specs.Items.{items_of}
use Rattle.chip_core.specs.Tick.{ticked}
use Rattle.capsule.specs.Ticks.{text_of_run}

-- how many bytes a line of opened bytes has
abbrev pub ROW : ℕ
ROW = 16

-- the bytes of a row, from its first address on
unfoldable pub row_of : List ℕ → ℕ → List ℕ
row_of memory at = map (λ place. slice_index memory (at + place)) (range_with_len 0 ROW)

-- the lines of so many rows, the first of them at an address
abbrev pub text_of_rows : ℕ → List ℕ → ℕ → ℕ → List ℕ
text_of_rows tick memory zero at = []
text_of_rows tick memory (suc n) at =
    open_line_of tick at (row_of memory at) ++ text_of_rows tick memory n (at + ROW)

-- the text of an item, by the bytes that the chip holds: that of an interval has a line for each row of it
abbrev pub text_of_item : ℕ → List ℕ → Item → List ℕ
text_of_item tick memory (Opened low high) = text_of_rows tick memory ((high - low) / ROW) low
text_of_item tick memory item = release_line_of tick item

-- the text of the items of one tick
abbrev pub text_of_items : ℕ → List ℕ → List Item → List ℕ
text_of_items tick memory items = flat_map (text_of_item tick memory) items

-- what a tick adds to a release list, by the chip that it finds: its items, with the bytes that the chip holds after it
abbrev pub release_tick : Stimulus → ℕ → State → List ℕ
release_tick bench tick chip = text_of_items tick (ticked bench chip).bus.memory (items_of bench chip)

-- the release list of a run of so many ticks from a first chip on
abbrev pub releases_text : ℕ → Stimulus → State → List ℕ
releases_text end bench first = text_of_run release_tick end bench first

-- the release list of an image's run under a bench
unfoldable pub releases_of : Stimulus → List Segment → List ℕ
releases_of bench image = releases_text bench.end bench (first_state image bench.fill)
