-- When a timer asks for no interrupt.
use Rattle.std.specs.Prelude.{◌≡◌, ℕ, false, List, None, drop, slice_index}
use Rattle.chip_words.specs.Timer.{TAIE, TAIFG, is_compare_waiting, is_enabled, least_waiting}

-- by CTL and the CCTLs: neither CCTL0, nor another of these, nor the overflow waits
abbrev pub AsksNothing : ℕ → List ℕ → Type 0
AsksNothing ctl cctl =
    (is_compare_waiting (slice_index cctl 0) ≡ false)
    × (least_waiting 1 (drop 1 cctl) ≡ None)
    × (is_enabled TAIE TAIFG ctl ≡ false)
