-- What the end of a step leaves of its accesses, and which turns have no step of the processor.
use Rattle.std.proofs.Common.{◌≡◌, ◌∙◌, ℕ, ◌≤◌, Bool, true, false, List, length, refl, sym, subst}
use Rattle.std.specs.Prelude.{if◌then◌else◌, Option, Some, None}
use Rattle.chip_words.specs.declared.accesses.Access.{Access}
use Rattle.chip_words.specs.declared.segments.Segment.{Segment}
use Rattle.chip_words.specs.declared.segments.Segment.TheVariants.{One, Two, Three, Info, Sealed}
use Rattle.chip_words.specs.Bits.{has_bit}
use Rattle.chip_words.specs.BusPart.{BusPart}
use Rattle.chip_words.specs.Segments.{flag_of}
use Rattle.chip_words.specs.Steps.{ended_at, ended_with, step_ended, violation_ended}
use Rattle.dma_unit.specs.declared.transfers.Move.{Move}
use Rattle.dma_unit.specs.Transfers.{move_at, transferred}
use Rattle.chip_core.specs.State.{State}
use Rattle.chip_core.specs.Turns.{moved, transfer_turn, with_dma}

-- a choice between two bus parts with the same list
either : (test : Bool) (one other : BusPart) (accesses : List Access) → one.accesses ≡ accesses → other.accesses ≡ accesses → (if test then one else other).accesses ≡ accesses
either true one other accesses first second = first
either false one other accesses first second = second

ended_at-accesses : (noted : ℕ) (place : Segment) (part : BusPart) → (ended_at noted place part).accesses ≡ part.accesses
ended_at-accesses noted place part = either (has_bit noted (flag_of place)) (violation_ended place part) part part.accesses refl refl

ended_with-accesses : (noted : ℕ) (part : BusPart) → (ended_with noted part).accesses ≡ part.accesses
unfolding ended_with
ended_with-accesses noted part =
    ended_at-accesses noted Three (ended_at noted Two (ended_at noted One (ended_at noted Info (ended_at noted Sealed part))))
    ∙ ended_at-accesses noted Two (ended_at noted One (ended_at noted Info (ended_at noted Sealed part)))
    ∙ ended_at-accesses noted One (ended_at noted Info (ended_at noted Sealed part))
    ∙ ended_at-accesses noted Info (ended_at noted Sealed part)
    ∙ ended_at-accesses noted Sealed part

-- the end of a step leaves its list as long as it was
pub step_ended_few : (part : BusPart) (most : ℕ) → length part.accesses ≤ most → length (step_ended part).accesses ≤ most
step_ended_few part most few = subst (λ accesses. length accesses ≤ most) (sym (ended_with-accesses part.noted (record part { noted = 0 }))) few

moved-step : (move : Option Move) (chip : State) → (moved move chip).step ≡ None
moved-step (Some move) chip = refl
moved-step None chip = refl

-- a transfer of DMA is no step of the processor
pub transfer_is_no_step : (channel : ℕ) (chip : State) → (transfer_turn channel chip).step ≡ None
unfolding transfer_turn
transfer_is_no_step channel chip = moved-step (move_at channel ((chip.bus.units).dma).channels) (with_dma (transferred channel) chip)
