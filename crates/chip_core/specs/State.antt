-- The chip as a record of plain data.
use Rattle.std.specs.Prelude.{ℕ, Bool, List, Option}
use Rattle.chip_words.specs.BusPart.{BusPart}
use Rattle.boot_code.specs.declared.boots.Keep.{Keep}
use Rattle.boot_code.specs.Place.{Place}

pub record State : Type 0 where
  pub bus : BusPart
  pub registers : List ℕ
  -- how many more ticks the processor is busy with what it did
  pub busy : ℕ
  pub powered : Bool
  -- the words besides FRAM that outlast a loss of power: the mark, and the pointer that is saved
  pub keep : Keep
  -- the next step of the boot, while it isn't done
  pub boot : Option Place
  -- the processor stands still, since there was no reset vector
  pub dead : Bool
  -- the debugger halted the processor, or it will be halted once it may be
  pub halted : Bool
  pub pending : Bool
  -- the second tick of a transfer of DMA is next
  pub second_tick : Bool
  -- the number of the next tick
  pub tick : ℕ
