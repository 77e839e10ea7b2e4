-- The places of a boot, by what its next step does (SLAU367, SYS, boot code).
use Rattle.std.specs.Prelude.{◌≡◌, ℕ, ◌%◌, Bool, true, false}
use Rattle.chip_words.specs.Map.{is_fram}

-- a structure of IP Encapsulation in FRAM, by the words of its registers and their check
pub record Structure : Type 0 where
  -- the word of MPUIPC0
  pub control : ℕ
  -- that of MPUIPSEGB2
  pub second_border : ℕ
  -- and that of MPUIPSEGB1
  pub first_border : ℕ
  pub check : ℕ

-- Where a boot stands. It holds the pointer of the structure, whose address is 16 times as much, and the words of the
-- structure that it read so far.
pub data Place : Type 0 where
  -- looks at the mark
  Start : Place
  -- reads the signature
  Sig : Place
  -- reads the pointer
  Ptr : Place
  -- read a word of the structure
  Word0 : ℕ → Place
  Word1 : ℕ → ℕ → Place
  Word2 : ℕ → ℕ → ℕ → Place
  Word3 : ℕ → ℕ → ℕ → ℕ → Place
  -- saves the pointer, and then marks it as saved
  SavePtr : ℕ → Structure → Place
  SaveMark : ℕ → Structure → Place
  -- marks the erase as begun
  MarkErase : Place
  -- wipes the word at an address
  Wipe : ℕ → Place
  -- marks FRAM as empty
  MarkEmpty : Place
  -- ends the boot, with a good structure or without one
  DoneWith : ℕ → Structure → Place
  DoneWithout : Place

abbrev pub is_done : Place → Bool
is_done (DoneWith p words) = true
is_done DoneWithout = true
is_done place = false

-- what a boot wipes are words of FRAM
abbrev pub IsPlace : Place → Type 0
IsPlace (Wipe at) = (is_fram at ≡ true) × (at % 2 ≡ 0)
IsPlace place = Unit {0}
