-- What is kept of the words of an instruction that begins with no extension word.
use Rattle.std.specs.Prelude.{◌≡◌, ℕ, true, false, [], ◌∷◌, Option, IfSome}
use Rattle.cpux_decode.specs.declared.forms.Look.{Look}
use Rattle.cpux_decode.specs.declared.instructions.Decoded.{Decoded}
use Rattle.cpux_decode.specs.Instructions.{decoded, form_of, is_extension, length_of}
use Rattle.cpux_decode.specs.Ranges.{IsInRange}
use Rattle.cycle_table.specs.Cycles.{IsInstruction, cycles_of}
use Rattle.cpux_execute.specs.Execution.{IsShort}
use Rattle.cpux_extended.specs.Extended.{is_short}

-- the first word of an instruction, and the one behind it
pub record Front : Type 0 where
  pub first : ℕ
  pub second : ℕ

-- an instruction of the MSP430, and its cycles without waits
pub record IsTimed (d : Decoded) (n : ℕ) : Type 0 where
  pub row : is_short d ≡ true
  pub short : IsShort d
  pub instruction : IsInstruction d
  pub cycles : n ≡ cycles_of d 1 0

-- what is kept: the look at the first word, the instruction of both words where the others are 0, and its cycles where
-- it is one of the MSP430
pub record IsKnown (word behind : ℕ) (seen : Look) (d : Decoded) (kept : Option ℕ) : Type 0 where
  pub alone : is_extension word ≡ false
  pub form : (other : ℕ) → seen.form ≡ form_of word other
  pub count : (other : ℕ) → seen.count ≡ length_of word other
  pub instruction : d ≡ decoded (word ∷ behind ∷ 0 ∷ 0 ∷ [])
  pub range : IsInRange d
  pub timed : IfSome kept (IsTimed d)
