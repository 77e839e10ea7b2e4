-- How a pin's level is written.
use Rattle.std.specs.Prelude.{ℕ, List, map, reverse}
use Rattle.port_unit.specs.declared.levels.Level.{Level}
use Rattle.port_unit.specs.declared.levels.Level.TheVariants.{Low, High, Open}

-- the characters `0`, `1` and `z`
abbrev pub letter_of : Level → ℕ
letter_of Low = 48
letter_of High = 49
letter_of Open = 122

-- the levels of a port, of which entry i is bit i: the highest bit is written first
abbrev pub letters_of : List Level → List ℕ
letters_of levels = reverse (map letter_of levels)
