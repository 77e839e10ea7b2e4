-- What the parts of a decoded instruction can be.
use Rattle.std.specs.Prelude.{ℤ, pos, negsuc, ◌<◌, ◌≤◌}
use Rattle.cpux_decode.specs.declared.places.Place.{Place}
use Rattle.cpux_decode.specs.declared.places.Place.TheVariants.{Reg, Const, Near, Far, Absolute, At, AtPlus, Imm}
use Rattle.cpux_decode.specs.declared.instructions.Count.{Count}
use Rattle.cpux_decode.specs.declared.instructions.Count.TheVariants.{Fixed, InReg}
use Rattle.cpux_decode.specs.declared.instructions.Decoded.{Decoded}
use Rattle.cpux_decode.specs.declared.instructions.Decoded.TheVariants as made

-- a register from 0 to 15, and 20 bits
abbrev pub IsPlace : Place → Type 0
IsPlace (Reg r) = r < 16
IsPlace (Const value) = value < 0x100000
IsPlace (Near r index) = r < 16
IsPlace (Far r index) = (r < 16) × (index < 0x100000)
IsPlace (Absolute at) = at < 0x100000
IsPlace (At r) = r < 16
IsPlace (AtPlus r) = r < 16
IsPlace (Imm value) = value < 0x100000

-- a place that an instruction of two operands can write: a register or in memory, and no register is stepped
abbrev pub IsDestination : Place → Type 0
IsDestination (Reg r) = r < 16
IsDestination (Near r index) = r < 16
IsDestination (Far r index) = (r < 16) × (index < 0x100000)
IsDestination (Absolute at) = at < 0x100000
IsDestination place = ⊥

abbrev pub IsCount : Count → Type 0
IsCount (Fixed n) = (1 ≤ n) × (n ≤ 16)
IsCount (InReg r) = r < 16

-- the ten bits of a jump's distance
abbrev pub IsDistance : ℤ → Type 0
IsDistance (pos n) = n < 512
IsDistance (negsuc n) = n < 512

abbrev pub IsInRange : Decoded → Type 0
IsInRange made.Reserved = Unit {0}
IsInRange made.Reti = Unit {0}
IsInRange (made.Two op size from to rep long) = IsPlace from × IsDestination to × IsCount rep.count
IsInRange (made.One op size place rep long) = IsPlace place × IsCount rep.count
IsInRange (made.Jump condition distance) = (condition < 8) × IsDistance distance
IsInRange (made.Move from to) = IsPlace from × IsDestination to
IsInRange (made.Addr op from to) = IsPlace from × (to < 16)
IsInRange (made.Shift op size count reg) = (1 ≤ count) × (count ≤ 4) × (reg < 16)
IsInRange (made.PushMany size count reg) = (1 ≤ count) × (count ≤ 16) × (reg < 16)
IsInRange (made.PopMany size count reg) = (1 ≤ count) × (count ≤ 16) × (reg < 16)
IsInRange (made.CallA to) = IsPlace to
