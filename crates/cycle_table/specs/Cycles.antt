-- How many cycles an instruction takes, as a sum over its form, its places, its width and its repeats. The numbers are
-- this project's own profile.
use Rattle.std.specs.Prelude.{ℕ, ◌+◌, ◌-◌, ◌*◌, Bool, true, false, ◌==◌, ◌&&◌, if◌then◌else◌}
use Rattle.chip_words.specs.declared.sizes.Size.{Size}
use Rattle.chip_words.specs.declared.sizes.Size.TheVariants.{Addr}
use Rattle.chip_words.specs.Bits.{bit_of}
use Rattle.chip_words.specs.Registers.{PC}
use Rattle.cpux_decode.specs.declared.instructions.Decoded.{Decoded}
use Rattle.cpux_decode.specs.declared.instructions.Decoded.TheVariants as made
use Rattle.cpux_decode.specs.declared.operations.Op1.{Op1}
use Rattle.cpux_decode.specs.declared.operations.Op1.TheVariants.{Push, Call}
use Rattle.cpux_decode.specs.declared.operations.Op2.{Op2}
use Rattle.cpux_decode.specs.declared.operations.Op2.TheVariants.{Mov, Cmp, Bit}
use Rattle.cpux_decode.specs.declared.operations.OpA.{OpA}
use Rattle.cpux_decode.specs.declared.operations.OpA.TheVariants as address
use Rattle.cpux_decode.specs.Operations.{reads_destination, writes_destination}
use Rattle.cpux_decode.specs.Places.{is_memory, is_pc, is_register, is_register_source}
use Rattle.cpux_decode.specs.declared.places.Place.{Place}
use Rattle.cpux_decode.specs.declared.places.Place.TheVariants.{Reg, Const, Near, Far, Absolute, At, AtPlus, Imm}

-- anything but a reserved word
abbrev pub IsInstruction : Decoded → Type 0
IsInstruction made.Reserved = ⊥
IsInstruction d = Unit {0}

unfoldable pub source_cost : Place → ℕ
source_cost (Reg r) = 0
source_cost (Const value) = 0
source_cost (At r) = 1
source_cost (AtPlus r) = 1
source_cost (Imm value) = 1
source_cost (Near r index) = 2
source_cost (Far r index) = 2
source_cost (Absolute at) = 2

-- a destination in memory costs one less where it is read alone or written alone
abbrev pub memory_cost : Op2 → ℕ
memory_cost Mov = 3
memory_cost Bit = 3
memory_cost Cmp = 3
memory_cost op = 4

-- CMP and BIT on PC cost as on another register
unfoldable pub destination_cost : Op2 → Place → ℕ
destination_cost op (Reg r) = if (r == PC) && writes_destination op then 3 else 1
destination_cost op place = memory_cost op

-- what an extension word adds: with 20 bits, one more for each operand in memory that is read, and for each that is
-- written
unfoldable pub extension_cost : Bool → Size → ℕ → ℕ
extension_cost false size accesses = 0
extension_cost true Addr accesses = 1 + accesses
extension_cost true size accesses = 1

-- what repeats add: each one after the first
unfoldable pub repeat_cost : Bool → ℕ → ℕ
repeat_cost repeated reps = if repeated then reps - 1 else 0

-- the operands in memory that are read and that are written
unfoldable pub two_accesses : Op2 → Place → Place → ℕ
two_accesses op from to =
    bit_of (is_memory from) + bit_of (is_memory to && reads_destination op)
    + bit_of (is_memory to && writes_destination op)

-- behind an extension word the register form is repeated
unfoldable pub two_cycles : Op2 → Size → Place → Place → Bool → ℕ → ℕ
two_cycles op size from to long reps =
    source_cost from + destination_cost op to + extension_cost long size (two_accesses op from to)
    + repeat_cost (long && (is_register_source from && is_register to)) reps

-- RRC, RRA, SWPB and SXT, which read their operand and write it
unfoldable pub change_cost : Place → ℕ
change_cost (Reg r) = 1
change_cost (At r) = 3
change_cost (AtPlus r) = 3
change_cost place = 4

unfoldable pub push_cost : Place → ℕ
push_cost (Near r index) = 4
push_cost (Far r index) = 4
push_cost (Absolute at) = 4
push_cost place = 3

-- CALL takes one more than PUSH
unfoldable pub one_cost : Op1 → Place → ℕ
one_cost Push place = push_cost place
one_cost Call place = push_cost place + 1
one_cost op place = change_cost place

-- the operand in memory is read, and written but for PUSH and CALL: what they push is no operand
unfoldable pub one_accesses : Op1 → Place → ℕ
one_accesses Push place = bit_of (is_memory place)
one_accesses Call place = bit_of (is_memory place)
one_accesses op place = 2 * bit_of (is_memory place)

-- PUSH is not repeated
unfoldable pub is_repeatable : Op1 → Bool
is_repeatable Push = false
is_repeatable op = true

unfoldable pub one_cycles : Op1 → Size → Place → Bool → ℕ → ℕ
one_cycles op size place long reps =
    one_cost op place + extension_cost long size (one_accesses op place)
    + repeat_cost (long && (is_repeatable op && is_register place)) reps

-- an address instruction with an immediate or a register
unfoldable pub address_cost : Place → ℕ
address_cost (Imm value) = 2
address_cost place = 1

-- MOVA into a register, by its source
unfoldable pub load_cost : Place → ℕ
load_cost (At r) = 3
load_cost (AtPlus r) = 3
load_cost (Near r index) = 4
load_cost (Far r index) = 4
load_cost (Absolute at) = 4
load_cost place = address_cost place

-- two more where PC is written
abbrev pub pc_write_cost : Bool → ℕ
pc_write_cost writes_pc = if writes_pc then 2 else 0

-- MOVA
unfoldable pub move_cycles : Place → Place → ℕ
move_cycles from to = if is_memory to then 4 else load_cost from + pc_write_cost (is_pc to)

-- CMPA, ADDA and SUBA. CMPA writes no register.
unfoldable pub addr_cycles : OpA → Place → ℕ → ℕ
addr_cycles address.Cmp from to = address_cost from
addr_cycles op from to = address_cost from + pc_write_cost (to == PC)

-- PUSHM and POPM: each register is a word, or two
unfoldable pub many_cycles : Size → ℕ → ℕ
many_cycles Addr count = 2 + 2 * count
many_cycles size count = 2 + count

unfoldable pub calla_cycles : Place → ℕ
calla_cycles (Reg r) = 5
calla_cycles (Imm value) = 5
calla_cycles place = 6

-- the cycles of an instruction that is done this many times, without waits
unfoldable pub instruction_cycles : Decoded → ℕ → ℕ
instruction_cycles made.Reserved reps = 0
instruction_cycles made.Reti reps = 5
instruction_cycles (made.Two op size from to rep long) reps = two_cycles op size from to long reps
instruction_cycles (made.One op size place rep long) reps = one_cycles op size place long reps
instruction_cycles (made.Jump condition distance) reps = 2
instruction_cycles (made.Move from to) reps = move_cycles from to
instruction_cycles (made.Addr op from to) reps = addr_cycles op from to
instruction_cycles (made.Shift op size count reg) reps = count
instruction_cycles (made.PushMany size count reg) reps = many_cycles size count
instruction_cycles (made.PopMany size count reg) reps = many_cycles size count
instruction_cycles (made.CallA to) reps = calla_cycles to

-- with the waits for memory
unfoldable pub cycles_of : Decoded → ℕ → ℕ → ℕ
cycles_of d reps waits = instruction_cycles d reps + waits
