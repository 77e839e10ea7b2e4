-- The cycles of two operands in the register form.
use Rattle.std.proofs.Common.{◌≡◌, ◌≤◌, ℕ, ◌+◌, ◌-◌, Bool, true, false, arith, refl, if◌then◌else◌}
use Rattle.chip_words.specs.declared.sizes.Size.{Size}
use Rattle.chip_words.specs.declared.sizes.Size.TheVariants.{Byte, Word, Addr}
use Rattle.cpux_decode.specs.declared.places.Place.{Place}
use Rattle.cpux_decode.specs.declared.places.Place.TheVariants.{Reg, Const}
use Rattle.cpux_decode.specs.declared.operations.Op2.{Op2}
use Rattle.cpux_decode.specs.Places.{is_memory, is_register, is_register_source}
use Rattle.cycle_table.specs.Cycles.{cycles_of, destination_cost, extension_cost, instruction_cycles, repeat_cost, source_cost, two_accesses, two_cycles}
use Rattle.step_laws.specs.Repeats.{RepeatsTakeACycleEach, writes_pc}

-- no operand lies in memory
no_accesses : (op : Op2) (from : Place) (to : ℕ) → is_register_source from ≡ true → two_accesses op from (Reg to) ≡ 0
unfolding two_accesses is_memory is_register_source
no_accesses op (Reg r) to register = refl
no_accesses op (Const value) to register = refl
no_accesses op from to register = cc

no_cost : (from : Place) → is_register_source from ≡ true → source_cost from ≡ 0
unfolding source_cost is_register_source
no_cost (Reg r) register = refl
no_cost (Const value) register = refl
no_cost from register = cc

extension_word : (size : Size) → extension_cost true size 0 ≡ 1
unfolding extension_cost
extension_word Byte = refl
extension_word Word = refl
extension_word Addr = refl

-- the destination, the extension word and the repeats
total : (v : Bool) (n : ℕ) → 1 ≤ n → 0 + (if v then 3 else 1) + 1 + (n - 1) + 0 ≡ (if v then 3 + n else 1 + n)
total true n positive = omega arith
total false n positive = omega arith

pub repeats_take_a_cycle_each : RepeatsTakeACycleEach
unfolding cycles_of instruction_cycles two_cycles destination_cost repeat_cost is_register
repeats_take_a_cycle_each op size from to rep n register positive =
    rw (no_cost from register, no_accesses op from to register, extension_word size, register) (total (writes_pc op to) n positive)
