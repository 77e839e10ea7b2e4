-- Shifts by one place and by several.
use Rattle.std.specs.Prelude.{ℕ, zero, suc, ◌+◌, ◌*◌, ◌/◌, ◌%◌, ◌==◌, Bool, false, if◌then◌else◌}
use Rattle.cpux_decode.specs.declared.operations.OpS.{OpS}
use Rattle.cpux_decode.specs.declared.operations.OpS.TheVariants.{Rrc, Rra, Rla, Rru}
use Rattle.cpux_alu.specs.declared.effects.Effect.{Effect}
use Rattle.cpux_alu.specs.declared.shifts.Shifted.{Shifted}
use Rattle.cpux_alu.specs.Effects.{is_negative, with_flags}

abbrev pub with_carry : ℕ → Bool → Shifted
with_carry value carry = record { value = value; carry = carry }

-- one place to the right: this bit enters at the top, and bit 0 is the carry
abbrev pub right_once : ℕ → Bool → ℕ → Shifted
right_once span entering x = with_carry (x / 2 + (if entering then span / 2 else 0)) (x % 2 == 1)

-- one place to the left: 0 enters, and the highest bit is the carry
abbrev pub left_once : ℕ → ℕ → Shifted
left_once span x = with_carry (2 * x % span) (is_negative span x)

-- one place, by the operation: RRC takes the carry in, RRA keeps the highest bit, RLA and RRU take 0 in
unfoldable pub shift_once : OpS → ℕ → Shifted → Shifted
shift_once Rrc span s = right_once span s.carry s.value
shift_once Rra span s = right_once span (is_negative span s.value) s.value
shift_once Rla span s = left_once span s.value
shift_once Rru span s = right_once span false s.value

-- this many places
abbrev pub shift_places : OpS → ℕ → ℕ → Shifted → Shifted
shift_places op span zero s = s
shift_places op span (suc n) s = shift_once op span (shift_places op span n s)

-- the result of a shift: C is the last bit that came out, and V is 0
abbrev pub shift_effect : ℕ → Shifted → Effect
shift_effect span s = with_flags span s.value s.carry false
