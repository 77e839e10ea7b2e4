-- Jumps: when they are taken, and where they go.
use Rattle.std.specs.Prelude.{ℕ, ℤ, pos, negsuc, ◌+◌, ◌-◌, ◌*◌, ◌%◌, ◌==◌, not, Bool, true, if◌then◌else◌}
use Rattle.chip_words.specs.Bits.{has_bit}
use Rattle.chip_words.specs.Registers.{C, Z, N, V}

-- two flags are the same
abbrev pub same : Bool → Bool → Bool
same first second = if first then second else not second

-- by the condition: JNE, JEQ, JNC, JC, JN, JGE, JL and JMP
unfoldable pub is_taken : ℕ → ℕ → Bool
is_taken condition sr =
    if condition == 0 then not (has_bit sr Z)
    else if condition == 1 then has_bit sr Z
    else if condition == 2 then not (has_bit sr C)
    else if condition == 3 then has_bit sr C
    else if condition == 4 then has_bit sr N
    else if condition == 5 then same (has_bit sr N) (has_bit sr V)
    else if condition == 6 then not (same (has_bit sr N) (has_bit sr V))
    else true

-- so many words from the next address on
abbrev pub jump_target : ℕ → ℤ → ℕ
jump_target next (pos n) = (next + 2 * n) % 0x100000
jump_target next (negsuc n) = (next + 0x100000 - 2 * (n + 1)) % 0x100000

unfoldable pub jumped : ℕ → ℤ → ℕ → ℕ → ℕ
jumped condition distance sr next = if is_taken condition sr then jump_target next distance else next
