-- The flags and the other bits of the status register have no bit in common.
use Rattle.std.proofs.Common.{◌≡◌, ℕ, ◌+◌, ◌*◌, ◌/◌, ◌%◌, ◌<◌, Bool, true, false, min, max, refl, ap, sym, ◌∙◌, arith}
use Rattle.std.specs.Int.{bit_at}
use Rattle.std.specs.Int.Bits.{bit_and, bit_or, and_zero_r}
use Rattle.std.proofs.lemmas.Nat.{and_assoc, and_comm, or_disjoint}
use Rattle.std.proofs.lemmas.Nat.Bits.{and_high, bit_at_and, bit_at_or, same_from_bits}
use Rattle.cpux_alu.specs.declared.effects.Flags.{Flags}
use Rattle.cpux_alu.specs.Effects.{flag_bits, other_bits}

distributes : (a b c : ℕ) → max (min a b) (min a c) ≡ min a (max b c)
distributes a b c = omega arith

and_or : (n a b : ℕ) → bit_or (bit_and n a) (bit_and n b) ≡ bit_and n (bit_or a b)
and_or n a b = same_from_bits _ _ (λ i.
    bit_at_or (bit_and n a) (bit_and n b) i
    ∙ ap (λ x. max x (bit_at (bit_and n b) i)) (bit_at_and n a i)
    ∙ ap (max (min (bit_at n i) (bit_at a i))) (bit_at_and n b i)
    ∙ distributes (bit_at n i) (bit_at a i) (bit_at b i)
    ∙ sym (bit_at_and n (bit_or a b) i ∙ ap (min (bit_at n i)) (bit_at_or a b i)))

-- what a mask leaves has no bit in common with a number that the mask has none in common with
apart : (n a b : ℕ) → bit_and a b ≡ 0 → bit_and (bit_and n a) b ≡ 0
apart n a b e = and_assoc b n a ∙ ap (bit_and n) e ∙ and_zero_r n

no_flag : (c z n v : Bool) → bit_and 0xFEF8 (flag_bits (record { carry = c; zero = z; negative = n; overflow = v })) ≡ 0
no_flag false false false false = refl
no_flag false false false true = refl
no_flag false false true false = refl
no_flag false false true true = refl
no_flag false true false false = refl
no_flag false true false true = refl
no_flag false true true false = refl
no_flag false true true true = refl
no_flag true false false false = refl
no_flag true false false true = refl
no_flag true false true false = refl
no_flag true false true true = refl
no_flag true true false false = refl
no_flag true true false true = refl
no_flag true true true false = refl
no_flag true true true true = refl

-- the mask of the bits that are no flags, in its two runs
others : (sr : ℕ) → sr < 0x10000 → bit_and sr 0xFEF8 ≡ other_bits sr
others sr h =
    sym (and_or sr 0xFE00 0xF8)
    ∙ or_disjoint (bit_and sr 0xFE00) (bit_and sr 0xF8) (and_assoc (bit_and sr 0xF8) sr 0xFE00 ∙ ap (bit_and sr) (and_comm 0xFE00 (bit_and sr 0xF8) ∙ apart sr 0xF8 0xFE00 refl) ∙ and_zero_r sr)
    ∙ sums (bit_and sr 0xFE00) (bit_and sr 0xF8) (and_high sr 7 9) (and_high sr 5 3)
  where
    sums : (a b : ℕ) → a ≡ (sr / 0x200 % 0x80) * 0x200 → b ≡ (sr / 8 % 0x20) * 8 → a + b ≡ other_bits sr
    sums a b e f = omega arith

pub flags_join : (sr : ℕ) (f : Flags) → sr < 0x10000 → bit_or (bit_and sr 0xFEF8) (flag_bits f) ≡ other_bits sr + flag_bits f
flags_join sr f h =
    or_disjoint (bit_and sr 0xFEF8) (flag_bits f) (apart sr 0xFEF8 (flag_bits f) (no_flag f.carry f.zero f.negative f.overflow))
    ∙ ap (λ x. x + flag_bits f) (others sr h)
