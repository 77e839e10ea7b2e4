-- The table of program headers as a part of the file.
use Rattle.std.proofs.Common.{◌≡◌, ℕ, zero, suc, ◌≤◌, ◌+◌, ◌*◌, ◌-◌, ◌/◌, List, [], ◌∷◌, length, take, drop, map, cond, not, arith, refl, ap, Bool}
use Rattle.std.specs.List.{position, prefix_len}
use Rattle.std.proofs.lemmas.List.{take-take, drop-take, length-take, length-drop, length-map}
use Rattle.std.specs.Simd.{first_chunks}

-- chunks do not look past their own end
pub first_chunks-take : (n k m : ℕ) (xs : List ℕ) → m ≡ n * k → first_chunks n k (take m xs) ≡ first_chunks n k xs
first_chunks-take n zero m xs h = refl
first_chunks-take n (suc k) m xs h =
    let e : m ≡ n + n * k = grind arith in
    let first : take n (take m xs) ≡ take n xs = take-take n m xs (omega arith) in
    let rest : drop n (take (n + n * k) xs) ≡ take (n * k) (drop n xs) = drop-take n (n * k) xs in
    let later = first_chunks-take n k (n * k) (drop n xs) refl in
    rw (first, e, rest, later) refl

-- the headers in the part of a file that is their table
pub first_chunks-table : (file : List ℕ) (start n : ℕ) → start + 32 * n ≤ length file → first_chunks 32 (length (take (start + 32 * n - start) (drop start file)) / 32) (take (start + 32 * n - start) (drop start file)) ≡ first_chunks 32 n (drop start file)
first_chunks-table file start n h =
    let size : start + 32 * n - start ≡ 32 * n = omega arith in
    let part : length (take (32 * n) (drop start file)) ≡ 32 * n = simp (length-take, length-drop) (omega arith) in
    let count : 32 * n / 32 ≡ n = omega arith in
    rw (size, part, count) (first_chunks-take 32 n (32 * n) (drop start file) refl)

-- the place of a header by its bytes
prefix_len-map : {X Y : Type 0} (p : Y → Bool) (f : X → Y) (xs : List X) → prefix_len p (map f xs) ≡ prefix_len (λ x. p (f x)) xs
prefix_len-map p f [] = refl
prefix_len-map p f (x ∷ xs) = ap (λ n. cond (p (f x)) (1 + n) 0) (prefix_len-map p f xs)

pub position-map : {X Y : Type 0} (p : Y → Bool) (f : X → Y) (xs : List X) → position p (map f xs) ≡ position (λ x. p (f x)) xs
position-map p f xs = rw (prefix_len-map (λ y. not (p y)) f xs, length-map xs f) refl
