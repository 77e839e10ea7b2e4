-- Each pair of words meets one row of the table, and what the table says of it is what the first row says that it meets.
use Rattle.std.proofs.Common.{◌≡◌, ℕ, zero, suc, length, Bool, true, false, cond, List, [], ◌∷◌, ◌++◌, refl, ap, ◌∙◌}
use Rattle.cpux_decode.specs.declared.forms.Shape.{Shape}
use Rattle.cpux_decode.specs.Rows.{Row, meets, kept_row, rows_met, or_else, first_says, lookup}
use Rattle.cpux_decode.specs.Table.{reserved_rows, ordinary_rows, table_rows, shape_of, no_row, EachPairMeetsOneRow, address_rows, one_operand_rows, reserved_one_operand_rows, call_rows, reserved_call_rows, many_rows, extended_rows, reserved_extended_rows, reserved_before_rows, reserved_width_rows, reserved_operand_rows, jump_rows, two_operand_rows}
use Rattle.cpux_decode.proofs.Narrow.{trivial, trivial_meets}
use Rattle.cpux_decode.proofs.Splits.{passes, passes_next, passes-tells, places}

-- ---- one row

-- one row is left, and it asks nothing more
abbrev done : {A : Type 0} → List (Row A) → List (Row A) → Bool
done [] [] = false
done [] (row ∷ []) = trivial row
done [] (row ∷ other ∷ rows) = false
done (row ∷ []) others = trivial row
done (row ∷ other ∷ rows) others = false

abbrev either : ℕ → ℕ → ℕ
either zero n = n
either (suc m) n = suc m

length-or_else : {A : Type 0} (r o : List (Row A)) → length (or_else r o) ≡ either (length r) (length o)
length-or_else [] o = refl
length-or_else (row ∷ r) o = refl

done_one : {A : Type 0} (w0 w1 : ℕ) (r o : List (Row A)) → done r o ≡ true →
    either (length (rows_met r w0 w1)) (length (rows_met o w0 w1)) ≡ 1
done_one w0 w1 [] [] h = cc
done_one w0 w1 [] (row ∷ []) h = ap (λ t. length (kept_row t row [])) (trivial_meets row w0 w1 h)
done_one w0 w1 [] (row ∷ other ∷ rows) h = cc
done_one w0 w1 (row ∷ []) o h =
    ap (λ t. either (length (kept_row t row [])) (length (rows_met o w0 w1))) (trivial_meets row w0 w1 h)
done_one w0 w1 (row ∷ other ∷ rows) o h = cc

tested : passes done places places reserved_rows ordinary_rows ≡ true
unfolding passes passes_next reserved_rows ordinary_rows address_rows one_operand_rows
    reserved_one_operand_rows call_rows reserved_call_rows many_rows extended_rows reserved_extended_rows
    reserved_before_rows reserved_width_rows reserved_operand_rows jump_rows two_operand_rows
tested = refl

pub each_pair_meets_one_row : EachPairMeetsOneRow
each_pair_meets_one_row w0 w1 =
    length-or_else (rows_met reserved_rows w0 w1) (rows_met ordinary_rows w0 w1)
    ∙ passes-tells done (λ m n. either m n ≡ 1) w0 w1 (done_one w0 w1) places places reserved_rows
    ordinary_rows tested

-- ---- lookups

first_kept : {A : Type 0} (e : A) (t : Bool) (row : Row A) (rows : List (Row A)) (x : A) →
    x ≡ first_says e rows → cond t row.says x ≡ first_says e (kept_row t row rows)
first_kept e true row rows x h = refl
first_kept e false row rows x h = h

pub lookup-met : {A : Type 0} (e : A) (rows : List (Row A)) (w0 w1 : ℕ) →
    lookup e rows w0 w1 ≡ first_says e (rows_met rows w0 w1)
lookup-met e [] w0 w1 = refl
lookup-met e (row ∷ rows) w0 w1 =
    first_kept e (meets row w0 w1) row (rows_met rows w0 w1) (lookup e rows w0 w1) (lookup-met e rows w0 w1)

pub lookup-append : {A : Type 0} (e : A) (a b : List (Row A)) (w0 w1 : ℕ) →
    lookup e (a ++ b) w0 w1 ≡ lookup (lookup e b w0 w1) a w0 w1
lookup-append e [] b w0 w1 = refl
lookup-append {A} e (row ∷ a) b w0 w1 =
    ap (λ (x : A). cond (meets row w0 w1) row.says x) (lookup-append e a b w0 w1)

first_says-or_else : {A : Type 0} (e : A) (r o : List (Row A)) →
    first_says (first_says e o) r ≡ first_says e (or_else r o)
first_says-or_else e [] o = refl
first_says-or_else e (row ∷ r) o = refl

-- the one row that a pair meets is the first that it meets
pub lookup-shape_of : (e : Shape) (w0 w1 : ℕ) →
    lookup e (reserved_rows ++ ordinary_rows) w0 w1 ≡ first_says e (table_rows w0 w1)
lookup-shape_of e w0 w1 =
    lookup-append e reserved_rows ordinary_rows w0 w1
    ∙ ap (λ (x : Shape). lookup x reserved_rows w0 w1) (lookup-met e ordinary_rows w0 w1)
    ∙ lookup-met (first_says e (rows_met ordinary_rows w0 w1)) reserved_rows w0 w1
    ∙ first_says-or_else e (rows_met reserved_rows w0 w1) (rows_met ordinary_rows w0 w1)

pub lookup-shape : (w0 w1 : ℕ) → lookup no_row (reserved_rows ++ ordinary_rows) w0 w1 ≡ shape_of w0 w1
unfolding shape_of
lookup-shape w0 w1 = lookup-shape_of no_row w0 w1
