-- What the table reserves is what `decoded` reserves.
use Rattle.std.proofs.Common.{◌≡◌, ℕ, true, List, refl, sym, ◌∙◌, slice_index}
use Rattle.std.specs.Prelude.{◌↔◌, IsTrue}
use Rattle.cpux_decode.specs.declared.forms.Form.{Form}
use Rattle.cpux_decode.specs.declared.forms.Form.TheVariants.{Reserved}
use Rattle.cpux_decode.specs.declared.instructions.Decoded.TheVariants as made
use Rattle.cpux_decode.specs.Table.{shape_of, is_reserved}
use Rattle.cpux_decode.specs.Instructions.{two_operands, long_two_operands, one_operand, long_one_operand, jump, shift_many, instruction_of, decoded}
use Rattle.cpux_decode.proofs.Shapes.{is_reserved_form, reserved_form-shape}

reserved_instruction : (form : Form) (words : List ℕ) → is_reserved_form form ≡ true →
    instruction_of form words ≡ made.Reserved
unfolding instruction_of
reserved_instruction Reserved words h = refl
reserved_instruction form words h = cc

reserved_form : (form : Form) (words : List ℕ) → instruction_of form words ≡ made.Reserved →
    is_reserved_form form ≡ true
unfolding instruction_of two_operands long_two_operands one_operand long_one_operand jump shift_many
reserved_form Reserved words h = refl
reserved_form form words h = cc

pub decoded-reserved : (words : List ℕ) →
    (decoded words ≡ made.Reserved) ↔ IsTrue (is_reserved (slice_index words 0) (slice_index words 1))
unfolding decoded
decoded-reserved words =
    let e = reserved_form-shape (slice_index words 0) (slice_index words 1) in (
      λ h. sym e ∙ reserved_form (shape_of (slice_index words 0) (slice_index words 1)).form words h,
      λ r. reserved_instruction (shape_of (slice_index words 0) (slice_index words 1)).form words (e ∙ r),
    )

-- as contracts take it
pub ruleset reserved = (decoded-reserved)
