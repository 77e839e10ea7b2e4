-- What each script leaves of SR.
use Rattle.std.proofs.Common.{◌≡◌, ◌≢◌, ◌≤◌, ◌==◌, ◌&&◌, ◌||◌, ℕ, zero, suc, ◌+◌, ◌%◌, List, [], ◌∷◌, Bool, true, false, Option, Some, None, arith, refl, ap, ◌∙◌, slice_index}
use Rattle.std.proofs.lemmas.Bool.Decides.{nat_tests}
use Rattle.std.proofs.lemmas.List.{get_or-set_other}
use Rattle.chip_words.specs.declared.sizes.Size.{Size}
use Rattle.chip_words.specs.declared.sizes.Size.TheVariants.{Word, Addr}
use Rattle.chip_words.specs.Bits.{bit_of}
use Rattle.chip_words.specs.Registers.{PC, SP, SR, fitted, with_register}
use Rattle.chip_words.specs.Script.{Script, Return, Ask, and_then}
use Rattle.cpux_decode.specs.declared.places.Place.{Place}
use Rattle.cpux_decode.specs.declared.places.Place.TheVariants.{Reg, AtPlus}
use Rattle.cpux_decode.specs.declared.operations.Op1.{Op1}
use Rattle.cpux_decode.specs.declared.operations.Op1.TheVariants.{Push, Call}
use Rattle.cpux_decode.specs.declared.operations.Op2.{Op2}
use Rattle.cpux_decode.specs.declared.operations.OpA.{OpA}
use Rattle.cpux_decode.specs.declared.operations.OpS.{OpS}
use Rattle.cpux_decode.specs.declared.instructions.Rep.{Rep}
use Rattle.cpux_decode.specs.declared.instructions.Decoded.{Decoded}
use Rattle.cpux_decode.specs.declared.instructions.Decoded.TheVariants as made
use Rattle.cpux_decode.specs.Instructions.{decoded}
use Rattle.cpux_decode.specs.Operations.{writes_destination}
use Rattle.cpux_decode.specs.Places.{is_register_source}
use Rattle.cpux_alu.specs.declared.effects.Flags.{Flags}
use Rattle.cpux_alu.specs.Effects.{status_after}
use Rattle.cpux_alu.specs.Operations.{addr_status, one_status, shift_at, shift_status, two_status, two_value}
use Rattle.cpux_execute.specs.Operands.{address_of, before, flagged, increased, is_status, put, source, stored_to}
use Rattle.cpux_execute.specs.TwoOperands.{two_operands, two_rest, two_store, two_target, write_if}
use Rattle.cpux_execute.specs.OneOperand.{call, changed, lowered, push, pushed, put_down, width_of}
use Rattle.cpux_execute.specs.Execution.{Stepped, executed, one_operand, performed}
use Rattle.cpux_extended.specs.RegisterForm.{count_of, one_once, one_takes_carry, repeated, status_in, takes_carry, two_once, with_result}
use Rattle.cpux_extended.specs.AddressInstructions.{addressed, computed, moved, shifted, writes_result}
use Rattle.cpux_extended.specs.Stack.{called, popped_from, pushed_below}
use Rattle.cpux_extended.specs.Extended.{extended, extended_one, extended_two, is_short}
use Rattle.cpux_extended.specs.Instruction.{extended_step, step_by, step_of_words}
use Rattle.step_laws.specs.Fetches.{four_words}
use Rattle.step_laws.specs.Status.{Ends, FlagsAloneChange, KeepsModeBits, mode_bits, pops_status, steps_status, writes_operand, writes_status}
use Rattle.step_laws.proofs.Shapes.{either_holds}
use Rattle.step_laws.proofs.Fetched.{behind_fetches}

-- ---- tests and scripts

or_false : (a b : Bool) → (a || b) ≡ false → (a ≡ false) × (b ≡ false)
or_false true b h = cc
or_false false b h = (refl, h)

and_true_false : (a : Bool) → (a && true) ≡ false → a ≡ false
and_true_false true h = h
and_true_false false h = refl

Ends-and_then : {A B : Type 0} (First : A → Type 0) (Holds : B → Type 0) (first : Script A) (rest : A → Script B) → Ends First first → ((value : A) → First value → Ends Holds (rest value)) → Ends Holds (and_then first rest)
Ends-and_then First Holds (Return value) rest f r = r value f
Ends-and_then First Holds (Ask kind at size value more) rest f r = λ answer. Ends-and_then First Holds (more answer) rest (f answer) r

-- whatever the first script ends in
Ends-behind : {A B : Type 0} (Holds : B → Type 0) (first : Script A) (rest : A → Script B) → ((value : A) → Ends Holds (rest value)) → Ends Holds (and_then first rest)
Ends-behind Holds (Return value) rest r = r value
Ends-behind Holds (Ask kind at size value more) rest r = λ answer. Ends-behind Holds (more answer) rest r

-- ---- registers

-- SR has these bits that are no flags
abbrev Has : ℕ → List ℕ → Type 0
Has mode registers = mode_bits (slice_index registers SR) ≡ mode

another : (r : ℕ) → (r == SR) ≡ false → SR ≢ r
another r spared = λ e. grind (arith, nat_tests)

with_other : (mode : ℕ) (registers : List ℕ) (r value : ℕ) → (r == SR) ≡ false → Has mode registers → Has mode (with_register registers r value)
with_other mode registers r value spared had =
    ap mode_bits (get_or-set_other registers r SR (fitted r value) 0 (another r spared)) ∙ had

with_status : (mode : ℕ) (registers : List ℕ) (status : ℕ) → mode_bits status ≡ mode → Has mode registers → Has mode (with_register registers SR status)
with_status mode [] status same had = had
with_status mode (pc ∷ []) status same had = had
with_status mode (pc ∷ sp ∷ []) status same had = had
with_status mode (pc ∷ sp ∷ sr ∷ others) status same had = omega arith

-- ---- flags

bit_of-most : (b : Bool) → bit_of b ≤ 1
bit_of-most true = omega arith
bit_of-most false = omega arith

status_after-bits : (sr : ℕ) (flags : Option Flags) → mode_bits (status_after sr flags) ≡ mode_bits sr
status_after-bits sr None = refl
status_after-bits sr (Some f) = omega (arith, bit_of-most f.carry, bit_of-most f.zero, bit_of-most f.negative, bit_of-most f.overflow)

two_status-bits : (op : Op2) (size : Size) (src dst sr : ℕ) → mode_bits (two_status op size src dst sr) ≡ mode_bits sr
unfolding two_status
two_status-bits op size src dst sr = status_after-bits sr _

one_status-bits : (op : Op1) (size : Size) (x sr : ℕ) → mode_bits (one_status op size x sr) ≡ mode_bits sr
unfolding one_status
one_status-bits op size x sr = status_after-bits sr _

shift_status-bits : (op : OpS) (size : Size) (count x sr : ℕ) → mode_bits (shift_status op size count x sr) ≡ mode_bits sr
unfolding shift_status
shift_status-bits op size count x sr = status_after-bits sr (shift_at op size count x sr).flags

addr_status-bits : (op : OpA) (src dst sr : ℕ) → mode_bits (addr_status op src dst sr) ≡ mode_bits sr
unfolding addr_status
addr_status-bits op src dst sr = two_status-bits _ Addr src dst sr

flagged-Has : (mode : ℕ) (written : Bool) (place : Place) (status : ℕ) (registers : List ℕ) → mode_bits status ≡ mode → Has mode registers → Has mode (flagged written place status registers)
flagged-Has mode true place status registers same had =
    either_holds (Has mode) (is_status place) registers (with_register registers SR status) had (with_status mode registers status same had)
flagged-Has mode false place status registers same had = with_status mode registers status same had

with_result-Has : (mode : ℕ) (written : Bool) (to value : ℕ) (registers : List ℕ) → ((to == SR) && written) ≡ false → Has mode registers → Has mode (with_result written to value registers)
with_result-Has mode true to value registers spared had = with_other mode registers to value (and_true_false (to == SR) spared) had
with_result-Has mode false to value registers spared had = had

-- ---- operands

increased-Has : (mode : ℕ) (size : Size) (place : Place) (registers : List ℕ) → steps_status place ≡ false → Has mode registers → Has mode (increased size place registers)
unfolding increased
increased-Has mode size (AtPlus r) registers spared had = with_other mode registers r _ spared had
increased-Has mode size place registers spared had = had

stored_to-Ends : (mode : ℕ) (size : Size) (registers : List ℕ) (at : ℕ) (place : Place) (value : ℕ) → is_status place ≡ false → Has mode registers → Ends (Has mode) (stored_to size registers at place value)
unfolding stored_to is_status
stored_to-Ends mode size registers at (Reg r) value spared had = with_other mode registers r value spared had
stored_to-Ends mode size registers at place value spared had = Ends-behind (Has mode) (put at size value) _ (λ done. had)

-- ---- instructions of the MSP430

two_store-Ends : (mode : ℕ) (op : Op2) (size : Size) (registers : List ℕ) (at : ℕ) (place : Place) (value : ℕ) → (is_status place && writes_destination op) ≡ false → Has mode registers → Ends (Has mode) (two_store op size registers at place value)
unfolding two_store
two_store-Ends mode op size registers at place value spared had = by_test (writes_destination op) spared
  where
    by_test : (v : Bool) → (is_status place && v) ≡ false → Ends (Has mode) (write_if v registers (stored_to size registers at place value))
    by_test true e = stored_to-Ends mode size registers at place value (and_true_false (is_status place) e) had
    by_test false e = had

two_rest-Ends : (mode : ℕ) (op : Op2) (size : Size) (to : Place) (at status src : ℕ) (registers : List ℕ) → (is_status to && writes_destination op) ≡ false → mode_bits status ≡ mode → Has mode registers → Ends (Has mode) (two_rest op size to at status src registers)
two_rest-Ends mode op size to at status src registers spared same had =
    let value : ℕ → ℕ = λ dst. two_value op size src dst status in
    let flags : ℕ → List ℕ → Script (List ℕ) = λ dst after. Return (flagged (writes_destination op) to (two_status op size src dst status) after) in
    Ends-behind (Has mode) (two_target op size registers at to) (λ dst. and_then (two_store op size registers at to (value dst)) (flags dst)) (λ dst.
    Ends-and_then (Has mode) (Has mode) (two_store op size registers at to (value dst)) (flags dst) (two_store-Ends mode op size registers at to (value dst) spared had) (λ after has.
    flagged-Has mode (writes_destination op) to (two_status op size src dst status) after (two_status-bits op size src dst status ∙ same) has))

two_operands-Ends : (mode : ℕ) (op : Op2) (size : Size) (from to : Place) (pc : ℕ) (registers : List ℕ) → steps_status from ≡ false → (is_status to && writes_destination op) ≡ false → Has mode registers → Ends (Has mode) (two_operands op size from to pc registers)
unfolding two_operands
two_operands-Ends mode op size from to pc registers unstepped spared had =
    let behind_source : List ℕ = increased size from registers in
    let at : ℕ = address_of behind_source (before (slice_index registers PC)) to in
    Ends-behind (Has mode) (source size registers pc from) (λ src. two_rest op size to at (slice_index registers SR) src behind_source) (λ src.
    two_rest-Ends mode op size to at (slice_index registers SR) src behind_source spared had (increased-Has mode size from registers unstepped had))

changed-Ends : (mode : ℕ) (op : Op1) (size : Size) (place : Place) (pc : ℕ) (registers : List ℕ) → steps_status place ≡ false → is_status place ≡ false → Has mode registers → Ends (Has mode) (changed op size place pc registers)
unfolding changed
changed-Ends mode op size place pc registers unstepped spared had =
    Ends-behind (Has mode) _ _ (λ x.
    Ends-and_then (Has mode) (Has mode) _ _ (stored_to-Ends mode size _ _ place _ spared (increased-Has mode size place registers unstepped had)) (λ after has.
    flagged-Has mode true place _ after (one_status-bits op (width_of op size place) x (slice_index registers SR) ∙ had) has))

pushed-Ends : (mode : ℕ) (size : Size) (value : ℕ) (registers : List ℕ) → Has mode registers → Ends (Has mode) (pushed size value registers)
unfolding pushed
pushed-Ends mode size value registers had =
    Ends-behind (Has mode) (put_down (slice_index registers SP) size value) (λ done. Return registers) (λ done. had)

-- SP is lowered behind has source that may step has register
lowered-Has : (mode : ℕ) (size : Size) (place : Place) (registers : List ℕ) → steps_status place ≡ false → Has mode registers → Has mode (lowered size (increased size place registers))
lowered-Has mode size place registers unstepped had =
    with_other mode (increased size place registers) SP _ refl (increased-Has mode size place registers unstepped had)

push-Ends : (mode : ℕ) (size : Size) (place : Place) (pc : ℕ) (registers : List ℕ) → steps_status place ≡ false → Has mode registers → Ends (Has mode) (push size place pc registers)
unfolding push
push-Ends mode size place pc registers unstepped had =
    Ends-behind (Has mode) _ _ (λ x. pushed-Ends mode size _ _ (lowered-Has mode size place registers unstepped had))

call-Ends : (mode : ℕ) (place : Place) (pc : ℕ) (registers : List ℕ) → steps_status place ≡ false → Has mode registers → Ends (Has mode) (call place pc registers)
unfolding call
call-Ends mode place pc registers unstepped had =
    Ends-behind (Has mode) _ _ (λ x.
    Ends-and_then (Has mode) (Has mode) _ _ (pushed-Ends mode Word _ _ (lowered-Has mode Word place registers unstepped had)) (λ after has.
    with_other mode after PC _ refl has))

one_operand-Ends : (mode : ℕ) (op : Op1) (size : Size) (place : Place) (pc : ℕ) (registers : List ℕ) → steps_status place ≡ false → (is_status place && writes_operand op) ≡ false → Has mode registers → Ends (Has mode) (one_operand op size place pc registers)
unfolding one_operand
one_operand-Ends mode Push size place pc registers unstepped spared had = push-Ends mode size place pc registers unstepped had
one_operand-Ends mode Call size place pc registers unstepped spared had = call-Ends mode place pc registers unstepped had
one_operand-Ends mode op size place pc registers unstepped spared had =
    changed-Ends mode op size place pc registers unstepped (and_true_false (is_status place) spared) had

performed-Ends : (mode : ℕ) (d : Decoded) (pc : ℕ) (registers : List ℕ) → writes_status d ≡ false → Has mode registers → Ends (Has mode) (performed d pc registers)
unfolding performed writes_status
performed-Ends mode made.Reti pc registers spared had = cc
performed-Ends mode (made.Two op size from to rep long) pc registers spared had =
    let both = or_false (steps_status from) (is_status to && writes_destination op) spared in
    two_operands-Ends mode op size from to pc registers both.0 both.1 had
performed-Ends mode (made.One op size place rep long) pc registers spared had =
    let both = or_false (steps_status place) (is_status place && writes_operand op) spared in
    one_operand-Ends mode op size place pc registers both.0 both.1 had
performed-Ends mode (made.Jump condition distance) pc registers spared had = with_other mode registers PC _ refl had
performed-Ends mode d pc registers spared had = had

-- SR behind has whole instruction
abbrev HasStepped : ℕ → Stepped → Type 0
HasStepped mode stepped = Has mode stepped.registers

executed-Ends : (mode : ℕ) (d : Decoded) (ia next : ℕ) (registers : List ℕ) → writes_status d ≡ false → Has mode registers → Ends (HasStepped mode) (executed d ia next registers)
unfolding executed
executed-Ends mode made.Reserved ia next registers spared had = had
executed-Ends mode d ia next registers spared had =
    Ends-and_then (Has mode) (HasStepped mode) _ _ (performed-Ends mode d _ _ spared (with_other mode registers PC next refl had)) (λ after has. has)

-- ---- instructions of the MSP430X

repeated-Has : (mode n : ℕ) (operation : List ℕ → List ℕ) (registers : List ℕ) → ((before : List ℕ) → Has mode before → Has mode (operation before)) → Has mode registers → Has mode (repeated n operation registers)
repeated-Has mode zero operation registers spared had = had
repeated-Has mode (suc n) operation registers spared had = spared (repeated n operation registers) (repeated-Has mode n operation registers spared had)

status_in-bits : (without_carry : Bool) (registers : List ℕ) → mode_bits (status_in without_carry registers) ≡ mode_bits (slice_index registers SR)
status_in-bits true registers = omega arith
status_in-bits false registers = refl

two_once-Has : (mode : ℕ) (op : Op2) (size : Size) (from : Place) (to : ℕ) (zero_carry : Bool) (pc : ℕ) (registers : List ℕ) → ((to == SR) && writes_destination op) ≡ false → Has mode registers → Has mode (two_once op size from to zero_carry pc registers)
unfolding two_once
two_once-Has mode op size from to zero_carry pc registers spared had =
    flagged-Has mode (writes_destination op) (Reg to) _ _
    (two_status-bits op size _ (slice_index registers to) (status_in (zero_carry && takes_carry op) registers) ∙ status_in-bits (zero_carry && takes_carry op) registers ∙ had)
    (with_result-Has mode (writes_destination op) to _ registers spared had)

one_once-Has : (mode : ℕ) (op : Op1) (size : Size) (r : ℕ) (zero_carry : Bool) (registers : List ℕ) → (r == SR) ≡ false → Has mode registers → Has mode (one_once op size r zero_carry registers)
unfolding one_once
one_once-Has mode op size r zero_carry registers spared had =
    flagged-Has mode true (Reg r) _ _
    (one_status-bits op (width_of op size (Reg r)) (slice_index registers r) (status_in (zero_carry && one_takes_carry op) registers) ∙ status_in-bits (zero_carry && one_takes_carry op) registers ∙ had)
    (with_other mode registers r _ spared had)

shifted-Has : (mode : ℕ) (op : OpS) (size : Size) (count r : ℕ) (registers : List ℕ) → (r == SR) ≡ false → Has mode registers → Has mode (shifted op size count r registers)
unfolding shifted
shifted-Has mode op size count r registers spared had =
    flagged-Has mode true (Reg r) _ _ (shift_status-bits op size count (slice_index registers r) (slice_index registers SR) ∙ had) (with_other mode registers r _ spared had)

computed-Has : (mode : ℕ) (op : OpA) (src to : ℕ) (registers : List ℕ) → ((to == SR) && writes_result op) ≡ false → Has mode registers → Has mode (computed op src to registers)
unfolding computed
computed-Has mode op src to registers spared had =
    flagged-Has mode (writes_result op) (Reg to) _ _ (addr_status-bits op src (slice_index registers to) (slice_index registers SR) ∙ had) (with_result-Has mode (writes_result op) to _ registers spared had)

pushed_below-Ends : (mode : ℕ) (size : Size) (count r at : ℕ) (registers : List ℕ) → Has mode registers → Ends (Has mode) (pushed_below size count r at registers)
unfolding pushed_below
pushed_below-Ends mode size zero r at registers had = with_other mode registers SP at refl had
pushed_below-Ends mode size (suc count) r at registers had =
    Ends-behind (Has mode) _ _ (λ done. pushed_below-Ends mode size count _ _ registers had)

popped_from-Ends : (mode : ℕ) (size : Size) (count r at : ℕ) (registers : List ℕ) → pops_status count r ≡ false → Has mode registers → Ends (Has mode) (popped_from size count r at registers)
unfolding popped_from
popped_from-Ends mode size zero r at registers spared had = with_other mode registers SP at refl had
popped_from-Ends mode size (suc count) r at registers spared had =
    let both = or_false (r == SR) (pops_status count ((r + 1) % 16)) spared in
    Ends-behind (Has mode) _ _ (λ value. popped_from-Ends mode size count _ _ _ both.1 (with_other mode registers r value both.0 had))

moved-Ends : (mode : ℕ) (from to : Place) (pc : ℕ) (registers : List ℕ) → steps_status from ≡ false → is_status to ≡ false → Has mode registers → Ends (Has mode) (moved from to pc registers)
unfolding moved
moved-Ends mode from to pc registers unstepped spared had =
    Ends-behind (Has mode) _ _ (λ value. stored_to-Ends mode Addr _ _ to value spared (increased-Has mode Addr from registers unstepped had))

addressed-Ends : (mode : ℕ) (op : OpA) (from : Place) (to pc : ℕ) (registers : List ℕ) → ((to == SR) && writes_result op) ≡ false → Has mode registers → Ends (Has mode) (addressed op from to pc registers)
unfolding addressed
addressed-Ends mode op from to pc registers spared had =
    Ends-behind (Has mode) (source Addr registers pc from) (λ src. Return (computed op src to registers)) (λ src. computed-Has mode op src to registers spared had)

called-Ends : (mode : ℕ) (place : Place) (pc : ℕ) (registers : List ℕ) → steps_status place ≡ false → Has mode registers → Ends (Has mode) (called place pc registers)
unfolding called
called-Ends mode place pc registers unstepped had =
    Ends-behind (Has mode) _ _ (λ target.
    Ends-and_then (Has mode) (Has mode) _ _ (pushed-Ends mode Addr _ _ (lowered-Has mode Addr place registers unstepped had)) (λ after has.
    with_other mode after PC target refl has))

extended_two-Ends : (mode : ℕ) (op : Op2) (size : Size) (from to : Place) (rep : Rep) (pc : ℕ) (registers : List ℕ) → steps_status from ≡ false → (is_status to && writes_destination op) ≡ false → Has mode registers → Ends (Has mode) (extended_two op size from to rep pc registers)
unfolding extended_two is_status
extended_two-Ends mode op size from (Reg to) rep pc registers unstepped spared had =
    either_holds (Ends (Has mode)) (is_register_source from) _ _
    (repeated-Has mode (count_of rep.count registers) (two_once op size from to rep.zero_carry pc) registers (λ before b. two_once-Has mode op size from to rep.zero_carry pc before spared b) had)
    (two_operands-Ends mode op size from (Reg to) pc registers unstepped spared had)
extended_two-Ends mode op size from to rep pc registers unstepped spared had = two_operands-Ends mode op size from to pc registers unstepped spared had

extended_one-Ends : (mode : ℕ) (op : Op1) (size : Size) (place : Place) (rep : Rep) (pc : ℕ) (registers : List ℕ) → steps_status place ≡ false → (is_status place && writes_operand op) ≡ false → Has mode registers → Ends (Has mode) (extended_one op size place rep pc registers)
unfolding extended_one is_status
extended_one-Ends mode Push size place rep pc registers unstepped spared had = one_operand-Ends mode Push size place pc registers unstepped spared had
extended_one-Ends mode Call size place rep pc registers unstepped spared had = one_operand-Ends mode Call size place pc registers unstepped spared had
extended_one-Ends mode op size (Reg r) rep pc registers unstepped spared had =
    repeated-Has mode (count_of rep.count registers) (one_once op size r rep.zero_carry) registers (λ before b. one_once-Has mode op size r rep.zero_carry before (and_true_false (r == SR) spared) b) had
extended_one-Ends mode op size place rep pc registers unstepped spared had = one_operand-Ends mode op size place pc registers unstepped spared had

extended-Ends : (mode : ℕ) (d : Decoded) (pc : ℕ) (registers : List ℕ) → writes_status d ≡ false → Has mode registers → Ends (Has mode) (extended d pc registers)
unfolding extended writes_status
extended-Ends mode (made.Two op size from to rep long) pc registers spared had =
    let both = or_false (steps_status from) (is_status to && writes_destination op) spared in
    extended_two-Ends mode op size from to rep pc registers both.0 both.1 had
extended-Ends mode (made.One op size place rep long) pc registers spared had =
    let both = or_false (steps_status place) (is_status place && writes_operand op) spared in
    extended_one-Ends mode op size place rep pc registers both.0 both.1 had
extended-Ends mode (made.Move from to) pc registers spared had =
    let both = or_false (steps_status from) (is_status to) spared in
    moved-Ends mode from to pc registers both.0 both.1 had
extended-Ends mode (made.Addr op from to) pc registers spared had =
    let both = or_false (steps_status from) ((to == SR) && writes_result op) spared in
    addressed-Ends mode op from to pc registers both.1 had
extended-Ends mode (made.Shift op size count r) pc registers spared had = shifted-Has mode op size count r registers spared had
extended-Ends mode (made.PushMany size count r) pc registers spared had = pushed_below-Ends mode size count r _ registers had
extended-Ends mode (made.PopMany size count r) pc registers spared had = popped_from-Ends mode size count r _ registers spared had
extended-Ends mode (made.CallA to) pc registers spared had = called-Ends mode to pc registers spared had
extended-Ends mode d pc registers spared had = had

-- ---- the whole instruction

step_of_words-Ends : (mode : ℕ) (words : List ℕ) (at next : ℕ) (registers : List ℕ) → writes_status (decoded words) ≡ false → Has mode registers → Ends (HasStepped mode) (step_of_words words at next registers)
unfolding step_of_words extended_step
step_of_words-Ends mode words at next registers spared had = by_form (is_short (decoded words))
  where
    by_form : (v : Bool) → Ends (HasStepped mode) (step_by v (decoded words) at next registers)
    by_form true = executed-Ends mode (decoded words) at next registers spared had
    by_form false =
        Ends-and_then (Has mode) (HasStepped mode) _ _ (extended-Ends mode (decoded words) _ _ spared (with_other mode registers PC next refl had)) (λ after has. has)

pub flags_alone_change : FlagsAloneChange
flags_alone_change registers =
    behind_fetches (KeepsModeBits registers) registers (λ words at next spared.
    step_of_words-Ends (mode_bits (slice_index registers SR)) (four_words words) at next registers spared refl)
