-- Registers stay registers, since every write of one fits it: one lemma for each script, in the order of their files.
use Rattle.std.proofs.Common.{◌≡◌, ◌<◌, ◌%◌, ℕ, zero, suc, List, [], ◌∷◌, ◌++◌, Bool, true, false, slice_index, slice_set, arith, refl, ap, ◌∙◌}
use Rattle.std.proofs.lemmas.Bool.Decides.{nat_tests}
use Rattle.std.proofs.lemmas.List.{length-set}
use Rattle.chip_words.specs.declared.sizes.Size.{Size}
use Rattle.chip_words.specs.declared.sizes.Size.TheVariants.{Word, Addr}
use Rattle.chip_words.specs.declared.accesses.Kind.TheVariants.{Fetch, Read, Write}
use Rattle.chip_words.specs.Registers.{AreRegisters, CG, PC, SP, SR, fitted, with_register}
use Rattle.chip_words.specs.Script.{Ask, Return, Script, and_then}
use Rattle.cpux_decode.specs.declared.places.Place.{Place}
use Rattle.cpux_decode.specs.declared.places.Place.TheVariants.{AtPlus, Reg}
use Rattle.cpux_decode.specs.declared.operations.Op1.{Op1}
use Rattle.cpux_decode.specs.declared.operations.Op1.TheVariants.{Call, Push}
use Rattle.cpux_decode.specs.declared.operations.Op2.{Op2}
use Rattle.cpux_decode.specs.declared.operations.OpA.{OpA}
use Rattle.cpux_decode.specs.declared.operations.OpS.{OpS}
use Rattle.cpux_decode.specs.declared.instructions.Rep.{Rep}
use Rattle.cpux_decode.specs.declared.instructions.Decoded.{Decoded}
use Rattle.cpux_decode.specs.declared.instructions.Decoded.TheVariants as made
use Rattle.cpux_decode.specs.Instructions.{decoded}
use Rattle.cpux_decode.specs.Operations.{writes_destination}
use Rattle.cpux_decode.specs.Places.{is_register_source}
use Rattle.cpux_alu.specs.Operations.{two_status, two_value}
use Rattle.cpux_execute.specs.Operands.{flagged, increased, is_status, put, source, stored_to}
use Rattle.cpux_execute.specs.TwoOperands.{two_operands, two_rest, two_store, two_target, write_if}
use Rattle.cpux_execute.specs.OneOperand.{call, changed, lowered, push, pushed, put_down, return_from_interrupt, returned}
use Rattle.cpux_execute.specs.Execution.{Stepped, executed, one_operand, performed}
use Rattle.cpux_extended.specs.RegisterForm.{count_of, one_once, repeated, two_once, with_result}
use Rattle.cpux_extended.specs.AddressInstructions.{addressed, computed, moved, shifted, writes_result}
use Rattle.cpux_extended.specs.Stack.{called, popped_from, pushed_below}
use Rattle.cpux_extended.specs.Extended.{extended, extended_one, extended_two, is_short}
use Rattle.cpux_extended.specs.Instruction.{extended_step, instruction, step_by, step_of_words}
use Rattle.step_laws.specs.Fetches.{BehindFetches, four_words}
use Rattle.step_laws.specs.Status.{Ends}
use Rattle.step_laws.proofs.Fetched.{behind_fetches}
use Rattle.step_laws.proofs.Shapes.{either_holds}
use Rattle.chip_core.specs.Entry.{entry, in_interrupt}
use Rattle.release_log.specs.Registers.{EntriesLeaveRegisters, InstructionsLeaveRegisters}

-- ---- scripts

-- what the first script ends in goes into the second
pub Ends-and_then :
    {A B : Type 0} (First : A → Type 0) (Holds : B → Type 0) (first : Script A) (rest : A → Script B) →
    Ends First first → ((value : A) → First value → Ends Holds (rest value)) → Ends Holds (and_then first rest)
Ends-and_then First Holds (Return value) rest is next = next value is
Ends-and_then First Holds (Ask kind at size value more) rest is next =
    λ answer. Ends-and_then First Holds (more answer) rest (is answer) next

-- or doesn't matter
pub Ends-behind :
    {A B : Type 0} (Holds : B → Type 0) (first : Script A) (rest : A → Script B) →
    ((value : A) → Ends Holds (rest value)) → Ends Holds (and_then first rest)
Ends-behind Holds (Return value) rest next = next value
Ends-behind Holds (Ask kind at size value more) rest next =
    λ answer. Ends-behind Holds (more answer) rest next

-- ---- one write

set-at :
    (Holds : ℕ → Type 0) (xs : List ℕ) (n value k : ℕ) → (n ≡ k → Holds value) → Holds (slice_index xs k) →
    Holds (slice_index (slice_set xs n value) k)
set-at Holds [] n value k new old = old
set-at Holds (x ∷ xs) zero value zero new old = new refl
set-at Holds (x ∷ xs) zero value (suc k) new old = old
set-at Holds (x ∷ xs) (suc n) value zero new old = old
set-at Holds (x ∷ xs) (suc n) value (suc k) new old = set-at Holds xs n value k (λ e. new (ap suc e)) old

fitted-small : (n value : ℕ) → fitted n value < 0x100000
fitted-small n value = grind (arith, nat_tests)

fitted-even : (n value : ℕ) → n ≡ PC → fitted n value % 2 ≡ 0
fitted-even n value e = grind (arith, nat_tests)

fitted-status : (n value : ℕ) → n ≡ SR → fitted n value < 0x200
fitted-status n value e = grind (arith, nat_tests)

fitted-constant : (n value : ℕ) → n ≡ CG → fitted n value ≡ 0
fitted-constant n value e = grind (arith, nat_tests)

pub with_register-Are :
    (registers : List ℕ) (n value : ℕ) → AreRegisters registers → AreRegisters (with_register registers n value)
with_register-Are registers n value are =
    let x = fitted n value in
    record {
      count = length-set registers n x ∙ are.count;
      small = λ k. set-at (λ x. x < 0x100000) registers n x k (λ e. fitted-small n value) (are.small k);
      even = set-at (λ x. x % 2 ≡ 0) registers n x PC (fitted-even n value) are.even;
      status = set-at (λ x. x < 0x200) registers n x SR (fitted-status n value) are.status;
      constant = set-at (λ x. x ≡ 0) registers n x CG (fitted-constant n value) are.constant;
    }

-- ---- operands

increased-Are :
    (size : Size) (place : Place) (registers : List ℕ) → AreRegisters registers →
    AreRegisters (increased size place registers)
unfolding increased
increased-Are size (AtPlus r) registers are = with_register-Are registers r _ are
increased-Are size place registers are = are

flagged-Are :
    (written : Bool) (place : Place) (status : ℕ) (registers : List ℕ) → AreRegisters registers →
    AreRegisters (flagged written place status registers)
flagged-Are true place status registers are =
    either_holds AreRegisters (is_status place) registers (with_register registers SR status) are
    (with_register-Are registers SR status are)
flagged-Are false place status registers are = with_register-Are registers SR status are

stored_to-Ends :
    (size : Size) (registers : List ℕ) (at : ℕ) (place : Place) (value : ℕ) → AreRegisters registers →
    Ends AreRegisters (stored_to size registers at place value)
unfolding stored_to
stored_to-Ends size registers at (Reg r) value are = with_register-Are registers r value are
stored_to-Ends size registers at place value are = Ends-behind AreRegisters (put at size value) _ (λ done. are)

-- ---- two operands

two_store-Ends :
    (op : Op2) (size : Size) (registers : List ℕ) (at : ℕ) (place : Place) (value : ℕ) → AreRegisters registers →
    Ends AreRegisters (two_store op size registers at place value)
unfolding two_store
two_store-Ends op size registers at place value are = by_test (writes_destination op)
  where
    by_test : (test : Bool) → Ends AreRegisters (write_if test registers (stored_to size registers at place value))
    by_test true = stored_to-Ends size registers at place value are
    by_test false = are

two_rest-Ends :
    (op : Op2) (size : Size) (to : Place) (at status src : ℕ) (registers : List ℕ) → AreRegisters registers →
    Ends AreRegisters (two_rest op size to at status src registers)
two_rest-Ends op size to at status src registers are =
    let value : ℕ → ℕ = λ dst. two_value op size src dst status in
    let flags : ℕ → List ℕ → Script (List ℕ) =
    λ dst after. Return (flagged (writes_destination op) to (two_status op size src dst status) after) in
    Ends-behind AreRegisters (two_target op size registers at to)
    (λ dst. and_then (two_store op size registers at to (value dst)) (flags dst))
    (λ dst.
    Ends-and_then AreRegisters AreRegisters (two_store op size registers at to (value dst)) (flags dst)
    (two_store-Ends op size registers at to (value dst) are)
    (λ after is. flagged-Are (writes_destination op) to (two_status op size src dst status) after is))

two_operands-Ends :
    (op : Op2) (size : Size) (from to : Place) (pc : ℕ) (registers : List ℕ) → AreRegisters registers →
    Ends AreRegisters (two_operands op size from to pc registers)
unfolding two_operands
two_operands-Ends op size from to pc registers are =
    Ends-behind AreRegisters (source size registers pc from) _
    (λ src. two_rest-Ends op size to _ _ src _ (increased-Are size from registers are))

-- ---- one operand

changed-Ends :
    (op : Op1) (size : Size) (place : Place) (pc : ℕ) (registers : List ℕ) → AreRegisters registers →
    Ends AreRegisters (changed op size place pc registers)
unfolding changed
changed-Ends op size place pc registers are =
    Ends-behind AreRegisters _ _
    (λ x.
    Ends-and_then AreRegisters AreRegisters _ _
    (stored_to-Ends size _ _ place _ (increased-Are size place registers are))
    (λ after is. flagged-Are true place _ after is))

lowered-Are :
    (size : Size) (place : Place) (registers : List ℕ) → AreRegisters registers →
    AreRegisters (lowered size (increased size place registers))
lowered-Are size place registers are =
    with_register-Are (increased size place registers) SP _ (increased-Are size place registers are)

pushed-Ends :
    (size : Size) (value : ℕ) (registers : List ℕ) → AreRegisters registers →
    Ends AreRegisters (pushed size value registers)
unfolding pushed
pushed-Ends size value registers are =
    Ends-behind AreRegisters (put_down (slice_index registers SP) size value) _ (λ done. are)

push-Ends :
    (size : Size) (place : Place) (pc : ℕ) (registers : List ℕ) → AreRegisters registers →
    Ends AreRegisters (push size place pc registers)
unfolding push
push-Ends size place pc registers are =
    Ends-behind AreRegisters _ _ (λ x. pushed-Ends size _ _ (lowered-Are size place registers are))

call-Ends :
    (place : Place) (pc : ℕ) (registers : List ℕ) → AreRegisters registers →
    Ends AreRegisters (call place pc registers)
unfolding call
call-Ends place pc registers are =
    Ends-behind AreRegisters _ _
    (λ x.
    Ends-and_then AreRegisters AreRegisters _ _ (pushed-Ends Word _ _ (lowered-Are Word place registers are))
    (λ after is. with_register-Are after PC _ is))

returned-Are :
    (status low : ℕ) (registers : List ℕ) → AreRegisters registers → AreRegisters (returned status low registers)
returned-Are status low registers are =
    with_register-Are _ PC _ (with_register-Are _ SR status (with_register-Are registers SP _ are))

return_from_interrupt-Ends :
    (registers : List ℕ) → AreRegisters registers → Ends AreRegisters (return_from_interrupt registers)
unfolding return_from_interrupt
return_from_interrupt-Ends registers are = λ status. λ low. returned-Are status low registers are

one_operand-Ends :
    (op : Op1) (size : Size) (place : Place) (pc : ℕ) (registers : List ℕ) → AreRegisters registers →
    Ends AreRegisters (one_operand op size place pc registers)
unfolding one_operand
one_operand-Ends Push size place pc registers are = push-Ends size place pc registers are
one_operand-Ends Call size place pc registers are = call-Ends place pc registers are
one_operand-Ends op size place pc registers are = changed-Ends op size place pc registers are

-- ---- instructions of the MSP430

performed-Ends :
    (d : Decoded) (pc : ℕ) (registers : List ℕ) → AreRegisters registers →
    Ends AreRegisters (performed d pc registers)
unfolding performed
performed-Ends made.Reti pc registers are = return_from_interrupt-Ends registers are
performed-Ends (made.Two op size from to rep long) pc registers are = two_operands-Ends op size from to pc registers are
performed-Ends (made.One op size place rep long) pc registers are = one_operand-Ends op size place pc registers are
performed-Ends (made.Jump condition distance) pc registers are = with_register-Are registers PC _ are
performed-Ends d pc registers are = are

-- the registers behind an instruction
abbrev pub LeavesRegisters : Stepped → Type 0
LeavesRegisters stepped = AreRegisters stepped.registers

executed-Ends :
    (d : Decoded) (ia next : ℕ) (registers : List ℕ) → AreRegisters registers →
    Ends LeavesRegisters (executed d ia next registers)
unfolding executed
executed-Ends made.Reserved ia next registers are = are
executed-Ends d ia next registers are =
    Ends-and_then AreRegisters LeavesRegisters _ _ (performed-Ends d _ _ (with_register-Are registers PC next are))
    (λ after is. is)

-- ---- instructions of the MSP430X

repeated-Are :
    (n : ℕ) (operation : List ℕ → List ℕ) (registers : List ℕ) →
    ((before : List ℕ) → AreRegisters before → AreRegisters (operation before)) → AreRegisters registers →
    AreRegisters (repeated n operation registers)
repeated-Are zero operation registers keeps are = are
repeated-Are (suc n) operation registers keeps are =
    keeps (repeated n operation registers) (repeated-Are n operation registers keeps are)

with_result-Are :
    (written : Bool) (to value : ℕ) (registers : List ℕ) → AreRegisters registers →
    AreRegisters (with_result written to value registers)
with_result-Are true to value registers are = with_register-Are registers to value are
with_result-Are false to value registers are = are

two_once-Are :
    (op : Op2) (size : Size) (from : Place) (to : ℕ) (zero_carry : Bool) (pc : ℕ) (registers : List ℕ) →
    AreRegisters registers → AreRegisters (two_once op size from to zero_carry pc registers)
unfolding two_once
two_once-Are op size from to zero_carry pc registers are =
    flagged-Are (writes_destination op) (Reg to) _ _ (with_result-Are (writes_destination op) to _ registers are)

one_once-Are :
    (op : Op1) (size : Size) (r : ℕ) (zero_carry : Bool) (registers : List ℕ) → AreRegisters registers →
    AreRegisters (one_once op size r zero_carry registers)
unfolding one_once
one_once-Are op size r zero_carry registers are =
    flagged-Are true (Reg r) _ _ (with_register-Are registers r _ are)

moved-Ends :
    (from to : Place) (pc : ℕ) (registers : List ℕ) → AreRegisters registers →
    Ends AreRegisters (moved from to pc registers)
unfolding moved
moved-Ends from to pc registers are =
    Ends-behind AreRegisters _ _
    (λ value. stored_to-Ends Addr _ _ to value (increased-Are Addr from registers are))

computed-Are :
    (op : OpA) (src to : ℕ) (registers : List ℕ) → AreRegisters registers →
    AreRegisters (computed op src to registers)
unfolding computed
computed-Are op src to registers are =
    flagged-Are (writes_result op) (Reg to) _ _ (with_result-Are (writes_result op) to _ registers are)

addressed-Ends :
    (op : OpA) (from : Place) (to pc : ℕ) (registers : List ℕ) → AreRegisters registers →
    Ends AreRegisters (addressed op from to pc registers)
unfolding addressed
addressed-Ends op from to pc registers are =
    Ends-behind AreRegisters (source Addr registers pc from) _ (λ src. computed-Are op src to registers are)

shifted-Are :
    (op : OpS) (size : Size) (count r : ℕ) (registers : List ℕ) → AreRegisters registers →
    AreRegisters (shifted op size count r registers)
unfolding shifted
shifted-Are op size count r registers are = flagged-Are true (Reg r) _ _ (with_register-Are registers r _ are)

pushed_below-Ends :
    (size : Size) (count r at : ℕ) (registers : List ℕ) → AreRegisters registers →
    Ends AreRegisters (pushed_below size count r at registers)
unfolding pushed_below
pushed_below-Ends size zero r at registers are = with_register-Are registers SP at are
pushed_below-Ends size (suc count) r at registers are =
    Ends-behind AreRegisters _ _ (λ done. pushed_below-Ends size count _ _ registers are)

popped_from-Ends :
    (size : Size) (count r at : ℕ) (registers : List ℕ) → AreRegisters registers →
    Ends AreRegisters (popped_from size count r at registers)
unfolding popped_from
popped_from-Ends size zero r at registers are = with_register-Are registers SP at are
popped_from-Ends size (suc count) r at registers are =
    Ends-behind AreRegisters _ _
    (λ value. popped_from-Ends size count _ _ _ (with_register-Are registers r value are))

called-Ends :
    (place : Place) (pc : ℕ) (registers : List ℕ) → AreRegisters registers →
    Ends AreRegisters (called place pc registers)
unfolding called
called-Ends place pc registers are =
    Ends-behind AreRegisters _ _
    (λ target.
    Ends-and_then AreRegisters AreRegisters _ _ (pushed-Ends Addr _ _ (lowered-Are Addr place registers are))
    (λ after is. with_register-Are after PC target is))

extended_two-Ends :
    (op : Op2) (size : Size) (from to : Place) (rep : Rep) (pc : ℕ) (registers : List ℕ) → AreRegisters registers →
    Ends AreRegisters (extended_two op size from to rep pc registers)
unfolding extended_two
extended_two-Ends op size from (Reg to) rep pc registers are =
    either_holds (Ends AreRegisters) (is_register_source from) _ _
    (repeated-Are (count_of rep.count registers) (two_once op size from to rep.zero_carry pc) registers
    (λ before is. two_once-Are op size from to rep.zero_carry pc before is) are)
    (two_operands-Ends op size from (Reg to) pc registers are)
extended_two-Ends op size from to rep pc registers are = two_operands-Ends op size from to pc registers are

extended_one-Ends :
    (op : Op1) (size : Size) (place : Place) (rep : Rep) (pc : ℕ) (registers : List ℕ) → AreRegisters registers →
    Ends AreRegisters (extended_one op size place rep pc registers)
unfolding extended_one
extended_one-Ends Push size place rep pc registers are = one_operand-Ends Push size place pc registers are
extended_one-Ends Call size place rep pc registers are = one_operand-Ends Call size place pc registers are
extended_one-Ends op size (Reg r) rep pc registers are =
    repeated-Are (count_of rep.count registers) (one_once op size r rep.zero_carry) registers
    (λ before is. one_once-Are op size r rep.zero_carry before is) are
extended_one-Ends op size place rep pc registers are = one_operand-Ends op size place pc registers are

extended-Ends :
    (d : Decoded) (pc : ℕ) (registers : List ℕ) → AreRegisters registers →
    Ends AreRegisters (extended d pc registers)
unfolding extended
extended-Ends (made.Two op size from to rep long) pc registers are =
    extended_two-Ends op size from to rep pc registers are
extended-Ends (made.One op size place rep long) pc registers are =
    extended_one-Ends op size place rep pc registers are
extended-Ends (made.Move from to) pc registers are = moved-Ends from to pc registers are
extended-Ends (made.Addr op from to) pc registers are = addressed-Ends op from to pc registers are
extended-Ends (made.Shift op size count r) pc registers are = shifted-Are op size count r registers are
extended-Ends (made.PushMany size count r) pc registers are = pushed_below-Ends size count r _ registers are
extended-Ends (made.PopMany size count r) pc registers are = popped_from-Ends size count r _ registers are
extended-Ends (made.CallA to) pc registers are = called-Ends to pc registers are
extended-Ends d pc registers are = are

-- ---- the whole instruction

step_of_words-Ends :
    (words : List ℕ) (at next : ℕ) (registers : List ℕ) → AreRegisters registers →
    Ends LeavesRegisters (step_of_words words at next registers)
unfolding step_of_words extended_step
step_of_words-Ends words at next registers are = by_form (is_short (decoded words))
  where
    by_form : (test : Bool) → Ends LeavesRegisters (step_by test (decoded words) at next registers)
    by_form true = executed-Ends (decoded words) at next registers are
    by_form false =
        Ends-and_then AreRegisters LeavesRegisters _ _
        (extended-Ends (decoded words) _ _ (with_register-Are registers PC next are))
        (λ after is. is)

-- what holds of each end of what follows the fetches holds of each end
Ends-fetched :
    {A : Type 0} (Holds : A → Type 0) (words : List ℕ) (script : Script A) →
    BehindFetches (λ words rest. Ends Holds rest) words script → Ends Holds script
Ends-fetched Holds words (Return value) is = is
Ends-fetched Holds words (Ask Fetch at size value rest) is =
    λ word. Ends-fetched Holds (words ++ word ∷ []) (rest word) (is word)
Ends-fetched Holds words (Ask Read at size value rest) is = is
Ends-fetched Holds words (Ask Write at size value rest) is = is

pub instructions_leave_registers : InstructionsLeaveRegisters
instructions_leave_registers registers are =
    Ends-fetched LeavesRegisters [] (instruction registers)
    (behind_fetches (λ words rest. Ends LeavesRegisters rest) registers
    (λ words at next. step_of_words-Ends (four_words words) at next registers are))

-- ---- the entry

in_interrupt-Are :
    (word : ℕ) (registers : List ℕ) → AreRegisters registers → AreRegisters (in_interrupt word registers)
in_interrupt-Are word registers are =
    with_register-Are _ PC word (with_register-Are _ SR _ (with_register-Are registers SP _ are))

pub entries_leave_registers : EntriesLeaveRegisters
unfolding entry
entries_leave_registers vector registers are = λ first. λ second. λ word. in_interrupt-Are word registers are
