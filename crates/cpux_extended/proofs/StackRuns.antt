-- PUSHM and POPM, one register further.
use Rattle.std.proofs.Common.{◌≡◌, ℕ, suc, ◌+◌, ◌-◌, ◌%◌, ◌<◌, List, slice_index, arith}
use Rattle.chip_words.specs.declared.sizes.Size.{Size}
use Rattle.chip_words.specs.declared.accesses.Agent.{Agent}
use Rattle.chip_words.specs.BusPart.{BusPart}
use Rattle.chip_words.specs.Registers.{with_register}
use Rattle.chip_words.specs.Script.{run}
use Rattle.chip_words.proofs.Runs.{run_then}
use Rattle.cpux_execute.specs.Operands.{asked}
use Rattle.cpux_execute.specs.OneOperand.{below, kept, put_down}
use Rattle.cpux_extended.specs.Stack.{popped_from, pushed_below, raised}

-- what is left of a push of several registers, before and after one of them
pub run_pushed : (who : Agent) (size : Size) (count i r at : ℕ) (registers : List ℕ) (part : BusPart) → i < count →
    run who (pushed_below size (count - i) r at registers) part
    ≡ run who (pushed_below size (count - (i + 1)) ((r + 15) % 16) (below size at) registers)
    (run who (put_down (below size at) size (kept size (slice_index registers r))) part).part
unfolding pushed_below
run_pushed who size count i r at registers part h =
    let e : count - i ≡ suc (count - (i + 1)) = omega arith in
    rw e
    (run_then who (put_down (below size at) size (kept size (slice_index registers r)))
    (λ done. pushed_below size (count - (i + 1)) ((r + 15) % 16) (below size at) registers) part)

-- what is left of a pop of several registers, before and after one of them
pub run_popped : (who : Agent) (size : Size) (count i r at : ℕ) (registers : List ℕ) (part : BusPart) → i < count →
    run who (popped_from size (count - i) r at registers) part
    ≡ run who
    (popped_from size (count - (i + 1)) ((r + 1) % 16) (raised size at)
    (with_register registers r (run who (asked at size) part).value))
    (run who (asked at size) part).part
unfolding popped_from
run_popped who size count i r at registers part h =
    let e : count - i ≡ suc (count - (i + 1)) = omega arith in
    rw e
    (run_then who (asked at size)
    (λ value. popped_from size (count - (i + 1)) ((r + 1) % 16) (raised size at) (with_register registers r value)) part)
