-- A dump, one byte further.
use Rattle.std.proofs.Common.{◌≡◌, ℕ, suc, ◌+◌, ◌-◌, ◌%◌, ◌<◌, [], ◌∷◌, ◌++◌, List, append_assoc, ap, arith}
use Rattle.chip_words.specs.declared.sizes.Size.TheVariants.{Byte}
use Rattle.chip_words.specs.declared.accesses.Agent.{Agent}
use Rattle.chip_words.specs.declared.accesses.Kind.TheVariants.{Read}
use Rattle.chip_words.specs.Access.{access}
use Rattle.chip_words.specs.BusPart.{BusPart}
use Rattle.chip_words.specs.Script.{Return, run}
use Rattle.chip_words.proofs.Runs.{run_then}
use Rattle.debug_port.specs.Commands.{bytes_from}

-- the bytes so far and those that are left, before and after one of them
pub run_bytes : (who : Agent) (count i at : ℕ) (before : List ℕ) (part : BusPart) → i < count →
    before ++ (run who (bytes_from (count - i) at) part).value
    ≡ (before ++ (access who Read at Byte 0 part).answer ∷ [])
    ++ (run who (bytes_from (count - (i + 1)) ((at + 1) % 0x100000)) (access who Read at Byte 0 part).part).value
unfolding bytes_from
run_bytes who count i at before part h =
    let e : count - i ≡ suc (count - (i + 1)) = omega arith in
    let read = access who Read at Byte 0 part in
    let after =
    run_then who (bytes_from (count - (i + 1)) ((at + 1) % 0x100000))
    (λ bytes. Return (read.answer ∷ bytes)) read.part in
    rw (e, append_assoc, after)

-- the bus part that the rest leaves, before and after one byte
pub run_bytes_part : (who : Agent) (count i at : ℕ) (part : BusPart) → i < count →
    (run who (bytes_from (count - i) at) part).part
    ≡ (run who (bytes_from (count - (i + 1)) ((at + 1) % 0x100000)) (access who Read at Byte 0 part).part).part
unfolding bytes_from
run_bytes_part who count i at part h =
    let e : count - i ≡ suc (count - (i + 1)) = omega arith in
    let read = access who Read at Byte 0 part in
    let after =
    run_then who (bytes_from (count - (i + 1)) ((at + 1) % 0x100000))
    (λ bytes. Return (read.answer ∷ bytes)) read.part in
    rw e (ap (λ ran. ran.part) after)
