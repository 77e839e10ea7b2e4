-- A step that writes no byte at an address leaves it as it was.
use Rattle.std.proofs.Common.{◌≡◌, ◌≢◌, ◌+◌, ◌&&◌, ℕ, List, Bool, true, false, slice_index, refl, ap, sym, ◌∙◌, subst, if◌then◌else◌}
use Rattle.std.specs.Prelude.{All}
use Rattle.std.proofs.lemmas.List.{get_or-set_other}
use Rattle.std.proofs.lemmas.List.Elements.{All-head, All-tail}
use Rattle.chip_words.specs.declared.sizes.Size.{Size}
use Rattle.chip_words.specs.declared.sizes.Size.TheVariants.{Byte}
use Rattle.chip_words.specs.declared.accesses.Agent.{Agent}
use Rattle.chip_words.specs.declared.accesses.Kind.TheVariants.{Fetch, Read, Write}
use Rattle.chip_words.specs.Access.{Accessed, access, numbered}
use Rattle.chip_words.specs.BusPart.{BusPart}
use Rattle.chip_words.specs.Map.{aligned, has_bytes, region_at}
use Rattle.chip_words.specs.Memory.{stored}
use Rattle.chip_words.specs.Script.{Ask, Return, Script, run}
use Rattle.access_laws.specs.Locality.{is_absent}
use Rattle.access_laws.proofs.Courses.{access-absent, access-present}
use Rattle.step_laws.proofs.Shapes.{either_holds}
use Rattle.release_log.specs.Writes.{Misses, StepWrite, StepsLeaveMissed, last_of, with_write, write_made, writes_of}
use Rattle.release_log.proofs.Firsts.{access-Fetch, access-Read, present-stored}

stored-missed :
    (memory : List ℕ) (at : ℕ) (size : Size) (value byte : ℕ) → byte ≢ at → byte ≢ last_of size at →
    slice_index (stored memory at size value) byte ≡ slice_index memory byte
unfolding stored
stored-missed memory at Byte value byte first last = get_or-set_other memory at byte _ 0 first
stored-missed memory at size value byte first last =
    get_or-set_other _ (at + 1) byte _ 0 last ∙ get_or-set_other memory at byte _ 0 first

pub with_write-missed :
    (memory : List ℕ) (write : StepWrite) (byte : ℕ) → Misses byte write →
    slice_index (with_write memory write) byte ≡ slice_index memory byte
with_write-missed memory write byte misses = by_right write.allowed refl
  where
    written : List ℕ
    written = stored memory write.at write.size write.value

    IsSame : List ℕ → Type 0
    IsSame after = slice_index after byte ≡ slice_index memory byte

    by_right :
        (test : Bool) → write.allowed ≡ test →
        IsSame (if test && has_bytes (region_at write.at) then written else memory)
    by_right true allowed =
        either_holds IsSame (has_bytes (region_at write.at)) written memory
        (stored-missed memory write.at write.size write.value byte (misses.first allowed) (misses.last allowed)) refl
    by_right false refused = refl

access-missed :
    (who : Agent) (at : ℕ) (size : Size) (value : ℕ) (part : BusPart) (byte : ℕ) →
    Misses byte (write_made who at size value part) →
    slice_index ((access who Write at size value part).part).memory byte ≡ slice_index part.memory byte
access-missed who at size value part byte misses = by_absence (is_absent Write part) refl
  where
    IsSame : Accessed → Type 0
    IsSame after = slice_index (after.part).memory byte ≡ slice_index part.memory byte

    by_absence : (test : Bool) → is_absent Write part ≡ test → IsSame (access who Write at size value part)
    by_absence true absent = subst IsSame (sym (access-absent who Write at size value part absent)) refl
    by_absence false present =
        subst IsSame (sym (access-present who Write at size value part present))
        (ap (λ memory. slice_index memory byte) (present-stored who (aligned size at) size value (numbered part))
        ∙ with_write-missed part.memory (write_made who at size value part) byte misses)

-- whatever the script ends in
pub run-missed :
    {A : Type 0} (who : Agent) (step : Script A) (part : BusPart) (byte : ℕ) →
    All (Misses byte) (writes_of who step part) →
    slice_index ((run who step part).part).memory byte ≡ slice_index part.memory byte
run-missed who (Return value) part byte misses = refl
run-missed who (Ask Write at size value rest) part byte misses =
    let next = access who Write at size value part in
    let first = write_made who at size value part in
    let others = writes_of who (rest next.answer) next.part in
    run-missed who (rest next.answer) next.part byte (All-tail (Misses byte) first others misses)
    ∙ access-missed who at size value part byte (All-head (Misses byte) first others misses)
run-missed who (Ask Read at size value rest) part byte misses =
    let next = access who Read at size value part in
    run-missed who (rest next.answer) next.part byte misses
    ∙ ap (λ memory. slice_index memory byte) (access-Read who at size value part)
run-missed who (Ask Fetch at size value rest) part byte misses =
    let next = access who Fetch at size value part in
    run-missed who (rest next.answer) next.part byte misses
    ∙ ap (λ memory. slice_index memory byte) (access-Fetch who at size value part)

pub steps_leave_missed : StepsLeaveMissed
steps_leave_missed who step part byte misses = run-missed who step part byte misses
