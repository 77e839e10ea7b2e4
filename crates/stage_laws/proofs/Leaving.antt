-- What a step from inside the seal leaves of the public part, from what its items tell.
use Rattle.std.proofs.Common.{◌≡◌, ◌<◌, ℕ, List, Bool, true, false, length, arith, refl, ap, sym, ◌∙◌, if◌then◌else◌}
use Rattle.std.specs.Prelude.{Option, Some, None, IfSome}
use Rattle.std.proofs.lemmas.List.{length-replicate}
use Rattle.chip_words.specs.declared.accesses.Access.{Access}
use Rattle.chip_words.specs.declared.accesses.Agent.{Agent}
use Rattle.chip_words.specs.declared.accesses.Agent.TheVariants.{Cpu, Entry}
use Rattle.chip_words.specs.declared.segments.Segment.{Segment}
use Rattle.chip_words.specs.declared.segments.Segment.TheVariants.{One, Two, Three, Info, Sealed}
use Rattle.chip_words.specs.Bits.{has_bit}
use Rattle.chip_words.specs.BusPart.{BusPart}
use Rattle.chip_words.specs.Causes.{least_cause, lesser_cause, no_causes, with_cause}
use Rattle.chip_words.specs.Public.{hidden, public_part}
use Rattle.chip_words.specs.Segments.{flag_of}
use Rattle.chip_words.specs.Steps.{ended_at, ended_with, step_ended, violation_ended}
use Rattle.access_laws.specs.Replay.{NO_MEMORY, replay}
use Rattle.access_laws.proofs.Masks.{hidden-twice}
use Rattle.bus_fabric.specs.Fabric.{part_entered}
use Rattle.right_laws.specs.Ends.{requests}
use Rattle.cpux_execute.specs.declared.outcomes.Outcome.{Outcome}
use Rattle.cpux_execute.specs.declared.outcomes.Outcome.TheVariants.{Cycles, Reserved}
use Rattle.chip_core.specs.Turns.{asked, reserved_cause}
use Rattle.stage_laws.specs.Seen.{without_requests}
use Rattle.step_laws.proofs.Shapes.{either_holds}
use Rattle.stage_laws.proofs.Joining.{Joins, asked-Joins, ended-Joins, entered-Joins}
use Rattle.stage_laws.proofs.Telling.{Told}
use Rattle.stage_laws.proofs.Unions.{least_cause-union, least_cause-with_cause, lesser-turned}

-- ---- what is left to see of the bus part

abbrev pub mask : BusPart → BusPart
mask part = without_requests (public_part part)

pub mask-memory :
    (part : BusPart) → mask part ≡ record (mask part) { memory = hidden part.kept (hidden part.kept part.memory) }
mask-memory part = ap (λ m. record (mask part) { memory = m }) (sym (hidden-twice part.kept part.memory))

-- what a place asks for goes by no request, and by no byte
violation-mask :
    (place : Segment) (part : BusPart) → mask (violation_ended place part) ≡ mask (violation_ended place (mask part))
violation-mask One part = mask-memory (violation_ended One part)
violation-mask Two part = mask-memory (violation_ended Two part)
violation-mask Three part = mask-memory (violation_ended Three part)
violation-mask Info part = mask-memory (violation_ended Info part)
violation-mask Sealed part = mask-memory (violation_ended Sealed part)

ended_at-mask :
    (noted : ℕ) (place : Segment) (part : BusPart) → mask (ended_at noted place part) ≡ mask (ended_at noted place (mask part))
ended_at-mask noted place part =
    elim (has_bit noted (flag_of place)) as
    (λ v. mask (if v then violation_ended place part else part)
    ≡ mask (if v then violation_ended place (mask part) else mask part)) [
      | true ↦ violation-mask place part
      | false ↦ mask-memory part
    ]

-- one place more on either side
onto :
    (noted : ℕ) (place : Segment) (x y : BusPart) → mask x ≡ mask y →
    mask (ended_at noted place x) ≡ mask (ended_at noted place y)
onto noted place x y same =
    ended_at-mask noted place x
    ∙ ap (λ p. mask (ended_at noted place p)) same
    ∙ sym (ended_at-mask noted place y)

pub ended-mask : (noted : ℕ) (part : BusPart) → mask (ended_with noted part) ≡ mask (ended_with noted (mask part))
unfolding ended_with
ended-mask noted part =
    onto noted Three _ _ (onto noted Two _ _ (onto noted One _ _ (onto noted Info _ _
    (onto noted Sealed part (mask part) (mask-memory part)))))

-- nothing noted, nothing done
pub ended-none : (part : BusPart) → ended_with 0 part ≡ part
unfolding ended_with
ended-none part = refl

-- the list of a step stands behind its end
ended_at-accesses : (noted : ℕ) (place : Segment) (part : BusPart) → (ended_at noted place part).accesses ≡ part.accesses
ended_at-accesses noted place part =
    either_holds (λ (after : BusPart). after.accesses ≡ part.accesses) (has_bit noted (flag_of place))
    (violation_ended place part) part refl refl

pub step_ended-accesses : (part : BusPart) → (step_ended part).accesses ≡ part.accesses
unfolding ended_with
step_ended-accesses part =
    let a : BusPart = ended_at part.noted Sealed (record part { noted = 0 }) in
    let b : BusPart = ended_at part.noted Info a in
    let c : BusPart = ended_at part.noted One b in
    let d : BusPart = ended_at part.noted Two c in
    ended_at-accesses part.noted Three d ∙ ended_at-accesses part.noted Two c ∙ ended_at-accesses part.noted One b
    ∙ ended_at-accesses part.noted Info a
    ∙ ended_at-accesses part.noted Sealed (record part { noted = 0 })

-- ---- a step's end

-- the agent of a step
abbrev pub agent_of : Option ℕ → ℕ → Agent
agent_of (Some vector) ia = Entry
agent_of None ia = Cpu ia

-- behind its accesses an entry clears what asked for it
abbrev pub entered_by : Option ℕ → BusPart → BusPart
entered_by (Some vector) part = part_entered vector part
entered_by None part = part

-- the bus part behind a step, from what is told of it
abbrev pub left_part : Told → BusPart → BusPart
left_part told part =
    mask (ended_with told.flags (mask (entered_by told.vector
    (replay (agent_of told.vector NO_MEMORY) part told.accesses))))

pub replay-anyone :
    (vector : Option ℕ) (ia : ℕ) (part : BusPart) (accesses : List Access) →
    replay (agent_of vector ia) part accesses ≡ replay (agent_of vector NO_MEMORY) part accesses
replay-anyone (Some vector) ia part accesses = refl
replay-anyone None ia part accesses = refl

-- the end of a step, by a part that is the same but for its requests
pub ended-left :
    (vector : Option ℕ) (ia : ℕ) (start ran behind : BusPart) (accesses : List Access) →
    mask behind ≡ mask (entered_by vector ran) → behind.noted ≡ ran.noted →
    public_part ran ≡ replay (agent_of vector ia) (public_part start) accesses →
    mask (step_ended behind)
    ≡ mask (ended_with ran.noted (mask (entered_by vector
    (replay (agent_of vector NO_MEMORY) (public_part start) accesses))))
ended-left vector ia start ran behind accesses same noted replayed =
    ended-mask behind.noted (record behind { noted = 0 })
    ∙ ap (λ part. mask (ended_with behind.noted part)) (same ∙ entered-mask vector ran)
    ∙ ap (λ noted. mask (ended_with noted (mask (entered_by vector (public_part ran))))) noted
    ∙ ap (λ part. mask (ended_with ran.noted (mask (entered_by vector part))))
    (replayed ∙ replay-anyone vector ia (public_part start) accesses)
  where
    entered-mask :
        (vector : Option ℕ) (ran : BusPart) → mask (entered_by vector ran) ≡ mask (entered_by vector (public_part ran))
    entered-mask (Some vector) ran = mask-memory (part_entered vector ran)
    entered-mask None ran = mask-memory ran

-- ---- requests

no_causes-count : length no_causes ≡ 65
unfolding no_causes
no_causes-count = length-replicate 65 false

reserved-within : (outcome : Outcome) (start : List Bool) → length start ≡ length no_causes → IfSome (reserved_cause outcome) (λ k. k < length start)
reserved-within (Cycles cycles) start count = tt
reserved-within Reserved start count = omega (arith, count, no_causes-count)

-- behind an instruction
pub least-instructed :
    (start : List Bool) (outcome : Outcome) (ran : BusPart) → length start ≡ length no_causes → Joins start ran →
    least_cause (requests (step_ended (asked (reserved_cause outcome) ran)))
    ≡ lesser_cause (least_cause start)
    (lesser_cause (least_cause (step_ended (asked (reserved_cause outcome) ran)).causes) (reserved_cause outcome))
least-instructed start outcome ran count joins =
    let cause : Option ℕ = reserved_cause outcome in
    let last : BusPart = step_ended (asked cause ran) in
    let joined : Joins (with_cause cause start) last =
    ended-Joins (with_cause cause start) (asked cause ran) (asked-Joins start cause ran joins) in
    ap least_cause joined.requested
    ∙ least_cause-union (with_cause cause start) last.causes joined.count
    ∙ ap (λ least. lesser_cause least (least_cause last.causes))
    (least_cause-with_cause cause start (reserved-within outcome start count))
    ∙ lesser-turned (least_cause start) cause (least_cause last.causes)

-- behind an entry
pub least-entered :
    (start : List Bool) (vector : ℕ) (ran : BusPart) → Joins start ran →
    least_cause (requests (step_ended (part_entered vector ran)))
    ≡ lesser_cause (least_cause start) (least_cause (step_ended (part_entered vector ran)).causes)
least-entered start vector ran joins =
    let last : BusPart = step_ended (part_entered vector ran) in
    let joined : Joins start last =
    ended-Joins start (part_entered vector ran) (entered-Joins start vector ran joins) in
    ap least_cause joined.requested ∙ least_cause-union start last.causes joined.count
