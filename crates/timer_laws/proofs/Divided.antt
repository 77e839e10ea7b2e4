-- The steps that edges make.
use Rattle.std.proofs.Common.{◌≡◌, ◌≢◌, ◌<◌, ◌≤◌, ℕ, zero, suc, ◌+◌, ◌*◌, ◌/◌, ◌%◌, ◌^◌, nat_le, Bool, true, false, List, [], ◌∷◌, Option, Some, None, arith, refl, ap, sym, ◌∙◌, inl, inr, add-one}
use Rattle.std.specs.List.{count_by}
use Rattle.std.proofs.lemmas.List.Sums.{sum_by-cons}
use Rattle.std.proofs.Math.Nat.{add-div_left, add-mod_left, div-eq_of_lt, mod-eq_of_lt}
use Rattle.std.proofs.lemmas.Bool.{cases_lt}
use Rattle.std.proofs.lemmas.Bool.Decides.{nat_tests}
use Rattle.chip_words.specs.declared.timer_steps.TimerStep.{TimerStep}
use Rattle.chip_words.specs.Bits.{bit_of}
use Rattle.chip_words.specs.Timer.{Timer, ID, counts, divisor, edge_by, field_at, moves, next_step, stepped, timer_ticked}
use Rattle.timer_laws.specs.Steps.{STOPPED, behind_step, behind_steps, mode}
use Rattle.timer_laws.specs.Edges.{DivisorsAreSmall, Edges, EdgesMakeSteps, HeldEdgesMakeAStep, IsIdle, OtherClockIsIdle, PinIsIdle, StoppedIsIdle, behind_ticks, by_edges, clock}
use Rattle.timer_laws.proofs.Kept.{kept_mode, steps_keep_the_rest}

-- ---- idle ticks

idle : (timer : Timer) (smclk aclk : Bool) → counts timer smclk aclk ≡ false → IsIdle timer smclk aclk
unfolding timer_ticked moves
idle timer smclk aclk still = record { unchanged = simp still; no_step = simp still }

pub stopped_is_idle : StoppedIsIdle
stopped_is_idle timer smclk aclk stopped = idle timer smclk aclk (grind (arith, nat_tests))

pub pin_is_idle : PinIsIdle
pin_is_idle timer smclk aclk no_aclk no_smclk = idle timer smclk aclk (grind (arith, nat_tests))

pub other_clock_is_idle : OtherClockIsIdle
other_clock_is_idle timer = record {
  aclk = λ is smclk. idle timer smclk false (grind (arith, nat_tests));
  smclk = λ is aclk. idle timer false aclk (grind (arith, nat_tests));
}

-- ---- steps and the prescaler

-- no step goes by the prescaler
step-prescaled :
    (step : Option TimerStep) (timer : Timer) (q : ℕ) →
    stepped step (record timer { prescaler = q }) ≡ record (stepped step timer) { prescaler = q }
step-prescaled None timer q = refl
step-prescaled (Some step) timer q = refl

steps-prescaled :
    (n : ℕ) (timer : Timer) (q : ℕ) →
    behind_steps n (record timer { prescaler = q }) ≡ record (behind_steps n timer) { prescaler = q }
unfolding behind_steps
steps-prescaled zero timer q = refl
steps-prescaled (suc n) timer q =
    ap behind_step (steps-prescaled n timer q)
    ∙ step-prescaled (next_step (behind_steps n timer)) (behind_steps n timer) q

-- the first step apart
one_before : (n : ℕ) (timer : Timer) → behind_steps n (behind_steps 1 timer) ≡ behind_steps (suc n) timer
unfolding behind_steps
one_before zero timer = refl
one_before (suc n) timer = ap behind_step (one_before n timer)

-- ---- edges

power_in_range : (id : ℕ) → id < 4 → (1 ≤ 2 ^ id) × (2 ^ id ≤ 8)
power_in_range zero h = (omega arith, omega arith)
power_in_range (suc zero) h = (omega arith, omega arith)
power_in_range (suc (suc zero)) h = (omega arith, omega arith)
power_in_range (suc (suc (suc zero))) h = (omega arith, omega arith)
power_in_range (suc (suc (suc (suc id)))) h = absurd (omega arith)

pub divisors_are_small : DivisorsAreSmall
divisors_are_small timer small =
    let power = power_in_range (field_at ID timer.ctl) (omega arith) in
    (grind (arith, power.0), grind (arith, power.1))

no_edge :
    (timer : Timer) (smclk aclk : Bool) → edge_by (clock timer) smclk aclk ≡ false →
    timer_ticked timer smclk aclk ≡ timer
no_edge timer smclk aclk none = (idle timer smclk aclk (grind (arith, nat_tests))).unchanged

held :
    (timer : Timer) (smclk aclk : Bool) → mode timer ≢ STOPPED → edge_by (clock timer) smclk aclk ≡ true →
    timer.prescaler + 1 < divisor timer →
    timer_ticked timer smclk aclk ≡ record timer { prescaler = timer.prescaler + 1 }
unfolding timer_ticked
held timer smclk aclk runs edge few =
    let counted : counts timer smclk aclk ≡ true = grind (arith, nat_tests) in
    let waits : nat_le (divisor timer) (timer.prescaler + 1) ≡ false = grind (arith, nat_tests) in
    simp (counted, waits)

full :
    (timer : Timer) (smclk aclk : Bool) → mode timer ≢ STOPPED → edge_by (clock timer) smclk aclk ≡ true →
    divisor timer ≤ timer.prescaler + 1 →
    timer_ticked timer smclk aclk ≡ record (behind_steps 1 timer) { prescaler = 0 }
unfolding timer_ticked behind_steps
full timer smclk aclk runs edge many =
    let counted : counts timer smclk aclk ≡ true = grind (arith, nat_tests) in
    let complete : nat_le (divisor timer) (timer.prescaler + 1) ≡ true = grind (arith, nat_tests) in
    simp (counted, complete) (step-prescaled (next_step timer) timer 0)

pub held_edges_make_a_step : HeldEdgesMakeAStep
held_edges_make_a_step timer runs many = record {
  aclk = λ is smclk. full timer smclk true runs (ap (λ c. edge_by c smclk true) is) many;
  smclk = λ is aclk. full timer true aclk runs (ap (λ c. edge_by c true aclk) is) many;
}

-- steps keep the clock and the divisor
same_clock : (timer : Timer) (n : ℕ) → clock (behind_steps n timer) ≡ clock timer
same_clock timer n = let kept = steps_keep_the_rest timer n in omega (arith, kept.ctl)

same_divisor : (timer : Timer) (n : ℕ) → divisor (behind_steps n timer) ≡ divisor timer
same_divisor timer n =
    let kept = steps_keep_the_rest timer n in
    let same_id : field_at ID (behind_steps n timer).ctl ≡ field_at ID timer.ctl = omega (arith, kept.ctl) in
    ap (λ id. 2 ^ id * ((behind_steps n timer).ex0 + 1)) same_id
    ∙ ap (λ ex0. 2 ^ field_at ID timer.ctl * (ex0 + 1)) kept.ex0

-- a timer behind so many steps, with this prescaler
abbrev by_steps : ℕ → ℕ → Timer → Timer
by_steps n q timer = record (behind_steps n timer) { prescaler = q }

-- an edge that is held
waiting :
    (timer : Timer) (n : ℕ) →
    by_edges (timer.prescaler + 1 + n) (record timer { prescaler = timer.prescaler + 1 })
    ≡ by_edges (timer.prescaler + (1 + n)) timer
waiting timer n =
    let sum : timer.prescaler + 1 + n ≡ timer.prescaler + (1 + n) = omega arith in
    let kept = (timer.prescaler + 1 + n) % divisor timer in
    ap (λ (x : Timer). record x { prescaler = kept }) (steps-prescaled _ timer (timer.prescaler + 1))
    ∙ ap (λ e. by_edges e timer) sum

-- an edge that makes a step
completed :
    (timer : Timer) (n : ℕ) → timer.prescaler < divisor timer → divisor timer ≤ timer.prescaler + 1 →
    by_edges n (by_steps 1 0 timer) ≡ by_edges (timer.prescaler + (1 + n)) timer
completed timer n below complete =
    let d = divisor timer in
    let sum : d + n ≡ timer.prescaler + (1 + n) = omega arith in
    let quotient : suc (n / d) ≡ (d + n) / d = sym (add-one (n / d)) ∙ sym (add-div_left n (omega arith)) in
    ap (λ x. by_steps (n / x) (n % x) (by_steps 1 0 timer)) (same_divisor timer 1)
    ∙ ap (λ (x : Timer). record x { prescaler = n % d }) (steps-prescaled (n / d) (behind_steps 1 timer) 0)
    ∙ ap (λ (x : Timer). record x { prescaler = n % d }) (one_before (n / d) timer)
    ∙ ap (λ k. by_steps k (n % d) timer) quotient
    ∙ ap (λ q. by_steps ((d + n) / d) q timer) (sym (add-mod_left d n))
    ∙ ap (λ e. by_edges e timer) sum

-- in how many of these ticks the clock of this number has an edge
abbrev edge_count : List Edges → ℕ → ℕ
edge_count ticks select = count_by (λ edges. edge_by select edges.smclk edges.aclk) ticks

-- edges make steps, for these ticks
abbrev MakeSteps : List Edges → Type 0
MakeSteps ticks =
    (timer : Timer) → mode timer ≢ STOPPED → timer.prescaler < divisor timer →
    behind_ticks ticks timer ≡ by_edges (timer.prescaler + edge_count ticks (clock timer)) timer

-- one tick before these
edge_step :
    (timer : Timer) (edges : Edges) (more : List Edges) (is_edge : Bool) →
    MakeSteps more →
    mode timer ≢ STOPPED → timer.prescaler < divisor timer →
    edge_by (clock timer) edges.smclk edges.aclk ≡ is_edge →
    behind_ticks more (timer_ticked timer edges.smclk edges.aclk)
    ≡ by_edges (timer.prescaler + (bit_of is_edge + edge_count more (clock timer))) timer
edge_step timer edges more false rest runs below is =
    ap (behind_ticks more) (no_edge timer edges.smclk edges.aclk is)
    ∙ rest timer runs below
    ∙ ap (λ n. by_edges (timer.prescaler + n) timer) (omega arith)
edge_step timer edges more true rest runs below is =
    let n = edge_count more (clock timer) in
    let still_runs : mode (behind_steps 1 timer) ≢ STOPPED = λ e. runs (sym (kept_mode timer 1) ∙ e) in
    let ticked = timer_ticked timer edges.smclk edges.aclk in
    let behind = by_edges (timer.prescaler + (1 + n)) timer in
    elim (cases_lt (timer.prescaler + 1) (divisor timer)) as (λ _. behind_ticks more ticked ≡ behind) [
      | inl few ↦
          ap (behind_ticks more) (held timer edges.smclk edges.aclk runs is few)
          ∙ rest (record timer { prescaler = timer.prescaler + 1 }) runs few
          ∙ waiting timer n
      | inr many ↦
          ap (behind_ticks more) (full timer edges.smclk edges.aclk runs is many)
          ∙ rest (by_steps 1 0 timer) still_runs (omega (arith, same_divisor timer 1))
          ∙ ap (λ c. by_edges (0 + edge_count more c) (by_steps 1 0 timer)) (same_clock timer 1)
          ∙ ap (λ e. by_edges e (by_steps 1 0 timer)) (omega arith)
          ∙ completed timer n below many
    ]

make_steps : (ticks : List Edges) → MakeSteps ticks
unfolding behind_ticks behind_steps
make_steps [] timer runs below =
    let none : (timer.prescaler + 0) / divisor timer ≡ 0 = div-eq_of_lt (omega arith) in
    let held_still : (timer.prescaler + 0) % divisor timer ≡ timer.prescaler + 0 = mod-eq_of_lt (omega arith) in
    let same : timer.prescaler ≡ timer.prescaler + 0 = omega arith in
    ap (λ q. by_steps 0 q timer) same
    ∙ ap (λ q. by_steps 0 q timer) (sym held_still)
    ∙ ap (λ n. by_steps n ((timer.prescaler + 0) % divisor timer) timer) (sym none)
make_steps (edges ∷ more) timer runs below =
    let one = λ (e : Edges). bit_of (edge_by (clock timer) e.smclk e.aclk) in
    edge_step timer edges more _ (make_steps more) runs below refl
    ∙ ap (λ n. by_edges (timer.prescaler + n) timer) (sym (sum_by-cons one edges more))

pub edges_make_steps : EdgesMakeSteps
edges_make_steps timer ticks runs below =
    let made = make_steps ticks timer runs below in
    record {
      aclk = λ is. made ∙ ap (λ c. by_edges (timer.prescaler + edge_count ticks c) timer) is;
      smclk = λ is. made ∙ ap (λ c. by_edges (timer.prescaler + edge_count ticks c) timer) is;
    }
