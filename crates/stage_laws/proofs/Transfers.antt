-- The ticks that DMA owns: neither the registers nor the phase change in them, but for a write that sets the seal.
use Rattle.std.proofs.Common.{◌≡◌, ℕ, [], Bool, true, false, arith, refl, ap, sym, ◌∙◌}
use Rattle.std.specs.Prelude.{Option, Some, None}
use Rattle.std.proofs.lemmas.Bool.Decides.{nat_tests}
use Rattle.chip_words.specs.declared.accesses.Agent.TheVariants as by
use Rattle.chip_words.specs.BusPart.{BusPart}
use Rattle.chip_words.specs.Public.{IsSettled}
use Rattle.chip_words.specs.Script.{Ran, run}
use Rattle.chip_words.specs.Steps.{begun, step_ended}
use Rattle.access_laws.specs.Steps.{RanAlike}
use Rattle.access_laws.proofs.Seen.{AreAlike-seen, seen, seen-AreAlike}
use Rattle.access_laws.proofs.Stepping.{step-RanAlike}
use Rattle.dma_unit.specs.declared.transfers.Move.{Move}
use Rattle.dma_unit.specs.Moves.{transfer}
use Rattle.dma_unit.specs.Transfers.{move_at, transferred}
use Rattle.release_log.proofs.Locked.{run-KeepsEncapsulation, step_ended-LeavesStored}
use Rattle.chip_core.specs.declared.owners.Owner.{Owner}
use Rattle.chip_core.specs.declared.owners.Owner.TheVariants.{Boot, Nobody, Processor, SecondTick, Transfer}
use Rattle.chip_core.specs.Lines.{turn_lines}
use Rattle.chip_core.specs.State.{State}
use Rattle.chip_core.specs.Turns.{moved, owned, step_owned, transfer_turn, with_dma}
use Rattle.stage_laws.specs.Transfers.{IsOfDma, TransfersSeePublic}
use Rattle.stage_laws.proofs.Faces.{LookAlike-outer, outer, outer-settled, step_ended-alike}
use Rattle.stage_laws.proofs.Passing.{IsPassed, passed-LookAlike, passed-faces}

-- ---- the turn

moved-alike :
    (move : Option Move) (a b : State) → IsSettled a.bus → IsSettled b.bus → outer a ≡ outer b →
    outer (moved move a).chip ≡ outer (moved move b).chip
moved-alike None a b settled_a settled_b same = same
moved-alike (Some move) a b settled_a settled_b same =
    let x : Ran ℕ = run by.Dma (transfer move) (begun a.bus) in
    let y : Ran ℕ = run by.Dma (transfer move) (begun b.bus) in
    let buses : seen a.bus ≡ seen b.bus = ap (λ (chip : State). chip.bus) same in
    let alike : RanAlike x y =
    step-RanAlike by.Dma (transfer move) a.bus b.bus settled_a settled_b (seen-AreAlike a.bus b.bus buses) tt in
    let made : BusPart → State → State = λ bus chip. record chip { bus = bus; second_tick = true } in
    ap (λ (chip : State). made (seen (step_ended x.part)) chip) same
    ∙ ap (λ bus. made bus (outer b)) (step_ended-alike x.part y.part (AreAlike-seen x.part y.part alike.part))

transfer-alike :
    (channel : ℕ) (a b : State) → IsSettled a.bus → IsSettled b.bus → outer a ≡ outer b →
    outer (transfer_turn channel a).chip ≡ outer (transfer_turn channel b).chip
unfolding transfer_turn
transfer-alike channel a b settled_a settled_b same =
    let x : State = with_dma (transferred channel) a in
    let y : State = with_dma (transferred channel) b in
    let counted : outer x ≡ outer y = ap (with_dma (transferred channel)) same in
    ap (λ (chip : State). outer (moved (move_at channel (chip.bus.units).dma.channels) x).chip) same
    ∙ moved-alike (move_at channel (b.bus.units).dma.channels) x y settled_a settled_b counted

turn-alike :
    (owner : Owner) (a b : State) → IsOfDma owner → IsSettled a.bus → IsSettled b.bus → outer a ≡ outer b →
    outer (owned owner a).chip ≡ outer (owned owner b).chip
unfolding owned
turn-alike (Transfer channel) a b dma settled_a settled_b same = transfer-alike channel a b settled_a settled_b same
turn-alike SecondTick a b dma settled_a settled_b same =
    ap (λ (chip : State). record chip { second_tick = false }) same
turn-alike Nobody a b dma settled_a settled_b same = absurd dma
turn-alike (Boot place) a b dma settled_a settled_b same = absurd dma
turn-alike Processor a b dma settled_a settled_b same = absurd dma

-- ---- what it leaves

moved-IsPassed : (move : Option Move) (chip : State) → IsPassed chip (moved move chip).chip
moved-IsPassed None chip =
    record { registers = refl; busy = refl; halted = refl; up = refl; encap = λ locked. refl }
moved-IsPassed (Some move) chip =
    let x : Ran ℕ = run by.Dma (transfer move) (begun chip.bus) in
    record {
      registers = refl;
      busy = refl;
      halted = refl;
      up = refl;
      encap = λ locked.
          (step_ended-LeavesStored x.part).encapsulation.registers
          ∙ (run-KeepsEncapsulation by.Dma (transfer move) (begun chip.bus) locked).registers;
    }

transfer-IsPassed : (channel : ℕ) (chip : State) → IsPassed chip (transfer_turn channel chip).chip
unfolding transfer_turn
transfer-IsPassed channel chip =
    let passed = moved-IsPassed (move_at channel (chip.bus.units).dma.channels) (with_dma (transferred channel) chip) in
    record {
      registers = passed.registers;
      busy = passed.busy;
      halted = passed.halted;
      up = passed.up;
      encap = λ locked. passed.encap locked;
    }

turn-IsPassed : (owner : Owner) (chip : State) → IsOfDma owner → IsPassed chip (owned owner chip).chip
unfolding owned
turn-IsPassed (Transfer channel) chip dma = transfer-IsPassed channel chip
turn-IsPassed SecondTick chip dma =
    record { registers = refl; busy = refl; halted = refl; up = refl; encap = λ locked. refl }
turn-IsPassed Nobody chip dma = absurd dma
turn-IsPassed (Boot place) chip dma = absurd dma
turn-IsPassed Processor chip dma = absurd dma

-- ---- the law

no_lines :
    (was_halted : Bool) (chip : State) → chip.halted ≡ was_halted → turn_lines was_halted None chip ≡ []
no_lines true chip halted = grind (arith, nat_tests)
no_lines false chip halted = grind (arith, nat_tests)

no_boot : (owner : Owner) (chip : State) → IsOfDma owner → step_owned owner chip ≡ None
unfolding step_owned
no_boot (Transfer channel) chip dma = refl
no_boot SecondTick chip dma = refl
no_boot Nobody chip dma = absurd dma
no_boot (Boot place) chip dma = absurd dma
no_boot Processor chip dma = absurd dma

lines-none :
    (owner : Owner) (chip : State) → IsOfDma owner →
    turn_lines chip.halted (step_owned owner chip) (owned owner chip).chip ≡ []
lines-none owner chip dma =
    ap (λ step. turn_lines chip.halted step (owned owner chip).chip) (no_boot owner chip dma)
    ∙ no_lines chip.halted (owned owner chip).chip (turn-IsPassed owner chip dma).halted

pub transfers_see_public : TransfersSeePublic
transfers_see_public owner a b dma ready up alike =
    let passed_a : IsPassed a (owned owner a).chip = turn-IsPassed owner a dma in
    let passed_b : IsPassed b (owned owner b).chip = turn-IsPassed owner b dma in
    let same = LookAlike-outer a b alike in
    let settled : IsSettled a.bus = ready.settled up in
    let outers = turn-alike owner a b dma settled (outer-settled a b same settled) same in
    record {
      chips = passed-LookAlike a b _ _ alike passed_a passed_b outers;
      public = λ public.
          let faces = passed-faces a b _ _ public alike passed_a passed_b outers in
          record {
            registers = ap (λ (chip : State). chip.registers) faces;
            busy = ap (λ (chip : State). chip.busy) faces;
          };
      lines = lines-none owner a dma ∙ sym (lines-none owner b dma);
    }
