-- Of two images under one bench a verdict is due, since all that a verdict goes by is decided, one way or the other.
use Rattle.std.proofs.Common.{◌≡◌, ◌≢◌, ◌<◌, ◌≤◌, ◌⊎◌, ℕ, zero, suc, Bool, not, leb, List, [], ◌∷◌, slice_index, inl, inr, arith, refl, ap, subst, ⊎_elim}
use Rattle.std.specs.Bool.{Decides}
use Rattle.std.specs.Cmp.Lexicographic.{pointwise}
use Rattle.std.specs.List.{AllByRecursion}
use Rattle.std.proofs.lemmas.Bool.{cases_Bool, cases_eq, cases_lt, le-leb, leb-true, not-true, not_from_false}
use Rattle.std.proofs.lemmas.Bool.Decides.{not_from_Decides}
use Rattle.std.proofs.lemmas.List.Elements.{All-from_recursion, recursion_from_All}
use Rattle.chip_words.specs.declared.seals.Seal.{Seal}
use Rattle.chip_words.specs.Map.{is_fram}
use Rattle.chip_words.specs.Memory.{memory_size}
use Rattle.chip_words.specs.Seals.{is_in}
use Rattle.boot_code.specs.ImageSeal.{image_seal}
use Rattle.elf_image.specs.Image.{Segment, byte_of}
use Rattle.stimulus.specs.Stimulus.{Stimulus}
use Rattle.trace_print.specs.contracts.releases.ItemPartialEq.TheImpl as derived
use Rattle.trace_print.specs.declared.releases.Item.{Item}
use Rattle.trace_print.specs.declared.releases.Item.TheVariants.{Opened}
use Rattle.trace_print.specs.declared.verdicts.Verdict.{Verdict}
use Rattle.trace_print.specs.declared.verdicts.Verdict.TheVariants.{Seal as SealVerdict, Outside, Release, Same}
use Rattle.chip_core.specs.Items.{items_of}
use Rattle.chip_core.specs.Run.{chip_after}
use Rattle.chip_core.specs.State.{State}
use Rattle.chip_core.specs.Tick.{ticked}
use Rattle.release_log.specs.SameItems.{AreSameItems, OpensAlike}
use Rattle.release_log.proofs.SameItems.{items_decided}
use Rattle.release_log.proofs.Shorts.{fram_within}
use Rattle.stage_laws.specs.OneTick.{ItemsAgree}
use Rattle.stage_laws.specs.TwoRuns.{IsUnsealed, SealSame, first_of}
use Rattle.stage_laws.specs.Verdicts.{DifferFirstAt, IsVerdict, RunsCompare, VerdictIsDue}
use Rattle.stage_laws.proofs.Seals.{seals_go_by_addresses}

-- ---- decided facts

-- a fact holds, or it can't
abbrev Decided : Type 0 → Type 0
Decided P = P ⊎ (P → ⊥)

decided : {P : Type 0} (test : Bool) → Decides test P → Decided P
decided test decides = ⊎_elim (λ e. inl (decides.0 e)) (λ e. inr (not_from_Decides test decides e)) (cases_Bool test)

module _ {P Q : Type 0} where
  like : (P → Q) → (Q → P) → Decided P → Decided Q
  like to from (inl holds) = inl (to holds)
  like to from (inr fails) = inr (λ h. fails (from h))

  both : Decided P → Decided Q → Decided (P × Q)
  both (inl holds) (inl also) = inl (holds, also)
  both (inl holds) (inr fails) = inr (λ h. fails h.1)
  both (inr fails) other = inr (λ h. fails h.0)

  -- one fact holds without the other, or never does
  apart : Decided P → Decided Q → (P × (Q → ⊥)) ⊎ (P → Q)
  apart (inl holds) (inl also) = inr (λ _. also)
  apart (inl holds) (inr fails) = inl (holds, fails)
  apart (inr fails) other = inr (λ h. absurd (fails h))

all_decided :
    {X : Type 0} (P : X → Type 0) → ((x : X) → Decided (P x)) → (xs : List X) → Decided (AllByRecursion P xs)
all_decided P each [] = inl tt
all_decided P each (x ∷ xs) = both (each x) (all_decided P each xs)

-- ---- the first number below another

-- each number is of one of two kinds. Bounds are variables, so that nothing computes over all addresses or ticks
module _ (Yes No : ℕ → Type 0) where
  record IsFirst (n k : ℕ) : Type 0 where
    pub below : k < n
    pub holds : Yes k
    pub before : (j : ℕ) → j < k → No j

  abbrev FirstOrNone : ℕ → Type 0
  FirstOrNone n = ((k : ℕ) × IsFirst n k) ⊎ ((k : ℕ) → k < n → No k)

  one_more : (n : ℕ) → FirstOrNone n → Yes n ⊎ No n → FirstOrNone (suc n)
  one_more n (inl found) either =
      let first = found.1 in
      inl (found.0, record { below = omega (arith, first.below); holds = first.holds; before = first.before })
  one_more n (inr none) (inl here) = inl (n, record { below = omega arith; holds = here; before = none })
  one_more n (inr none) (inr here) = inr (λ k below. side k below (cases_lt k n))
    where
      side : (k : ℕ) → k < suc n → (k < n) ⊎ (n ≤ k) → No k
      side k below (inl lower) = none k lower
      side k below (inr least) = let same : n ≡ k = omega arith in subst No same here

  first_or_none : ((k : ℕ) → Yes k ⊎ No k) → (n : ℕ) → FirstOrNone n
  first_or_none each zero = inr (λ k below. absurd (omega arith))
  first_or_none each (suc n) = one_more n (first_or_none each n) (each n)

-- ---- the images

seals_decided : (a b : Seal) → Decided (a ≡ b)
seals_decided a b =
    like (λ h i. record { low = h.0 i; high = h.1 i }) (λ e. (ap (λ seal. seal.low) e, ap (λ seal. seal.high) e))
    (both (cases_eq a.low b.low) (cases_eq a.high b.high))

SealSame-decided : (one other : List Segment) → Decided (SealSame one other)
SealSame-decided one other =
    like (λ e at. ap (λ seal. is_in seal at) e) (seals_go_by_addresses one other)
    (seals_decided (image_seal one) (image_seal other))

IsUnsealed-decided : (image : List Segment) (at : ℕ) → Decided (IsUnsealed image at)
IsUnsealed-decided image at =
    let sealed = is_in (image_seal image) at in
    like (λ h. record { fram = h.0; unsealed = h.1 }) (λ outside. (outside.fram, outside.unsealed))
    (both (decided (is_fram at) (λ e. e, λ e. e)) (decided (not sealed) (not-true sealed, not_from_false sealed)))

module _ (one other : List Segment) where
  abbrev Differ : ℕ → Type 0
  Differ at = IsUnsealed one at × (byte_of one at ≢ byte_of other at)

  abbrev Equal : ℕ → Type 0
  Equal at = IsUnsealed one at → byte_of one at ≡ byte_of other at

  byte_decided : (at : ℕ) → Differ at ⊎ Equal at
  byte_decided at = apart (IsUnsealed-decided one at) (cases_eq (byte_of one at) (byte_of other at))

  first_differs : (at : ℕ) → IsFirst Differ Equal memory_size at → DifferFirstAt one other at
  first_differs at first = record {
    differ = record { outside = first.holds.0; bytes = first.holds.1 };
    least = λ lower below differ. differ.bytes (first.before lower below differ.outside);
  }

-- ---- the items of a tick

module _ (one other : List ℕ) where
  opened_decided : (low high : ℕ) → Decided (OpensAlike one other (Opened low high))
  opened_decided low high =
      side (first_or_none _ _ (λ at. apart (from_decided at) (cases_eq (slice_index one at) (slice_index other at))) high)
    where
      from_decided : (at : ℕ) → Decided (low ≤ at)
      from_decided at = decided (leb low at) (leb-true low at, le-leb low at)

      side :
          FirstOrNone (λ at. (low ≤ at) × (slice_index one at ≢ slice_index other at))
          (λ at. low ≤ at → slice_index one at ≡ slice_index other at) high →
          Decided (OpensAlike one other (Opened low high))
      side (inl found) =
          let first = found.1 in
          inr (λ equal. first.holds.1 (equal found.0 first.holds.0 first.below))
      side (inr none) = inl (λ at from below. none at below from)

  OpensAlike-decided : (item : Item) → Decided (OpensAlike one other item)
  OpensAlike-decided (Opened low high) = opened_decided low high
  OpensAlike-decided item = inl tt

  AreSameItems-decided : (a b : List Item) → Decided (AreSameItems a b one other)
  AreSameItems-decided a b =
      let alike = OpensAlike one other in
      let equal : Bool = pointwise (derived.ghosts).eq a b in
      like (λ h. record { items = h.0; bytes = All-from_recursion alike a h.1 })
      (λ same. (same.items, recursion_from_All alike a same.bytes))
      (both (decided equal (items_decided a b equal refl)) (all_decided alike OpensAlike-decided a))

-- ---- the runs of two chips

module _ (bench : Stimulus) (a b : State) where
  abbrev Agree : ℕ → Type 0
  Agree k = ItemsAgree bench (chip_after k bench a) (chip_after k bench b)

  abbrev Part : ℕ → Type 0
  Part k = Agree k → ⊥

  tick_decided : (k : ℕ) → Part k ⊎ Agree k
  tick_decided k =
      let one = chip_after k bench a in
      let other = chip_after k bench b in
      ⊎_elim inr inl
      (AreSameItems-decided (ticked bench one).bus.memory (ticked bench other).bus.memory (items_of bench one)
      (items_of bench other))

  runs_due : (verdict : Verdict) × RunsCompare bench a b verdict
  runs_due = side (first_or_none Part Agree tick_decided bench.end)
    where
      side : FirstOrNone Part Agree bench.end → (verdict : Verdict) × RunsCompare bench a b verdict
      side (inl found) =
          let first = found.1 in
          (Release found.0, record { in_run = first.below; until = first.before; differ = first.holds })
      side (inr none) = (Same, none)

-- ---- both

-- all FRAM lies within memory, so that no address outside is left
pub verdict_is_due : VerdictIsDue
verdict_is_due bench one other = by_seal (SealSame-decided one other)
  where
    Due : Type 0
    Due = (verdict : Verdict) × IsVerdict bench one other verdict

    by_bytes : SealSame one other → FirstOrNone (Differ one other) (Equal one other) memory_size → Due
    by_bytes seal (inl found) = (Outside found.0, inl (seal, first_differs one other found.0 found.1))
    by_bytes seal (inr none) =
        let due = runs_due bench (first_of bench one) (first_of bench other) in
        let bytes : (at : ℕ) → Equal one other at = λ at outside. none at (fram_within at outside.fram) outside in
        (due.0, inr (record { images = record { seal = seal; bytes = bytes }; runs = due.1 }))

    by_seal : Decided (SealSame one other) → Due
    by_seal (inl seal) = by_bytes seal (first_or_none _ _ (byte_decided one other) memory_size)
    by_seal (inr differ) = (SealVerdict, inl differ)
