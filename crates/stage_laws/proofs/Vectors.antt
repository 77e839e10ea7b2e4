-- The vectors of interrupts are never sealed, and an entry changes no port.
use Rattle.std.proofs.Common.{◌≡◌, ◌==◌, ◌≤◌, ◌+◌, ℕ, List, [], ◌∷◌, Bool, true, false, arith, refl, if◌then◌else◌}
use Rattle.std.specs.Prelude.{Option, Some, None, IfSome, nat_le}
use Rattle.std.proofs.lemmas.Bool.Decides.{nat_tests}
use Rattle.chip_words.specs.declared.seals.Seal.{Seal}
use Rattle.chip_words.specs.declared.sizes.Size.TheVariants.{Word}
use Rattle.chip_words.specs.Bits.{has_bit}
use Rattle.chip_words.specs.Interrupts.{Interrupt, NMI_VECTOR, accepted, entered_by, greater_with, greatest, interrupts, standing, units_entered, vectors}
use Rattle.chip_words.specs.Map.{aligned}
use Rattle.chip_words.specs.Seals.{is_in}
use Rattle.chip_words.specs.Units.{Units}
use Rattle.step_laws.proofs.Shapes.{either_holds}

-- ---- where vectors are

pub record IsVector (at : ℕ) : Type 0 where
  pub low : 0xFF80 ≤ at
  pub high : at ≤ 0xFFFF

pub vector-open : (seal : Seal) (at : ℕ) → IsVector at → is_in seal (aligned Word at) ≡ false
unfolding is_in
vector-open seal at is = grind (arith, nat_tests, is.low, is.high)

abbrev AreVectors : List ℕ → Type 0
AreVectors [] = Unit {0}
AreVectors (at ∷ ats) = IsVector at × AreVectors ats

vector-at : (at : ℕ) → nat_le 0xFF80 at ≡ true → nat_le at 0xFFFF ≡ true → IsVector at
vector-at at low high = record { low = grind (arith, nat_tests); high = grind (arith, nat_tests) }

all-vectors : AreVectors vectors
all-vectors = (
  vector-at _ refl refl,
  (
    vector-at _ refl refl,
    (
      vector-at _ refl refl,
      (
        vector-at _ refl refl,
        (
          vector-at _ refl refl,
          (
            vector-at _ refl refl,
            (
              vector-at _ refl refl,
              (
                vector-at _ refl refl,
                (
                  vector-at _ refl refl,
                  (
                    vector-at _ refl refl,
                    (vector-at _ refl refl, (vector-at _ refl refl, (vector-at _ refl refl, tt))),
                  ),
                ),
              ),
            ),
          ),
        ),
      ),
    ),
  ),
)

standing-vectors : (lines line : ℕ) (ats : List ℕ) → AreVectors ats → AreVectors (standing lines line ats)
standing-vectors lines line [] are = tt
standing-vectors lines line (at ∷ ats) are =
    either_holds AreVectors (has_bit lines line) (at ∷ standing lines (line + 1) ats) (standing lines (line + 1) ats)
    (are.0, standing-vectors lines (line + 1) ats are.1)
    (standing-vectors lines (line + 1) ats are.1)

greater-vector : (at : ℕ) (other : Option ℕ) → IsVector at → IfSome other IsVector → IsVector (greater_with at other)
greater-vector at (Some other) is others = record {
  low = omega (arith, is.low, others.low);
  high = omega (arith, is.high, others.high);
}
greater-vector at None is others = is

greatest-vector : (ats : List ℕ) → AreVectors ats → IfSome (greatest ats) IsVector
greatest-vector [] are = tt
greatest-vector (at ∷ ats) are = greater-vector at (greatest ats) are.0 (greatest-vector ats are.1)

-- what is accepted is a vector
pub accepted-vector : (lines : ℕ) (gie nmi : Bool) → IfSome (accepted lines gie nmi) IsVector
unfolding accepted
accepted-vector lines gie nmi =
    let holds : Option ℕ → Type 0 = λ vector. IfSome vector IsVector in
    let some : List ℕ = standing lines 0 vectors in
    either_holds holds nmi (Some NMI_VECTOR) (if gie then greatest some else None) (vector-at NMI_VECTOR refl refl)
    (either_holds holds gie (greatest some) None (greatest-vector some (standing-vectors lines 0 vectors all-vectors)) tt)

-- ---- ports

abbrev LeavePorts : List Interrupt → Units → Type 0
LeavePorts [] units = Unit {0}
LeavePorts (row ∷ rows) units = ((row.entered units).ports ≡ units.ports) × LeavePorts rows units

entered_by-ports :
    (rows : List Interrupt) (vector : ℕ) (units : Units) → LeavePorts rows units →
    (entered_by rows vector units).ports ≡ units.ports
entered_by-ports [] vector units leave = refl
entered_by-ports (row ∷ rows) vector units leave =
    either_holds (λ (after : Units). after.ports ≡ units.ports) (vector == row.vector) (row.entered units)
    (entered_by rows vector units) leave.0 (entered_by-ports rows vector units leave.1)

-- an entry changes none
pub entered-ports : (vector : ℕ) (units : Units) → (units_entered vector units).ports ≡ units.ports
unfolding units_entered
entered-ports vector units =
    entered_by-ports interrupts vector units (
      refl,
      (refl, (refl, (refl, (refl, (refl, (refl, (refl, (refl, (refl, (refl, (refl, (refl, tt)))))))))))),
    )
