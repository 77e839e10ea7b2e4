-- What a boot sees of the bytes that stay secret, and what is shown where others stay secret behind it. While a boot
-- runs the kept set needn't be the seal.
use Rattle.std.specs.Prelude.{◌≡◌, ℕ, ◌%◌, true, false, List, slice_index}
use Rattle.chip_words.specs.declared.sizes.Size.{Size}
use Rattle.chip_words.specs.declared.accesses.Agent.TheVariants.{Boot}
use Rattle.chip_words.specs.declared.accesses.Kind.{Kind}
use Rattle.chip_words.specs.declared.accesses.Kind.TheVariants.{Read}
use Rattle.chip_words.specs.declared.seals.Seal.{Seal}
use Rattle.chip_words.specs.Access.{Accessed, access}
use Rattle.chip_words.specs.BusPart.{BusPart}
use Rattle.chip_words.specs.Map.{aligned, is_fram}
use Rattle.chip_words.specs.Public.{hidden}
use Rattle.chip_words.specs.Seals.{is_in}
use Rattle.access_laws.specs.Locality.{AreAlike}

-- the borders of a seal are multiples of so many bytes
abbrev pub BORDER_STEP : ℕ
BORDER_STEP = 1024

pub record HasBorders (seal : Seal) : Type 0 where
  pub low : seal.low % BORDER_STEP ≡ 0
  pub high : seal.high % BORDER_STEP ≡ 0

-- the accesses of a boot: it reads anywhere, and writes to FRAM alone
abbrev pub IsOfBoot : Kind → ℕ → Type 0
IsOfBoot Read at = Unit {0}
IsOfBoot kind at = is_fram at ≡ true

-- two accesses of the boot leave chips that are alike, and give equal answers where the address isn't one of the seal
pub record BootAlike (seal : Seal) (at : ℕ) (a b : Accessed) : Type 0 where
  pub answer : is_in seal at ≡ false → a.answer ≡ b.answer
  pub part : AreAlike a.part b.part

-- One and the same access is made by the boot in two chips that are alike, whatever the kept set is. It leaves them
-- alike, also where it writes to the kept set, and gives equal answers where it isn't to one of the kept bytes.
abbrev pub BootSeesPublic : Type 0
BootSeesPublic =
    (kind : Kind) (at : ℕ) (size : Size) (value : ℕ) (a b : BusPart) →
    HasBorders a.kept → AreAlike a b → IsOfBoot kind (aligned size at) →
    BootAlike a.kept (aligned size at)
    (access Boot kind at size value a)
    (access Boot kind at size value b)

-- two memories have equal bytes at the addresses that are in one seal and not in another
abbrev pub AgreeWhereOpened : Seal → Seal → List ℕ → List ℕ → Type 0
AgreeWhereOpened old new one other =
    (at : ℕ) → is_in old at ≡ true → is_in new at ≡ false →
    slice_index one at ≡ slice_index other at

-- Where the kept set moves, the bytes that leave it tell all that wasn't shown before: two memories that are equal but
-- for the old set, and equal where addresses leave it, are equal but for the new set.
abbrev pub OpenedTellsAll : Type 0
OpenedTellsAll =
    (old new : Seal) (one other : List ℕ) →
    hidden old one ≡ hidden old other → AgreeWhereOpened old new one other →
    hidden new one ≡ hidden new other
