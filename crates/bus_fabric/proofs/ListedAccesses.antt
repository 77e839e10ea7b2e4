-- The list of a step's accesses, with one more.
use Rattle.std.proofs.Common.{◌≡◌, true, refl, List, [], ◌∷◌, ◌++◌, ◌<◌, zero, suc, arith}
use Rattle.std.specs.Prelude.{All}
use Rattle.std.proofs.lemmas.List.Elements.{All-append}
use Rattle.chip_words.specs.declared.accesses.Access.{Access}
use Rattle.chip_words.specs.declared.sizes.Size.{Size}
use Rattle.chip_words.specs.declared.sizes.Size.TheVariants.{Byte, Word, Addr}
use Rattle.chip_words.specs.Sizes.{IsByteOrWord, span}
use Rattle.bus_fabric.specs.Listable.{IsListable, is_on_bus}

one : (access : Access) → IsListable access → All IsListable (access ∷ [])
one access is zero d within = is
one access is (suc k) d within = absurd (omega (arith, within))

width : (size : Size) → IsByteOrWord size → is_on_bus size ≡ true
width Byte on = refl
width Word on = refl
width Addr on = absurd on

pub with_one_more :
    (accesses : List Access) (access : Access) → All IsListable accesses → access.at < 0x100000 →
    IsByteOrWord access.size → access.value < span access.size → All IsListable (accesses ++ access ∷ [])
with_one_more accesses access are at on value =
    All-append IsListable accesses (access ∷ []) are (one access (at, width access.size on, value))
