-- Each item of a tick has room for its values.
use Rattle.std.proofs.Common.{◌≡◌, ℕ, zero, suc, ◌<◌, true, List, [], ◌∷◌, ◌++◌, arith}
use Rattle.std.specs.Prelude.{All}
use Rattle.std.proofs.lemmas.List.Elements.{All-append}
use Rattle.chip_words.specs.declared.accesses.Access.{Access}
use Rattle.chip_words.specs.declared.accesses.Kind.{Kind}
use Rattle.chip_words.specs.declared.accesses.Kind.TheVariants as kind
use Rattle.chip_words.specs.declared.sizes.Size.{Size}
use Rattle.chip_words.specs.declared.sizes.Size.TheVariants.{Byte, Word, Addr}
use Rattle.chip_words.specs.Sizes.{IsByteOrWord}
use Rattle.bus_fabric.specs.Listable.{IsListable, is_on_bus}
use Rattle.trace_print.specs.declared.releases.Item.{Item}
use Rattle.chip_core.specs.Items.{IsItem, access_item, item_of_kind}

one : (item : Item) → IsItem item → All IsItem (item ∷ [])
one item is zero d within = is
one item is (suc k) d within = absurd (omega (arith, within))

-- one item more
pub with_item : (items : List Item) (item : Item) → All IsItem items → IsItem item → All IsItem (items ++ item ∷ [])
with_item items item are is = All-append IsItem items (item ∷ []) are (one item is)

width : (size : Size) → is_on_bus size ≡ true → IsByteOrWord size
width Byte on = tt
width Word on = tt
width Addr on = absurd (cc)

by_kind : (kind : Kind) (access : Access) → IsListable access → IsItem (item_of_kind kind access)
by_kind kind.Fetch access is = is.0
by_kind kind.Read access is = (is.0, width access.size is.1)
by_kind kind.Write access is = (is.0, width access.size is.1, is.2)

-- an access of a step's list as an item
pub access_fits : (access : Access) → IsListable access → IsItem (access_item access)
access_fits access is = by_kind access.kind access is

-- registers of 20 bits, of which the first is one more
one_register : (register : ℕ) (registers : List ℕ) → register < 0x100000 → All (λ r. r < 0x100000) registers → All (λ r. r < 0x100000) (register ∷ registers)
one_register register registers small others zero d within = small
one_register register registers small others (suc k) d within = others k d (omega (arith, within))

no_register : All (λ (r : ℕ). r < 0x100000) []
no_register k d within = absurd (omega (arith, within))

-- four before others
pub four_registers :
    (a b c d : ℕ) (registers : List ℕ) → a < 0x100000 → b < 0x100000 → c < 0x100000 → d < 0x100000 →
    All (λ r. r < 0x100000) registers → All (λ r. r < 0x100000) (a ∷ b ∷ c ∷ d ∷ registers)
four_registers a b c d registers p q r s others =
    one_register a (b ∷ c ∷ d ∷ registers) p
    (one_register b (c ∷ d ∷ registers) q (one_register c (d ∷ registers) r (one_register d registers s others)))

-- four registers of 20 bits
pub last_four :
    (a b c d : ℕ) → a < 0x100000 → b < 0x100000 → c < 0x100000 → d < 0x100000 →
    All (λ r. r < 0x100000) (a ∷ b ∷ c ∷ d ∷ [])
last_four a b c d p q r s = four_registers a b c d [] p q r s no_register
