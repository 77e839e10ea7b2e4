use Rattle.std.proofs.Common.{◌≡◌, ◌<◌, ◌∙◌, sym, refl, arith, false, true}
use Rattle.boot_code.specs.ImageSeal.{image_seal}
use Rattle.chip_words.specs.Seals.{is_in}
use Rattle.std.proofs.Common.{ap}
use Rattle.stage_laws.proofs.Seals.{seals_go_by_addresses}
use Rattle.capsule.proofs.Firsts.{differ_first, fram_ends, images_agree, same_seal}
use Rattle.capsule.proofs.comparisons.compare_images.Goals as goal

-- seals that aren't equal don't hold the same addresses
pub returns-then-not-are_same-clause-differ : goal.returns-then-not-are_same-clause-differ
returns-then-not-are_same-clause-differ c = λ same.
    let equal : c.image_seal-seal.result ≡ c.image_seal.result = c.image_seal-seal.ensures ∙ seals_go_by_addresses c.args.one.now c.args.other.now same ∙ sym c.image_seal.ensures in
    let clash : false ≡ true = c.if-not-are_same.ensures.1 equal in
    cc

pub returns-in-Some-clause-differ : goal.returns-in-Some-clause-differ
returns-in-Some-clause-differ c =
    let seals : image_seal c.args.one.now ≡ image_seal c.args.other.now = sym c.image_seal-seal.ensures ∙ c.if-not-are_same.ensures.0 refl ∙ c.image_seal.ensures in
    let outside : is_in (image_seal c.args.one.now) c.in-Some.at ≡ false = rw c.image_seal-seal.ensures at c.in-Some.ensures.differ.1 in (
      same_seal c.args.one.now c.args.other.now seals,
      differ_first c.args.bench.now c.args.one.now c.args.other.now c.args.a.now c.args.b.now c.requires.first_a c.requires.first_b c.in-Some.at c.in-Some.ensures.differ.0 outside c.in-Some.ensures.differ.2 (λ lower below fram unsealed. c.in-Some.ensures.least lower below fram (ap (λ seal. is_in seal lower) c.image_seal-seal.ensures ∙ unsealed)),
    )

pub returns-in-Some-clause-tellable : goal.returns-in-Some-clause-tellable
returns-in-Some-clause-tellable c =
    let below : c.in-Some.at < 0x14000 = fram_ends c.in-Some.at c.in-Some.ensures.differ.0 in
    omega (arith, below)

pub returns-in-None-clause-agree : goal.returns-in-None-clause-agree
returns-in-None-clause-agree c = λ none.
    let seals : image_seal c.args.one.now ≡ image_seal c.args.other.now = sym c.image_seal-seal.ensures ∙ c.if-not-are_same.ensures.0 refl ∙ c.image_seal.ensures in
    images_agree c.args.bench.now c.args.one.now c.args.other.now c.args.a.now c.args.b.now c.requires.first_a c.requires.first_b seals (λ at fram unsealed. c.in-None.ensures.none refl at fram (ap (λ seal. is_in seal at) c.image_seal-seal.ensures ∙ unsealed))
