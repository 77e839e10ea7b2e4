use Rattle.std.proofs.Common.{◌<◌, sym, arith}
use Rattle.capsule.proofs.Firsts.{fram_ends, fram_has_bytes}
use Rattle.capsule.proofs.comparisons.first_outside.Goals as goal

pub byte-requires : goal.byte-requires
byte-requires c = record { place = fram_has_bytes c.loop-at.at (sym c.if-is_fram.ensures) }

pub byte-requires-then-not-holds : goal.byte-requires-then-not-holds
byte-requires-then-not-holds c = record { place = fram_has_bytes c.loop-at.at (sym c.if-is_fram.ensures) }

-- all addresses of FRAM were passed
pub returns-clause-none : goal.returns-clause-none
returns-clause-none c = λ none at fram outside.
    let below : at < 0x14000 = fram_ends at fram in
    c.loop-at.invariant.equal at (omega (arith, below)) fram outside
