use Rattle.std.proofs.Common.{arith}
use Rattle.bit_stuffing.proofs.Names.{◌≡◌, rules, number}
use Rattle.bit_stuffing.proofs.BitLists.{bits-more, more-lt, added}
use Rattle.bit_stuffing.proofs.bits.with_bit.Goals as goal

pub returns-clause-bits : goal.returns-clause-bits
returns-clause-bits c =
    let one : c.from.result ≡ number c.args.bit = search rules in grind (arith, added, bits-more)

pub returns-clause-small : goal.returns-clause-small
returns-clause-small c =
    let one : c.from.result ≡ number c.args.bit = search rules in
    rw (added c.args.held c.args.bit c.from.result c.requires.held one) (more-lt c.args.held c.args.part c.args.bit c.requires.part)
