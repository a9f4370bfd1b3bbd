use Rattle.std.proofs.Common.{rules}
use Rattle.bit_stuffing.proofs.Latest.{latest-shifted}
use Rattle.bit_stuffing.proofs.finder.shifted.Goals as goal

pub returns : goal.returns
returns c = λ past h. latest-shifted c.args.latest c.from.result past c.args.bit (search rules) h
