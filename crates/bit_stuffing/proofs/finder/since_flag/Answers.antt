use Rattle.std.proofs.Common.{arith}
use Rattle.bit_stuffing.proofs.Names.{lt-ltb}
use Rattle.bit_stuffing.specs.Fours.{since_flag}
use Rattle.bit_stuffing.proofs.finder.since_flag.Goals as goal

pub returns-in-Some : goal.returns-in-Some
returns-in-Some c =
    let behind = c.args.behind in grind (arith, lt-ltb)
