use Rattle.std.proofs.Common.{arith}
use Rattle.bit_stuffing.proofs.Latest.{latest-none}
use Rattle.bit_stuffing.proofs.finder.FlagFinder.new.Goals as goal

pub returns : goal.returns
returns c = record { holds = latest-none; counts = λ p o. absurd (omega (arith, o.flag_ends.room, o.flag_ends.within)) }
