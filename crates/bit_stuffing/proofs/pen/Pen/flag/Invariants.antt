use Rattle.bit_stuffing.proofs.Names.{◌≡◌, ◌-◌, ◌++◌, take, drop, flag, written}
use Rattle.bit_stuffing.proofs.pen.Pen.flag.Given as goal

abbrev pub invariant-loop-place : goal.invariant-loop-place
invariant-loop-place l = written l.self l.out ≡ written l.fn.self l.fn.out ++ take (l.place - l.from) (drop l.from flag)
