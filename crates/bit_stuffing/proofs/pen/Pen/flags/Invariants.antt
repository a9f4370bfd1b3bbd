use Rattle.bit_stuffing.proofs.Names.{◌≡◌, ◌++◌, written, flags}
use Rattle.bit_stuffing.proofs.pen.Pen.flags.Given as goal

abbrev pub invariant-loop : goal.invariant-loop
invariant-loop l = written l.self l.out ≡ written l.fn.self l.fn.out ++ flags l.counter
