use Rattle.bit_stuffing.proofs.Names.{Bool, List, Gathers}
use Rattle.bit_stuffing.proofs.Octets.{HasPushed}
use Rattle.bit_stuffing.proofs.unstuffer.Unstuffer.push_each.Given as goal

abbrev pub invariant-loop-place : goal.invariant-loop-place
invariant-loop-place l = (line : List Bool) → Gathers l.fn.self line → HasPushed l.self line l._place l.rest l.count l.bits
