use Rattle.gateway.proofs.Names.{◌≡◌, [], DeframerStands, pieces_of, given}
use Rattle.gateway.proofs.framer.first_end.Given as goal

abbrev pub invariant-loop-place : goal.invariant-loop-place
invariant-loop-place l = record {
  stands : DeframerStands l.deframer (given l.place l.bits);
  quiet : pieces_of (given l.place l.bits) ≡ [];
}
