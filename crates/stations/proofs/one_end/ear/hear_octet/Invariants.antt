use Rattle.stations.proofs.Names.{Bool, List, ◌++◌, take, HasHeard, octet_bits, IsNumbered, IsHeard}
use Rattle.stations.proofs.one_end.ear.hear_octet.Given as goal

abbrev pub invariant-loop-place : goal.invariant-loop-place
invariant-loop-place l = record {
  stands : (bits : List Bool) → HasHeard l.fn.ear bits → HasHeard l.ear (bits ++ take l.place (octet_bits l.octet));
  heard : (earlier bits : List Bool) → HasHeard l.fn.ear (earlier ++ bits) → IsHeard l.peer earlier bits l.fn.heard
      → IsHeard l.peer earlier (bits ++ take l.place (octet_bits l.octet)) l.heard;
  numbers : IsNumbered l.heard;
}
