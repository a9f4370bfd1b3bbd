use Rattle.stations.proofs.Names.{Bool, List, ◌++◌, take, HasHeard, bits_of, IsNumbered, IsHeard, filled}
use Rattle.stations.proofs.one_end.ear.hear_slot.Given as goal

abbrev pub invariant-loop-place : goal.invariant-loop-place
invariant-loop-place l = record {
  stands : (bits : List Bool) → HasHeard l.fn.ear bits → HasHeard l.ear (bits ++ bits_of (take l.place (filled l.slot)));
  heard : (bits : List Bool) → HasHeard l.fn.ear bits → IsHeard l.peer bits (bits_of (take l.place (filled l.slot))) l.heard;
  numbers : IsNumbered l.heard;
}
