use Rattle.bit_stuffing.proofs.Names.{◌≡◌, ◌++◌, take, written, stuffed, room_behind, octet_bits}
use Rattle.bit_stuffing.proofs.pen.Pen.content_octet.Given as goal

abbrev pub invariant-loop-place : goal.invariant-loop-place
invariant-loop-place l = record {
  bits : written l.self l.out ≡ written l.fn.self l.fn.out ++ stuffed l.room (take l.place (octet_bits l.octet));
  left : l.left ≡ room_behind l.room (take l.place (octet_bits l.octet));
}
