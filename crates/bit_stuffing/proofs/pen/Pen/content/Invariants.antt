use Rattle.bit_stuffing.proofs.Names.{◌≡◌, ◌++◌, take, written, stuffed, room_behind, bits_of}
use Rattle.bit_stuffing.proofs.pen.Pen.content.Given as goal

abbrev pub invariant-loop-octet : goal.invariant-loop-octet
invariant-loop-octet l = record {
  bits : written l.self l.out ≡ written l.fn.self l.fn.out ++ stuffed l.room (bits_of (take l.octet-index l.octets));
  left : l.left ≡ room_behind l.room (bits_of (take l.octet-index l.octets));
}
