use Rattle.gateway.proofs.Names.{◌≡◌, ◌*◌, length, take, line_bits, given, AreBits}
use Rattle.gateway.proofs.framer.put_slot.Given as goal

abbrev pub invariant-loop-place : goal.invariant-loop-place
invariant-loop-place l = record {
  same : length l.bits ≡ length l.fn.bits;
  bits : AreBits (4 * l.place) l.bits;
  put : given (4 * l.place) l.bits ≡ line_bits (take l.place l.slot);
}
