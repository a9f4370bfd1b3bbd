use Rattle.detection.proofs.Names.{◌≡◌, ◌*◌, length, line_bits, patterns}
use Rattle.detection.proofs.slots.pattern_slot.Given as goal

abbrev pub invariant-loop : goal.invariant-loop
invariant-loop l = record {
  count : length l.out ≡ 9 * l.counter;
  bits : line_bits l.out ≡ patterns l.counter l.seen;
}
