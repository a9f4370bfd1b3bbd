use Rattle.detection.proofs.Names.{◌≡◌, ◌-◌, ◌*◌, ◌++◌, length, line_bits, ones}
use Rattle.detection.proofs.slots.fill_with_ones.Given as goal

abbrev pub invariant-loop : goal.invariant-loop
invariant-loop l = record {
  count : length l.out ≡ l.counter;
  bits : line_bits l.out ≡ line_bits l.fn.out ++ ones (4 * (l.counter - length l.fn.out));
}
