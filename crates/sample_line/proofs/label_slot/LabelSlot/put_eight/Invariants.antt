use Rattle.std.proofs.Common.{◌≡◌, ℕ, ◌+◌, ◌*◌, ◌<◌, length, slice_index}
use Rattle.sample_line.proofs.label_slot.LabelSlot.put_eight.Given as goal

abbrev pub invariant-loop-k : goal.invariant-loop-k
invariant-loop-k l = record {
  long : length l.out ≡ 128;
  value : (j : ℕ) → j < l.k → 8 * l.group + j < length l.self → slice_index l.out (l.place + j) ≡ slice_index l.self (8 * l.group + j);
  bound : (j : ℕ) → j < l.k → slice_index l.out (l.place + j) < 32;
  before : (j : ℕ) → j < l.place → slice_index l.out j ≡ slice_index l.fn.out j;
}
