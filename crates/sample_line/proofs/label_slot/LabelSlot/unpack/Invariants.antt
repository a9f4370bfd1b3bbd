use Rattle.std.proofs.Common.{◌≡◌, ℕ, ◌+◌, ◌*◌, ◌<◌, length, slice_index}
use Rattle.sample_line.proofs.label_slot.LabelSlot.unpack.Given as goal

abbrev pub invariant-loop-eight : goal.invariant-loop-eight
invariant-loop-eight l = record {
  value : (k : ℕ) → k < 8 * l.eight → l.at + k < length l.self → slice_index l.out k ≡ slice_index l.self (l.at + k);
  bound : (k : ℕ) → k < 8 * l.eight → slice_index l.out k < 32;
}
