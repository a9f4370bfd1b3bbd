use Rattle.line_world.proofs.Cited.{◌≡◌, ◌*◌, ◌++◌, ℕ, Bool, List, length, take, line_bits, RecordsBits, Mode}
use Rattle.line_world.proofs.tape.write_samples.Given as goal

abbrev pub invariant-loop-place : goal.invariant-loop-place
invariant-loop-place l = record {
  room : length l.out ≡ 4 * l.place;
  stands : (mode : Mode) (bits : List Bool) (octets : List ℕ) → RecordsBits mode l.fn.modulator bits octets
      → RecordsBits mode l.modulator (bits ++ line_bits (take l.place l.slot)) (octets ++ l.out);
}
