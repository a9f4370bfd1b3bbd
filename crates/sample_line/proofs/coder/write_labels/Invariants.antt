use Rattle.sample_line.proofs.Names.{◌≡◌, ◌*◌, ◌++◌, Bool, List, length, map, take, line_bits, ModulatorStands, Mode, point_of, Sample}
use Rattle.sample_line.proofs.coder.write_labels.Given as goal

abbrev pub invariant-loop-pair : goal.invariant-loop-pair
invariant-loop-pair l = record {
  behind : length l.out ≡ 2 * l.pair;
  stands : (mode : Mode) (before : List Bool) (points : List Sample) → ModulatorStands mode l.fn.modulator before points
      → ModulatorStands mode l.modulator (before ++ line_bits (take (2 * l.pair) l.bits)) (points ++ map point_of l.out);
}
