use Rattle.gateway.proofs.Names.{◌≡◌, ◌*◌, ◌≤◌, ◌++◌, Bool, ℕ, List, length, take, given, AreBits, Mode}
use Rattle.gateway.proofs.decoder.put_labels.Given as goal

abbrev pub invariant-loop-label : goal.invariant-loop-label
invariant-loop-label g l = record {
  same : length l.bits ≡ length l.fn.bits;
  at : l.at ≤ 4 * l.label-index;
  bits : AreBits l.at l.bits;
  reads : (mode : Mode) (before : List ℕ) (read : List Bool) → g.D.Demodulate.reads mode l.fn.demodulator before read
      → g.D.Demodulate.reads mode l.demodulator (before ++ take l.label-index l.labels) (read ++ given l.at l.bits);
}
