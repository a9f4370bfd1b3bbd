use Rattle.signal_commands.proofs.Names.{◌≤◌, ◌+◌, ◌*◌, ◌++◌, ℕ, List, length, take, Mode, LabelsJoined}
use Rattle.signal_commands.proofs.decode.playback.read_tail.Given as goal

abbrev pub invariant-loop-label : goal.invariant-loop-label
invariant-loop-label g l = record {
  room : 8 * length l.octets + l.joiner.count ≤ 4 * l.label-index + 7;
  read : (mode : Mode) (before octets : List ℕ) → LabelsJoined (g.D.Demodulate.reads mode) l.fn.demodulator l.fn.joiner before octets
      → LabelsJoined (g.D.Demodulate.reads mode) l.demodulator l.joiner (before ++ take l.label-index l.labels) (octets ++ l.octets);
}
