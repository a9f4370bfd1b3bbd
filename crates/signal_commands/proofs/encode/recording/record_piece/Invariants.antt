use Rattle.signal_commands.proofs.Names.{◌≤◌, ◌*◌, ◌++◌, ℕ, List, length, take, Rate, Mode, RecorderStands}
use Rattle.signal_commands.proofs.encode.recording.record_piece.Given as goal

abbrev pub invariant-loop-octet : goal.invariant-loop-octet
invariant-loop-octet l = record {
  room : length l.recorded ≤ 16 * l.octet-index;
  stands : (rate : Rate) (mode : Mode) (octets recorded : List ℕ) → RecorderStands rate mode l.fn.recorder octets recorded
      → RecorderStands rate mode l.recorder (octets ++ take l.octet-index l.piece) (recorded ++ l.recorded);
}
