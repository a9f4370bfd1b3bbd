use Rattle.line_tap.proofs.Cited.{◌≡◌, ◌≤◌, ◌-◌, ◌*◌, [], length, line_bits, DeframerStands, pieces_of, wholes, part}
use Rattle.line_tap.proofs.seeker.end_of_piece.Given as goal

abbrev pub invariant-loop-place : goal.invariant-loop-place
invariant-loop-place l = record {
  low : l.from ≤ l.place;
  within : l.place ≤ 4 * length l.slot;
  stands : DeframerStands l.deframer (part (line_bits l.slot) l.from l.place);
  none : wholes (pieces_of (part (line_bits l.slot) l.from l.place)) ≡ [];
}

abbrev pub decreases-loop-place : goal.decreases-loop-place
decreases-loop-place l = 4 * length l.slot - l.place
