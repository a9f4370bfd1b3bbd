use Rattle.signal_commands.proofs.Names.{ℕ, ◌≤◌, ◌+◌, ◌-◌, ◌*◌, ◌/◌, List, ◌++◌, length, take, FolderState, OnlySays, CountsStand}
use Rattle.signal_commands.proofs.Names.{samples_in, Plays, IsReady, Sample}
use Rattle.signal_commands.proofs.pickup.playing.play_piece.Given as goal

abbrev pub invariant-loop-at : goal.invariant-loop-at
invariant-loop-at g l = record {
  plays : (start : FolderState) (samples : List Sample) → Plays start (g.F.Folder.state l.fn.folder) l.mode l.fn.player samples
      → Plays start (g.F.Folder.state l.folder) l.mode l.player (samples ++ samples_in (take (4 * l.at) l.piece));
  ready : (most : ℕ) → IsReady l.fn.player most → IsReady l.player (most + l.at);
  only : OnlySays (g.F.Folder.state l.fn.folder) (g.F.Folder.state l.folder);
  stand : CountsStand (g.F.Folder.state l.fn.folder) (g.F.Folder.state l.folder);
  within : 4 * l.at ≤ length l.piece;
}

abbrev pub decreases-loop-at : goal.decreases-loop-at
decreases-loop-at g l = length l.piece / 4 - l.at
