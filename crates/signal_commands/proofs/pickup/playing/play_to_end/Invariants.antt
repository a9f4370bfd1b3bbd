use Rattle.signal_commands.proofs.Names.{◌≡◌, ◌≤◌, ◌-◌, [], length, RECORDING_LIMIT, PIECE, FolderState, CountsStand, OnlyOutputs, HEADER}
use Rattle.signal_commands.proofs.Names.{IsReady}
use Rattle.signal_commands.specs.PickingUp.Playing.{PlayedTo}
use Rattle.signal_commands.proofs.pickup.playing.play_to_end.Given as goal

abbrev pub invariant-loop-player : goal.invariant-loop-player
invariant-loop-player g l = record {
  size : length l.piece ≡ PIECE;
  within : l.at ≤ RECORDING_LIMIT;
  ready : IsReady l.player l.at;
  played : (start : FolderState) → PlayedTo start (g.F.Folder.state l.fn.folder) l.rec l.mode l.fn.player HEADER
      → PlayedTo start (g.F.Folder.state l.folder) l.rec l.mode l.player l.at;
  only : OnlyOutputs (g.F.Folder.state l.fn.folder) (g.F.Folder.state l.folder) [];
  stand : CountsStand (g.F.Folder.state l.fn.folder) (g.F.Folder.state l.folder);
}

abbrev pub decreases-loop-player : goal.decreases-loop-player
decreases-loop-player g l = RECORDING_LIMIT - l.at
