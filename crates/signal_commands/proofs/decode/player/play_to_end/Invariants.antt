use Rattle.signal_commands.proofs.Names.{◌≡◌, ◌≤◌, ◌-◌, ◌*◌, length, RECORDING_LIMIT, PIECE, FolderState, CountsStand, OnlyOutput, HEADER}
use Rattle.signal_commands.proofs.Names.{PlayedTo, named}
use Rattle.signal_commands.specs.declared.decode.playback.TheConstants.{ROOM}
use Rattle.signal_commands.specs.Decoding.Playing.{IsReady}
use Rattle.signal_commands.proofs.decode.player.play_to_end.Given as goal

abbrev pub invariant-loop-step : goal.invariant-loop-step
invariant-loop-step g l = record {
  size : length l.piece ≡ PIECE;
  within : l.at ≤ RECORDING_LIMIT;
  ready : IsReady l.playback.reader l.at;
  written_few : l.written ≤ ROOM * l.at;
  played : (start : FolderState) → PlayedTo start (g.F.Folder.state l.fn.folder) (named l.names) l.mode l.fn.playback HEADER 0
      → PlayedTo start (g.F.Folder.state l.folder) (named l.names) l.mode l.playback l.at l.written;
  only : OnlyOutput (g.F.Folder.state l.fn.folder) (g.F.Folder.state l.folder) l.names.file.now;
  stand : CountsStand (g.F.Folder.state l.fn.folder) (g.F.Folder.state l.folder);
}

abbrev pub decreases-loop-step : goal.decreases-loop-step
decreases-loop-step g l = RECORDING_LIMIT - l.at
