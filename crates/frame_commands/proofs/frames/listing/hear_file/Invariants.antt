use Rattle.frame_commands.proofs.Names.{◌≤◌, ◌*◌, [], Begun, HeardTo, named, FolderState, OnlyOutputs, FILE_LIMIT}
use Rattle.std.proofs.Common.{◌-◌}
use Rattle.outside_calls.specs.Folder.{CountsStand}
use Rattle.frame_commands.proofs.frames.listing.hear_file.Given as goal

abbrev pub invariant-loop-listener : goal.invariant-loop-listener
invariant-loop-listener g l = record {
  within : l.at ≤ FILE_LIMIT;
  pieces : l.listener.pieces ≤ 8 * l.at;
  heard : (start : FolderState) → Begun start (g.F.Folder.state l.fn.folder) (named l.names)
      → HeardTo start (g.F.Folder.state l.folder) (named l.names) l.listener l.at;
  only : OnlyOutputs (g.F.Folder.state l.fn.folder) (g.F.Folder.state l.folder) [];
  stand : CountsStand (g.F.Folder.state l.fn.folder) (g.F.Folder.state l.folder);
}

abbrev pub decreases-loop-listener : goal.decreases-loop-listener
decreases-loop-listener g l = FILE_LIMIT - l.at
