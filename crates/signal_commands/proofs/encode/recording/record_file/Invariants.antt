use Rattle.signal_commands.proofs.Names.{◌≤◌, ◌-◌, FolderState, CountsStand, OnlyOutput, FILE_LIMIT, Begun, RecordedTo}
use Rattle.signal_commands.specs.Encoding.Words.{named}
use Rattle.signal_commands.proofs.encode.recording.record_file.Given as goal

abbrev pub invariant-loop-count : goal.invariant-loop-count
invariant-loop-count g l = record {
  within : l.at ≤ FILE_LIMIT;
  recorded : (start : FolderState) → Begun start (g.F.Folder.state l.fn.folder) (named l.names)
      → RecordedTo start (g.F.Folder.state l.folder) (named l.names) l.recorder l.at;
  only : OnlyOutput (g.F.Folder.state l.fn.folder) (g.F.Folder.state l.folder) l.names.rec.now;
  stand : CountsStand (g.F.Folder.state l.fn.folder) (g.F.Folder.state l.folder);
}

abbrev pub decreases-loop-count : goal.decreases-loop-count
decreases-loop-count g l = FILE_LIMIT - l.at
