use Rattle.signal_commands.proofs.Names.{◌≡◌, ◌≤◌, ◌-◌, FolderState, OnlyReads, CountsStand, FILE_LIMIT, Opened, MeasuredTo}
use Rattle.signal_commands.specs.Margins.Words.{named}
use Rattle.signal_commands.proofs.margin.measuring.measure_to_end.Given as goal

abbrev pub invariant-loop-margin : goal.invariant-loop-margin
invariant-loop-margin g l = record {
  within : l.at ≤ FILE_LIMIT;
  count : l.margin.count ≡ l.at;
  measured : (start : FolderState) → Opened start (g.F.Folder.state l.fn.folder) (named l.names) l.fn.mode
      → MeasuredTo start (g.F.Folder.state l.folder) (named l.names) l.fn.mode l.margin l.at;
  reads : OnlyReads (g.F.Folder.state l.fn.folder) (g.F.Folder.state l.folder);
  stand : CountsStand (g.F.Folder.state l.fn.folder) (g.F.Folder.state l.folder);
}

abbrev pub decreases-loop-margin : goal.decreases-loop-margin
decreases-loop-margin g l = FILE_LIMIT - l.at
