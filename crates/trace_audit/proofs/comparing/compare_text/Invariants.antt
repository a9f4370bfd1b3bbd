use Rattle.trace_audit.proofs.Cited.{length, IsTrue, OnlyReads, CountsStand, audited}
use Rattle.trace_audit.proofs.Splitting.{Midway}
use Rattle.trace_audit.proofs.comparing.compare_text.Given as goal

abbrev pub invariant-loop-rest : goal.invariant-loop-rest
invariant-loop-rest g l = record {
  midway : Midway (IsTrue ((g.F.Folder.state l.fn.folder).tells l.trace)) (audited (g.F.Folder.state l.fn.folder) l.trace) l.text
      l.rest l.fn.comparison l.comparison;
  reads : OnlyReads (g.F.Folder.state l.fn.folder) (g.F.Folder.state l.folder);
  stand : CountsStand (g.F.Folder.state l.fn.folder) (g.F.Folder.state l.folder);
}

abbrev pub decreases-loop-rest : goal.decreases-loop-rest
decreases-loop-rest g l = length l.rest
