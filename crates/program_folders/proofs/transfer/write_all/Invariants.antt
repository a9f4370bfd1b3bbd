use Rattle.std.proofs.Common.{◌-◌, length}
use Rattle.program_folders.proofs.Moved.{WroteUpTo}
use Rattle.program_folders.proofs.transfer.write_all.Given as goal

abbrev pub invariant-loop-written : goal.invariant-loop-written
invariant-loop-written g l = WroteUpTo (g.W.Write.contents l.fn.writer) (g.W.Write.contents l.writer) l.piece l.written

abbrev pub decreases-loop-written : goal.decreases-loop-written
decreases-loop-written g l = length l.piece - l.written
