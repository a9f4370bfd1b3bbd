use Rattle.std.proofs.Common.{◌-◌, length}
use Rattle.program_folders.proofs.Moved.{FilledUpTo}
use Rattle.program_folders.proofs.transfer.fill.Given as goal

abbrev pub invariant-loop-filled : goal.invariant-loop-filled
invariant-loop-filled g l = FilledUpTo (g.R.Read.remaining l.fn.reader) (g.R.Read.remaining l.reader) l.buf l.filled

abbrev pub decreases-loop-filled : goal.decreases-loop-filled
decreases-loop-filled g l = length l.initial.buf - l.filled
