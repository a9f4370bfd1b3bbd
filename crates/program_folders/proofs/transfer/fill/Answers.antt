use Rattle.std.proofs.Common.{rules}
use Rattle.program_folders.proofs.Moved.{FilledUpTo-more}
use Rattle.program_folders.proofs.transfer.fill.Goals as goal

pub loop-filled-preserved : goal.loop-filled-preserved
loop-filled-preserved g c =
    FilledUpTo-more _ _ _ _ _ _ _ _ c.loop-filled.invariant c.in_ok-count.ensures.bound.0 (search rules) c.in_ok-count.ensures.bytes.0
