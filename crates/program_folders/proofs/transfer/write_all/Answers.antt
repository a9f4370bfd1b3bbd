use Rattle.std.proofs.Common.{rules}
use Rattle.std.proofs.lemmas.Result.{MatchResult-from_err}
use Rattle.std.proofs.KnownBytes.{Keeps-refl}
use Rattle.program_folders.proofs.Moved.{WroteUpTo-more, WroteUpTo-part}
use Rattle.program_folders.proofs.transfer.write_all.Goals as goal

pub returns-in_err-count-clause-err : goal.returns-in_err-count-clause-err
returns-in_err-count-clause-err g c =
    MatchResult-from_err _ _ _ c.from_residual.ensures.0
    (λ _. WroteUpTo-part _ _ _ _ _ c.loop-written.invariant c.in_err-count.ensures.bytes)

pub returns-then-count-eq0-clause-err : goal.returns-then-count-eq0-clause-err
returns-then-count-eq0-clause-err g c =
    WroteUpTo-part _ _ _ _ _ (WroteUpTo-more _ _ _ _ _ _ c.loop-written.invariant (search rules) c.in_ok-count.ensures.bytes) (Keeps-refl _)

pub loop-written-preserved : goal.loop-written-preserved
loop-written-preserved g c = WroteUpTo-more _ _ _ _ _ _ c.loop-written.invariant (search rules) c.in_ok-count.ensures.bytes
