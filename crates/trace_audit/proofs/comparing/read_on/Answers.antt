use Rattle.trace_audit.proofs.Cited.{sym, ◌∙◌, arith, octets_at, trace_limit}
use Rattle.trace_audit.proofs.ReadOn.{window-read, window-none}
use Rattle.trace_audit.proofs.comparing.read_on.Goals as goal

pub returns-in-Ok-clause-window : goal.returns-in-Ok-clause-window
returns-in-Ok-clause-window g c = λ told.
    window-read c.args.comparison.now c.in-Some.at trace_limit (octets_at (g.F.Folder.state c.args.folder.now) c.args.trace.now)
    c.read_part.new.piece _ c.in-Ok.count (sym c.place.ensures ∙ c.in-Some.is)
    (omega (arith, c.if-at-gt-TRACE_LIMIT.false)) (c.in-Ok.ensures.front told) (c.in-Ok.ensures.count told)

pub returns-in-Err-clause-window : goal.returns-in-Err-clause-window
returns-in-Err-clause-window g c = tt

pub returns-then-at-gt-TRACE_LIMIT-clause-window : goal.returns-then-at-gt-TRACE_LIMIT-clause-window
returns-then-at-gt-TRACE_LIMIT-clause-window g c = λ told.
    window-none c.args.comparison.now c.in-Some.at trace_limit (octets_at (g.F.Folder.state c.args.folder.now) c.args.trace.now)
    c.args.window.now _ (sym c.place.ensures ∙ c.in-Some.is) c.if-at-gt-TRACE_LIMIT.true
