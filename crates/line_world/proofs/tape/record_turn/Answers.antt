use Rattle.line_world.proofs.Cited.{[], subst, sym, tapes_of, wire_of, KeepTapes, tape_names, script_of, FolderState, OnlyPuts}
use Rattle.line_world.specs.Turn.{CountsOver}
use Rattle.line_world.proofs.tape.record_turn.Goals as goal

pub returns-in-Some-clause-records : goal.returns-in-Some-clause-records
returns-in-Some-clause-records g c = λ files ts t ends after kept.
    c.record_both.ensures.records files ts t ends after
    (subst (λ tapes. KeepTapes tapes (g.F.Folder.state c.args.folder.now) (wire_of (script_of c.args.world.now)) ts) c.in-Some.is kept)

pub returns-in-Some-clause-only : goal.returns-in-Some-clause-only
returns-in-Some-clause-only g c =
    subst
    (λ tapes. OnlyPuts (g.F.Folder.state c.args.folder.now) (g.F.Folder.state c.record_both.new.folder) (tapes_of (tape_names tapes)))
    (sym c.in-Some.is) c.record_both.ensures.only

pub returns-in-Some-clause-counts : goal.returns-in-Some-clause-counts
returns-in-Some-clause-counts g c =
    let old : FolderState = g.F.Folder.state c.args.folder.now in
    let new : FolderState = g.F.Folder.state c.record_both.new.folder in
    subst (λ tapes. CountsOver old new [] (tapes_of (tape_names tapes)) c.record_both.result) (sym c.in-Some.is)
    c.record_both.ensures.counts
