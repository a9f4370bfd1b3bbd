use Rattle.stations.proofs.Names.{arith, ◌≡◌, ◌++◌, OnOk, OnErr, subst, option_map, line_of, Appended, PartlyAppended, of, Originator}
use Rattle.stations.proofs.Names.{Answerer}
use Rattle.stations.proofs.trace.append_turn.Given.{Over}
use Rattle.stations.proofs.trace.append_turn.Goals.{After-append}
use Rattle.stations.proofs.trace.append_turn.Goals as goal

-- what is appended is the lines of both ends
both-lines : (g : Over) (c : After-append g) → let sent = option_map (λ both. both.now) c.args.sent in
    c.as_slice-3.result.now ≡ line_of c.args.turn Originator c.args.heard.now.orig (option_map (of Originator) sent) c.args.given.now.orig
    ++ line_of c.args.turn Answerer c.args.heard.now.answ (option_map (of Answerer) sent) c.args.given.now.answ
both-lines g c = grind (arith)

pub returns-clause-ok : goal.returns-clause-ok
returns-clause-ok g c =
    subst (λ piece. OnOk c.append.result
    (Appended (g.F.Folder.state c.args.folder.now) (g.F.Folder.state c.append.new.self) c.args.name.now piece))
    (both-lines g (goal.at.returns-clause-ok g c).After-append) c.append.ensures.ok

pub returns-clause-err : goal.returns-clause-err
returns-clause-err g c =
    subst (λ piece. OnErr c.append.result
    (PartlyAppended (g.F.Folder.state c.args.folder.now) (g.F.Folder.state c.append.new.self) c.args.name.now piece))
    (both-lines g (goal.at.returns-clause-err g c).After-append) c.append.ensures.err
