use Rattle.line_world.proofs.Coded.{newest-is}
use Rattle.line_world.proofs.Cited.{Originator, Answerer}
use Rattle.line_world.proofs.lines.Lines.newest.Goals as goal

pub returns-in-Originator : goal.returns-in-Originator
returns-in-Originator c = λ channel links streams front x h e.
    newest-is c.args.self.now channel c.args.role Originator links streams front x c.newest.result.now h e c.in-Originator.is
    c.newest.ensures

pub returns-in-Answerer : goal.returns-in-Answerer
returns-in-Answerer c = λ channel links streams front x h e.
    newest-is c.args.self.now channel c.args.role Answerer links streams front x c.newest-in-Answerer.result.now h e c.in-Answerer.is
    c.newest-in-Answerer.ensures
