use Rattle.line_world.proofs.Cited.{HaveArrived, HaveRoom, Lines, Originator, Answerer}
use Rattle.line_world.proofs.Waiting.{arrives-left}
use Rattle.line_world.proofs.Coded.{both-coded}
use Rattle.line_world.proofs.lines.Lines.arrive.Goals as goal

pub arrive-requires-clause-due : goal.arrive-requires-clause-due
arrive-requires-clause-due c = let w = c.requires.due in (w.0, w.1, w.2, w.3, w.4.directions, w.5, w.6, w.7)

pub returns-clause-arrives : goal.returns-clause-arrives
returns-clause-arrives c = λ channel links ts streams h due script dlci number.
    let new : Lines = record { directions = c.arrive.new.self; orig = c.args.self.now.orig; answ = c.args.self.now.answ } in
    arrives-left (HaveRoom c.arrive.new.self channel links streams) (HaveArrived new channel links streams) channel ts c.args.checks.now
    c.arrive.result
    (λ room. record { directions = room; coders = both-coded new channel streams (h.coders Originator) (h.coders Answerer) })
    (c.arrive.ensures.arrives channel links ts streams h.directions due script dlci number)
