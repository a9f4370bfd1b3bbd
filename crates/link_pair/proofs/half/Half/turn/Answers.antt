use Rattle.link_pair.proofs.half.Half.turn.Goals as goal

pub returns-in-None-clause-turn : goal.returns-in-None-clause-turn
returns-in-None-clause-turn g c = λ beside links streams files p h. c.go_on.ensures.turn beside links streams files c.args.round p h
