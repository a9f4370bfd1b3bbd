-- What two links send over a direction of the line, in order.
use Rattle.std.specs.Prelude.{List, [], ◌∷◌, ◌++◌}
use Rattle.shared_terms.specs.declared.role.Role.{Role}
use Rattle.shared_terms.specs.Both.{of}
use Rattle.link_run.specs.Run.{Turn}
use Rattle.line_run.specs.Stream.{Carried, carry}
use Rattle.link_pair.specs.Pairs.Beside.{first_dlci, second_dlci}

-- what two links have sent as a round begins, each in as many turns,
abbrev pub both_sent : Role → List Turn → List Turn → List Carried
both_sent role [] us = []
both_sent role (t ∷ ts) [] = []
both_sent role (t ∷ ts) (u ∷ us) = both_sent role ts us ++ carry first_dlci (of role t).sent ++ carry second_dlci (of role u).sent

-- and as the turn of the second begins
abbrev pub first_sent : Role → List Turn → List Turn → List Carried
first_sent role [] us = []
first_sent role (t ∷ ts) us = both_sent role ts us ++ carry first_dlci (of role t).sent
