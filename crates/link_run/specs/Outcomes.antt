-- How a run that was made so far goes on or ends by what its ends hear and say.
use Rattle.std.specs.Prelude.{◌≡◌, List}
use Rattle.shared_terms.specs.declared.role.Role.{Role}
use Rattle.shared_terms.specs.declared.fault.LinkFault.{LinkFault}
use Rattle.link_run.specs.Run.{Link, Accounts, Turn, GoingTurn, LastTurn, BrokenTurn}

-- what a turn comes to
pub data Outcome : Type 0 where
  Going : Outcome
  Done : Outcome
  Broken : (role : Role) (fault : LinkFault) → Outcome  -- the end of that role gives the link up

-- a turn with that outcome, and the ends as both have heard
abbrev pub TurnIs : Link → List Turn → Accounts → Turn → Accounts → Outcome → Type 0
TurnIs link ts before t mid Going = (after : Accounts) × (g : GoingTurn link ts before t after) × (g.mid ≡ mid)
TurnIs link ts before t mid Done = LastTurn ts before t mid
TurnIs link ts before t mid (Broken role fault) = BrokenTurn link ts before t mid role fault
