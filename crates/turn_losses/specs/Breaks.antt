-- What is lost before an end gives up while a break waits, and so before any end gives up.
use Rattle.std.specs.Prelude.{ℕ, List, ◌∷◌}
use Rattle.shared_terms.specs.declared.role.Role.{Role}
use Rattle.shared_terms.specs.declared.fault.LinkFault.{LinkFault}
use Rattle.link_run.specs.Run.{Link, Accounts, Turn, BrokenTurn}
use Rattle.link_run.specs.Carried.{Carries}
use Rattle.link_run.specs.Laws.{RunsOver}
use Rattle.link_run.specs.Starved.{IsStarved}
use Rattle.turn_bound.specs.Time.{KeepsTime}

-- Whatever an end gives up for, the run was starved.
abbrev pub GivesUpStarved : Type 0
GivesUpStarved = (tries period : ℕ) (delay : Role → ℕ) (link : Link) (ts : List Turn) (before : Accounts) (t : Turn) (mid : Accounts) (role : Role)
    (fault : LinkFault)
    → KeepsTime tries period delay link → RunsOver link delay ts before → Carries delay ts t
    → BrokenTurn link ts before t mid role fault
    → IsStarved tries period delay (t ∷ ts)
