-- The bound on the turns of a run, whatever its lines lose.
use Rattle.std.specs.Prelude.{ℕ, ◌+◌, ◌*◌, ◌<◌, List, length}
use Rattle.shared_terms.specs.declared.role.Role.{Role}
use Rattle.shared_terms.specs.declared.role.Role.TheVariants.{Originator, Answerer}
use Rattle.shared_terms.specs.Both.{of}
use Rattle.link_run.specs.End.{busy_turns}
use Rattle.link_run.specs.Run.{Link, Accounts, Turn, RunOf}
use Rattle.link_run.specs.Carried.{IsCarried}
use Rattle.turn_bound.specs.Time.{KeepsTime}
use Rattle.turn_bound.specs.Offered.{HoldsFile}

-- the sum over both ends
abbrev pub of_both : (Role → ℕ) → ℕ
of_both amount = amount Originator + amount Answerer

-- what a run has to do, with so many segments of each role: two more for each turn in which a user is busy, and six for the phases
abbrev pub weight : Link → (Role → ℕ) → ℕ
weight link segments =
    of_both segments + of_both (λ role. length (of role link).user.breaks) + 2 * of_both (λ role. busy_turns (of role link).user.busy) + 6

-- the turns that one of them may take: two whole sets of tries, and a period for each
abbrev pub quota : ℕ → ℕ → ℕ
quota tries period = 2 * (tries + 2) * period

abbrev pub most_turns : ℕ → ℕ → Link → (Role → ℕ) → ℕ
most_turns tries period link segments = quota tries period * weight link segments

-- the segments that an end was offered of its user's file
abbrev pub offered_to : Accounts → Role → ℕ
offered_to ends role = length (of role ends).outgoing.pieces

-- A run ends soon: there are fewer turns after which it goes on, by the segments that were offered. With its last turn it has so many at
-- most.
abbrev pub EndsSoon : Type 0
EndsSoon = (tries period : ℕ) (delay : Role → ℕ) (link : Link) (ts : List Turn) (ends : Accounts)
    → KeepsTime tries period delay link → RunOf link ts ends → IsCarried delay ts
    → length ts < most_turns tries period link (offered_to ends)

-- By the segments of both files, where these are told.
abbrev pub EndsSoonByFiles : Type 0
EndsSoonByFiles = (tries period : ℕ) (delay : Role → ℕ) (link : Link) (ts : List Turn) (ends : Accounts) (segments : Role → ℕ)
    → KeepsTime tries period delay link → RunOf link ts ends → IsCarried delay ts
    → ((role : Role) → HoldsFile (of role link).user.file (of role ends).outgoing (segments role))
    → length ts < most_turns tries period link segments

-- And by the octets of both files, before any size is agreed: a segment has one at least.
abbrev pub EndsSoonByOctets : Type 0
EndsSoonByOctets = (tries period : ℕ) (delay : Role → ℕ) (link : Link) (ts : List Turn) (ends : Accounts)
    → KeepsTime tries period delay link → RunOf link ts ends → IsCarried delay ts
    → length ts < most_turns tries period link (λ role. length (of role link).user.file)
