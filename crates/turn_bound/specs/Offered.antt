-- How many segments an end is offered of its user's file.
use Rattle.std.specs.Prelude.{ℕ, ◌-◌, ◌*◌, ◌<◌, ◌≤◌, List, length}
use Rattle.shared_terms.specs.declared.role.Role.{Role}
use Rattle.shared_terms.specs.Both.{of}
use Rattle.lapm_sender.specs.Outgoing.{Outgoing}
use Rattle.link_run.specs.Run.{Link, Accounts, Turn, RunOf}
use Rattle.link_run.specs.Carried.{IsCarried}
use Rattle.turn_bound.specs.Time.{KeepsTime}

-- so many segments hold a file, at the agreed size, where any was offered
abbrev pub HoldsFile : List ℕ → Outgoing → ℕ → Type 0
HoldsFile file o segments = 1 ≤ length o.pieces → length file ≤ o.size * segments

-- No more segments are offered than the file has: where there is one they have a size, and the last one begins within the file.
pub record IsWithin (file : List ℕ) (o : Outgoing) : Type 0 where
  pub sized : 1 ≤ length o.pieces → 1 ≤ o.size
  pub last : 1 ≤ length o.pieces → o.size * (length o.pieces - 1) < length file

abbrev pub OffersWithin : Type 0
OffersWithin = (tries period : ℕ) (delay : Role → ℕ) (link : Link) (ts : List Turn) (ends : Accounts)
    → KeepsTime tries period delay link → RunOf link ts ends → IsCarried delay ts
    → (role : Role) → IsWithin (of role link).user.file (of role ends).outgoing
