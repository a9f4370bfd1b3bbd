-- What holds of all runs of an end against a peer's octets.
use Rattle.std.specs.Prelude.{◌≡◌, ℕ, List}
use Rattle.shared_terms.specs.declared.role.Role.{Role}
use Rattle.run_commands.specs.Peering.Runs.{Left, PeerEnd, RunsTo}

-- A role, a file and octets have one result at most: how the run ends, and what it leaves.
abbrev pub OneResult : Type 0
OneResult = (role : Role) (file octets : List ℕ) (a b : PeerEnd) (left others : Left)
    → RunsTo role file octets a left → RunsTo role file octets b others → (a ≡ b) × (left ≡ others)
