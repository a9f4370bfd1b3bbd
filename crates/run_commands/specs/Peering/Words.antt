-- The words of a command line, as octets.
use Rattle.std.specs.Prelude.{ℕ, List, [], ◌∷◌, Option, None, if◌then◌else◌}
use Rattle.std.specs.Option.{option_map}
use Rattle.shared_terms.specs.declared.role.Role.{Role}
use Rattle.shared_terms.specs.Role.{role_named}
use Rattle.command_base.specs.Apart.{are_apart}
use Rattle.stations.specs.OneEnd.Single.{PeerNames}
use Rattle.run_commands.specs.declared.peer.words.PeerWords.{PeerWords}

-- the end's role and the names
pub record Names : Type 0 where
  pub role : Role
  pub file : List ℕ  -- what the end's user sends
  pub bits : List ℕ  -- the peer's
  pub got : List ℕ  -- what the end's user is given
  pub trace : List ℕ

-- the names that are read, and those that are written, in the order of the words
abbrev pub inputs_of : Names → List (List ℕ)
inputs_of n = n.file ∷ n.bits ∷ []

abbrev pub outputs_of : Names → List (List ℕ)
outputs_of n = n.got ∷ n.trace ∷ []

-- the names that turns use
abbrev pub turn_names : Names → PeerNames
turn_names n = record { file = n.file; got = n.got; trace = n.trace }

-- the words behind `peer`: ROLE FILE BITS GOT TRACE, and no others
abbrev pub names_of : List (List ℕ) → Option Names
names_of (role ∷ file ∷ bits ∷ got ∷ trace ∷ []) =
    if are_apart (file ∷ bits ∷ []) (got ∷ trace ∷ [])
    then option_map (λ r. record { role = r; file = file; bits = bits; got = got; trace = trace }) (role_named role)
    else None
names_of words = None

abbrev pub named : PeerWords → Names
named w = record { role = w.role; file = w.file.now; bits = w.bits.now; got = w.got.now; trace = w.trace.now }
