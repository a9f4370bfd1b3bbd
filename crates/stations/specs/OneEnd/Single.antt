-- For which run a single end stands: its turns so far, over a file that is known as far as it was read.
use Rattle.std.specs.Prelude.{◌≡◌, ℕ, ◌≤◌, IsTrue, List, [], ◌∷◌, length}
use Rattle.outside_calls.specs.Folder.{FolderState}
use Rattle.shared_terms.specs.declared.role.Role.{Role}
use Rattle.stations.specs.Station.{Stands, IsIdle, IsCounted, file_at}
use Rattle.stations.specs.OneEnd.Heard.{stream}
use Rattle.stations.specs.OneEnd.Peer.{Past, PeerRun}
use Rattle.detection.specs.Ear.{HasHeard}
use Rattle.stations.specs.declared.one_end.single.Single.{Single}

-- the role of a single end, and how many turns it made
abbrev pub role_of : Single → Role
role_of s = s.role

abbrev pub turn_of : Single → ℕ
turn_of s = s.turn

-- the names of a run: the user's file, what the user is given, and the trace
pub record PeerNames : Type 0 where
  pub file : List ℕ
  pub got : List ℕ
  pub trace : List ℕ

abbrev pub named : List ℕ → List ℕ → List ℕ → PeerNames
named file got trace = record { file = file; got = got; trace = trace }

-- what is read, and what is written, in that order
abbrev pub inputs_of : PeerNames → List (List ℕ)
inputs_of n = n.file ∷ []

abbrev pub outputs_of : PeerNames → List (List ℕ)
outputs_of n = n.got ∷ n.trace ∷ []

-- the most octets of a file: it ends there for its reader
abbrev pub file_limit : ℕ
file_limit = 1048576

-- The file is within the limit. Where the folder tells it, it is what it tells, up to there.
pub record KnowsFile (f : FolderState) (name file : List ℕ) : Type 0 where
  pub within : length file ≤ file_limit
  pub told : IsTrue (f.tells name) → file ≡ file_at f name file_limit

-- A file that was known so before is this one now, the same where the folder tells it: more of it was read.
pub record StaysKnown (old new : FolderState) (name file others : List ℕ) : Type 0 where
  pub within : length others ≤ file_limit
  pub known : KnowsFile old name file → KnowsFile new name others

-- The single end stands for this past.
pub record SingleAfter (s : Single) (p : Past) : Type 0 where
  pub run : PeerRun s.role p
  pub station : Stands s.station p.file p.account
  pub ear : HasHeard s.ear (stream p.slots)
  pub turn : s.turn ≡ length p.turns

-- A turn may be made: the single end stands for some past, and what its end took is handed over.
pub record IsReady (s : Single) : Type 0 where
  pub past : Past
  pub within : length past.file ≤ file_limit
  pub after : SingleAfter s past
  pub idle : IsIdle s.station
  pub counted : IsCounted s.station s.turn s.turn
