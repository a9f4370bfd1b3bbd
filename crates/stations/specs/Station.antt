-- For which end of a run a station stands, and what its calls leave.
use Rattle.std.specs.Prelude.{◌≡◌, ℕ, ◌*◌, ◌≤◌, IsTrue, List, length, take, None, Result, Ok, Err}
use Rattle.outside_calls.specs.Folder.{FolderState, octets_at}
use Rattle.lapm_frames.specs.declared.sent.Sent.{Sent}
use Rattle.lapm_link.specs.declared.any_end.AnyEnd.{AnyEnd}
use Rattle.lapm_link.specs.declared.any_end.AnyEnd.TheVariants.{Closed}
use Rattle.lapm_link.specs.declared.closed.Broken.{Broken}
use Rattle.lapm_link.specs.Stands.{StandsFor, taken_of, undelivered_of, waiting_of}
use Rattle.shared_terms.specs.declared.fault.LinkFault.{LinkFault}
use Rattle.link_account.specs.Account.{Account}
use Rattle.link_account.specs.Speak.{Said}
use Rattle.link_run.specs.End.{BreakLine, offered}
use Rattle.link_run.specs.Reading.{IsOffered, SameSoFar}
use Rattle.stations.specs.declared.station.Station.{Station}

-- The station's end stands for this account, it has taken so many of its user's breaks, and was offered the file up to some place.
pub record Stands (s : Station) (file : List ℕ) (a : Account) : Type 0 where
  pub end : StandsFor s.end a
  pub breaks : s.breaks ≡ length a.own_breaks.lengths
  pub offered : IsOffered file a

-- All that was taken was handed over: the end may hear.
pub record IsIdle (s : Station) : Type 0 where
  pub delivered : undelivered_of s.end ≡ 0
  pub given : waiting_of s.end ≡ None

-- What an end took is bounded by the turns in which it heard, and its user's breaks by those in which it was asked for one.
pub record IsCounted (s : Station) (heard asked : ℕ) : Type 0 where
  pub segments : taken_of s.end ≤ 128 * heard
  pub breaks : s.breaks ≤ asked

-- what an end became was put back into its station, which answers its fault
abbrev pub IsKept : Result AnyEnd Broken → Station → Result (Unit {0}) LinkFault → Type 0
IsKept (Ok end) s result = (s.end ≡ end) × (result ≡ Ok tt)
IsKept (Err broken) s result = (s.end ≡ Closed broken.end) × (result ≡ Err broken.fault)

-- what hearing answers, where this is what it makes of the account
abbrev pub HearsAs : Result Account LinkFault → List ℕ → Station → Result (Unit {0}) LinkFault → Type 0
HearsAs (Ok b) file s (Ok done) = Stands s file b
HearsAs (Err fault) file s (Err broken) = broken ≡ fault
HearsAs (Ok b) file s (Err broken) = ⊥
HearsAs (Err fault) file s (Ok done) = ⊥

-- what speaking answers and sends
abbrev pub SpeaksAs : Result Said LinkFault → List ℕ → Sent → Station → Result (Unit {0}) LinkFault → Type 0
SpeaksAs (Ok said) file sent s (Ok done) = (sent ≡ said.sent) × Stands s file said.account
SpeaksAs (Err fault) file sent s (Err broken) = broken ≡ fault
SpeaksAs (Ok said) file sent s (Err broken) = ⊥
SpeaksAs (Err fault) file sent s (Ok done) = ⊥

-- the octets of a file up to its limit, which is where it ends for its reader
abbrev pub file_at : FolderState → List ℕ → ℕ → List ℕ
file_at f name limit = take limit (octets_at f name)

-- The file of that name was read on: it is known to be this one, which is the same as far as it was known before; a file that the folder tells
-- is what it tells.
pub record ReadsOn (f : FolderState) (name : List ℕ) (limit : ℕ) (file : List ℕ) (a : Account) (others : List ℕ) : Type 0 where
  pub within : length others ≤ limit
  pub same : SameSoFar a.outgoing file others
  pub told : IsTrue (f.tells name) → file ≡ file_at f name limit → others ≡ file

-- An end was offered all that it wants of the file of that name.
pub record Supplies (f : FolderState) (name : List ℕ) (limit : ℕ) (file : List ℕ) (a : Account) (s : Station) : Type 0 where
  pub others : List ℕ
  pub reads_on : ReadsOn f name limit file a others
  pub stands : Stands s others (offered others a)

-- The same while it is offered: whatever more is read, the rest of it leads where all of it does.
pub record Supplying (f : FolderState) (name : List ℕ) (limit : ℕ) (file : List ℕ) (a : Account) (s : Station) : Type 0 where
  pub others : List ℕ
  pub within : length others ≤ limit
  pub told : IsTrue (f.tells name) → file ≡ file_at f name limit → others ≡ file
  pub now : Account
  pub stands : Stands s others now
  pub same : (more : List ℕ) → SameSoFar now.outgoing others more → SameSoFar a.outgoing file more
  pub leads : (more : List ℕ) → SameSoFar now.outgoing others more → offered more now ≡ offered more a

-- a break that is to be asked for, by its turn and its length
abbrev pub break_line_of : ℕ × ℕ → BreakLine
break_line_of b = record { turn = b.0; length_octet = b.1 }
