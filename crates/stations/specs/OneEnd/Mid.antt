-- A turn of a single end in its middle: the end has heard, and the rest of the turn is to come.
use Rattle.std.specs.Prelude.{◌≡◌, ℕ, false, List, ◌∷◌, length, Result, Ok, Err}
use Rattle.outside_calls.specs.Folder.{FolderState, Appended, PartlyAppended}
use Rattle.shared_terms.specs.Role.{other}
use Rattle.lapm_frames.specs.declared.arrived.Arrived.{Arrived}
use Rattle.shared_terms.specs.declared.fault.LinkFault.{LinkFault}
use Rattle.link_account.specs.Account.{Account, after_given, after_busy}
use Rattle.link_account.specs.Hear.{hear}
use Rattle.link_run.specs.End.{delivered, offered}
use Rattle.link_run.specs.Alone.{LoneTurn}
use Rattle.stations.specs.Station.{Stands, ReadsOn}
use Rattle.stations.specs.OneEnd.Heard.{IsHeard, stream, slot_bits}
use Rattle.detection.specs.Ear.{HasHeard}
use Rattle.stations.specs.OneEnd.Peer.{Past, PeerRun, PeerTurn, Outcome, Going, Broken, after, over, turn_line}
use Rattle.stations.specs.OneEnd.Single.{SingleAfter, file_limit}
use Rattle.stations.specs.declared.one_end.single.Single.{Single}
use Rattle.stations.specs.declared.one_end.single.HeardBreak.{HeardBreak}
use Rattle.stations.specs.declared.one_end.step.SingleFault.{SingleFault}
use Rattle.stations.specs.declared.one_end.step.SingleFault.TheVariants as faults

-- What the end hears of this slot in the turn after its past, and is once it has heard.
pub record InTurn (s : Single) (p : Past) (slot : List ℕ) (arrived : Arrived) (mid now : Account) : Type 0 where
  pub run : PeerRun s.role p
  pub heard : IsHeard (other s.role) (stream p.slots) (slot_bits slot) arrived
  pub hears : hear (length p.turns) arrived p.account ≡ Ok mid
  pub station : Stands s.station p.file now
  pub ear : HasHeard s.ear (stream (slot ∷ p.slots))
  pub turn : s.turn ≡ length p.turns

-- The end breaks as it hears this.
pub record BreaksOff (s : Single) (p : Past) (slot : List ℕ) (arrived : Arrived) (fault : LinkFault) : Type 0 where
  pub run : PeerRun s.role p
  pub heard : IsHeard (other s.role) (stream p.slots) (slot_bits slot) arrived
  pub hears : hear (length p.turns) arrived p.account ≡ Err fault
  pub turn : s.turn ≡ length p.turns

-- what hearing answers
abbrev pub HearsTurn : Single → Past → List ℕ → Result Arrived HeardBreak → Type 0
HearsTurn s p slot (Ok arrived) = (mid : Account) × InTurn s p slot arrived mid mid
HearsTurn s p slot (Err breaking) = BreaksOff s p slot breaking.arrived breaking.fault

-- what the end took is handed over
abbrev pub handed : Account → Account
handed mid = after_given (delivered mid)

-- and it is served otherwise
abbrev pub served_with : List ℕ → Account → Account
served_with file mid = after_busy false (offered file (handed mid))

-- The end was offered what it wants of its user's file, and is to speak.
pub record Serves (s : Single) (f : FolderState) (name : List ℕ) (p : Past) (slot : List ℕ) (arrived : Arrived)
    (mid : Account) : Type 0 where
  pub others : List ℕ
  pub reads : ReadsOn f name file_limit p.file (handed mid) others
  pub stands : InTurn s (over others p) slot arrived mid (served_with others mid)

-- The turn after the past is made with this outcome, and its line stands behind the trace.
pub record AddsLine (s : Single) (old new : FolderState) (trace : List ℕ) (p : Past) (slot octets : List ℕ)
    (outcome : Outcome) : Type 0 where
  pub turn : LoneTurn
  pub is : PeerTurn s.role p slot turn octets outcome
  pub line : Appended old new trace (turn_line s.role (length p.turns) turn)

-- A part of its line does, whatever it comes to.
pub record AddsPart (s : Single) (old new : FolderState) (trace : List ℕ) (p : Past) (slot octets : List ℕ) : Type 0 where
  pub outcome : Outcome
  pub turn : LoneTurn
  pub is : PeerTurn s.role p slot turn octets outcome
  pub line : PartlyAppended old new trace (turn_line s.role (length p.turns) turn)

-- The run goes on.
pub record HasGone (s : Single) (old new : FolderState) (trace : List ℕ) (p : Past) (slot octets : List ℕ) : Type 0 where
  pub adds : AddsLine s old new trace p slot octets Going
  pub single : SingleAfter s (after slot adds.turn adds.is.is.0 p)

-- why there is no further turn, as the turn's line is written
abbrev pub EndsLine : Single → FolderState → FolderState → List ℕ → Past → List ℕ → List ℕ → SingleFault → Type 0
EndsLine s old new trace p slot octets (faults.Link fault) = AddsLine s old new trace p slot octets (Broken fault)
EndsLine s old new trace p slot octets faults.WriteFault = AddsPart s old new trace p slot octets
EndsLine s old new trace p slot octets faults.NoMemory = AddsPart s old new trace p slot octets
EndsLine s old new trace p slot octets faults.ReadFault = ⊥

-- what speaking answers
abbrev pub SpeaksTurn : Single → FolderState → FolderState → List ℕ → Past → List ℕ → List ℕ → Result (Unit {0}) SingleFault → Type 0
SpeaksTurn s old new trace p slot octets (Ok done) = HasGone s old new trace p slot octets
SpeaksTurn s old new trace p slot octets (Err fault) = EndsLine s old new trace p slot octets fault

-- an output was not written
abbrev pub IsWriting : SingleFault → Type 0
IsWriting faults.WriteFault = Unit {0}
IsWriting faults.NoMemory = Unit {0}
IsWriting fault = ⊥

-- the user's file was not read
abbrev pub IsReading : SingleFault → Type 0
IsReading faults.ReadFault = Unit {0}
IsReading faults.NoMemory = Unit {0}
IsReading fault = ⊥
