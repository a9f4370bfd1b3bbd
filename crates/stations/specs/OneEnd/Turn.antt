-- What a turn answers, what it adds to both outputs, and what is left where the folder doesn't take that.
use Rattle.std.specs.Prelude.{ℕ, ◌+◌, List, [], ◌∷◌, length, Result, Ok, Err}
use Rattle.outside_calls.specs.Folder.{FolderState, Rose, FaultsStand, CountsStand}
use Rattle.outside_calls.specs.Outputs.{AddEach, AddPart, SomeRose}
use Rattle.shared_terms.specs.declared.role.Role.{Role}
use Rattle.link_run.specs.Alone.{LoneTurn}
use Rattle.stations.specs.OneEnd.Peer.{Past, Outcome, Going, Closed, Broken, PeerTurn, after, over, turn_line}
use Rattle.stations.specs.OneEnd.Single.{PeerNames, SingleAfter, StaysKnown, outputs_of}
use Rattle.stations.specs.declared.one_end.single.Single.{Single}
use Rattle.stations.specs.declared.one_end.step.SingleStep.{SingleStep}
use Rattle.stations.specs.declared.one_end.step.SingleStep.TheVariants as steps
use Rattle.stations.specs.declared.one_end.step.SingleFault.{SingleFault}
use Rattle.stations.specs.declared.one_end.step.SingleFault.TheVariants as faults

-- what a turn adds to the outputs: the octets that the user is given, and its line
abbrev pub added : Role → Past → LoneTurn → List ℕ → List (List ℕ)
added role p turn octets = octets ∷ turn_line role (length p.turns) turn ∷ []

-- The turn after this past was made against this slot, with that outcome.
pub record Makes (role : Role) (old new : FolderState) (n : PeerNames) (p : Past) (slot : List ℕ) (outcome : Outcome) : Type 0 where
  pub others : List ℕ
  pub known : StaysKnown old new n.file p.file others
  pub turn : LoneTurn
  pub octets : List ℕ
  pub is : PeerTurn role (over others p) slot turn octets outcome
  pub writes : AddEach old new (outputs_of n) (added role p turn octets)

-- The run goes on by this turn.
pub record GoesOnBy (s : Single) (old new : FolderState) (n : PeerNames) (p : Past) (slot : List ℕ) : Type 0 where
  pub makes : Makes s.role old new n p slot Going
  pub single : SingleAfter s (after slot makes.turn makes.is.is.0 (over makes.others p))

-- The folder fails in this turn, whatever it comes to, and a part of what it adds is written.
pub record Stops (role : Role) (old new : FolderState) (n : PeerNames) (p : Past) (slot : List ℕ) : Type 0 where
  pub others : List ℕ
  pub known : StaysKnown old new n.file p.file others
  pub turn : LoneTurn
  pub octets : List ℕ
  pub outcome : Outcome
  pub is : PeerTurn role (over others p) slot turn octets outcome
  pub writes : AddPart old new (outputs_of n) (added role p turn octets)

-- It fails to read the user's file: all octets of the turn are written, and nothing of its line.
abbrev pub StopsInReading : Role → FolderState → FolderState → PeerNames → Past → List ℕ → Type 0
StopsInReading role old new n p slot = (s : Stops role old new n p slot) × AddEach old new (outputs_of n) (s.octets ∷ [])

-- why there is no further turn
abbrev pub EndsBy : Role → FolderState → FolderState → PeerNames → Past → List ℕ → SingleFault → Type 0
EndsBy role old new n p slot (faults.Link fault) = Makes role old new n p slot (Broken fault)
EndsBy role old new n p slot faults.ReadFault = StopsInReading role old new n p slot
EndsBy role old new n p slot fault = Stops role old new n p slot

-- what a turn answers after this past, against this slot
abbrev pub TurnAnswers : Single → FolderState → FolderState → PeerNames → Past → List ℕ → Result SingleStep SingleFault → Type 0
TurnAnswers s old new n p slot (Ok steps.Going) = GoesOnBy s old new n p slot
TurnAnswers s old new n p slot (Ok steps.Closed) = Makes s.role old new n p slot Closed
TurnAnswers s old new n p slot (Err fault) = EndsBy s.role old new n p slot fault

-- how many turns were made, once a turn is answered: one more where the run goes on
abbrev pub turns_made : ℕ → Result SingleStep SingleFault → ℕ
turns_made turn (Ok steps.Going) = turn + 1
turns_made turn answer = turn

-- what was counted where there is none: a fault of one of these names, a refusal of memory by the folder, or nothing
abbrev pub FaultCounts : FolderState → FolderState → List (List ℕ) → List (List ℕ) → SingleFault → Type 0
FaultCounts old new inputs outputs faults.ReadFault = SomeRose old.read_faults new.read_faults inputs
FaultCounts old new inputs outputs faults.WriteFault = SomeRose old.write_faults new.write_faults outputs
FaultCounts old new inputs outputs faults.NoMemory = FaultsStand old new × Rose old.refusals new.refusals
FaultCounts old new inputs outputs (faults.Link fault) = CountsStand old new

-- what a turn counted, or a step of it, that reads and writes these
abbrev pub Counts : {T : Type 0} → FolderState → FolderState → List (List ℕ) → List (List ℕ) → Result T SingleFault → Type 0
Counts old new inputs outputs (Ok done) = CountsStand old new
Counts old new inputs outputs (Err fault) = FaultCounts old new inputs outputs fault
