-- How the job of the command ends, before its line is said. What is said of a name's octets holds where the folder tells that name.
use Rattle.std.specs.Prelude.{◌≡◌, ◌⊎◌, ℕ, IsTrue, List, [], ◌∷◌, Result, Ok, Err}
use Rattle.outside_calls.specs.Folder.{FolderState, octets_at}
use Rattle.outside_calls.specs.declared.folder.FolderFault.{FolderFault}
use Rattle.outside_calls.specs.declared.folder.FolderFault.TheVariants as folder
use Rattle.shared_terms.specs.declared.role.Role.{Role}
use Rattle.shared_terms.specs.declared.fault.LinkFault.{LinkFault}
use Rattle.shared_terms.specs.declared.fault.LinkFault.TheVariants as faults
use Rattle.shared_terms.specs.declared.limits.TheConstants.{FILE_LIMIT}
use Rattle.command_base.specs.declared.status.Status.{Status}
use Rattle.command_base.specs.declared.status.Status.TheVariants.{Done, TooLong, NotDetected, LinkLost, PeerFault}
use Rattle.command_base.specs.declared.stop.Stop.{Stop}
use Rattle.command_base.specs.declared.stop.Stop.TheVariants.{Own, Read, Write, Say, NoMemory}
use Rattle.command_base.specs.Inputs.{IsWithin, IsLonger}
use Rattle.command_base.specs.Job.{Job}
use Rattle.command_base.specs.Lines.{done_line}
use Rattle.command_base.specs.Stops.{ReadFails}
use Rattle.outside_calls.specs.Outputs.{KeepsAll, CreatesPart, SaysNothing}
use Rattle.outside_calls.specs.Outputs.{HoldEach, HoldPart, joined}
use Rattle.stations.specs.OneEnd.Peer.{Past, Outcome, turn_line}
use Rattle.run_commands.specs.Peering.Words.{Names, inputs_of, outputs_of}
use Rattle.run_commands.specs.Peering.Runs.{Left, PeerEnd, IsDone, GivesUp, IsPast, MakesTurn, RunsTo, left_of}

-- The inputs are within their limits, and these are their octets.
pub record Takes (old : FolderState) (n : Names) (file octets : List ℕ) : Type 0 where
  pub bits_within : IsWithin old n.bits FILE_LIMIT
  pub file_within : IsWithin old n.file FILE_LIMIT
  pub file_is : IsTrue (old.tells n.file) → file ≡ octets_at old n.file
  pub bits_are : IsTrue (old.tells n.bits) → octets ≡ octets_at old n.bits

-- what is left of each output
abbrev pub held_of : Left → List (List ℕ)
held_of left = left.got ∷ left.trace ∷ []

-- the outputs hold what is left
abbrev pub HoldLeft : FolderState → Names → Left → Type 0
HoldLeft f n left = HoldEach f (outputs_of n) (held_of left)

-- The run of the inputs ended so, and the outputs hold what it left.
pub record RanTo (old new : FolderState) (n : Names) (end : PeerEnd) : Type 0 where
  pub file : List ℕ
  pub octets : List ℕ
  pub takes : Takes old n file octets
  pub left : Left
  pub run : RunsTo n.role file octets end left
  pub holds : HoldLeft new n left

-- The folder failed to read a slot of the bits: the outputs hold what the turns before left.
pub record StopsBetween (old new : FolderState) (n : Names) : Type 0 where
  pub file : List ℕ
  pub octets : List ℕ
  pub takes : Takes old n file octets
  pub past : Past
  pub is_past : IsPast n.role file octets past
  pub holds : HoldLeft new n (left_of n.role past)

-- It failed in a turn: the outputs hold what the turns before left, and a part of what this turn adds, whatever it comes to.
pub record StopsWithin (new : FolderState) (n : Names) (file octets : List ℕ) : Type 0 where
  pub turn : ℕ
  pub outcome : Outcome
  pub left : Left
  pub makes : MakesTurn n.role file octets turn outcome left
  pub holds : HoldPart new (outputs_of n) (held_of (left_of n.role makes.past)) (makes.given ∷ turn_line n.role turn makes.last ∷ [])

-- The folder failed in a turn of the run of the inputs.
pub record StopsInTurn (old new : FolderState) (n : Names) : Type 0 where
  pub file : List ℕ
  pub octets : List ℕ
  pub takes : Takes old n file octets
  pub stops : StopsWithin new n file octets

-- It failed to read the file in it: the outputs hold all octets of this turn too, and nothing of its line.
abbrev pub StopsReading : (new : FolderState) (n : Names) (file octets : List ℕ) → StopsWithin new n file octets → Type 0
StopsReading new n file octets s =
    HoldEach new (outputs_of n) (joined (held_of (left_of n.role s.makes.past)) (s.makes.given ∷ []))

abbrev pub StopsInReading : FolderState → FolderState → Names → Type 0
StopsInReading old new n = (s : StopsInTurn old new n) × StopsReading new n s.file s.octets s.stops

-- An output was not created, once both inputs were within their limits.
pub record StopsCreating (old new : FolderState) (n : Names) : Type 0 where
  pub bits_within : IsWithin old n.bits FILE_LIMIT
  pub file_within : IsWithin old n.file FILE_LIMIT
  pub creates : CreatesPart old new (outputs_of n)

-- Word 3 names the bits, and word 2 the file: the bits' length is looked at first.
abbrev pub IsTooLong : FolderState → Names → Status → Type 0
IsTooLong old n answer =
    ((answer ≡ TooLong 3) × IsLonger old n.bits FILE_LIMIT)
    ⊎ ((answer ≡ TooLong 2) × IsWithin old n.bits FILE_LIMIT × IsLonger old n.file FILE_LIMIT)

-- why the length of an input is not known: that of the bits, or, once they are within their limit, that of the file
abbrev pub FailsToLook : FolderState → FolderState → Names → FolderFault → Type 0
FailsToLook old new n fault =
    ReadFails old new (n.bits ∷ []) fault ⊎ (IsWithin old n.bits FILE_LIMIT × ReadFails old new (n.file ∷ []) fault)

-- the answer of an end that gives its link up: a pattern of the answerer's never came, its tries are spent, or the peer is at fault
abbrev pub status_of : Role → LinkFault → ℕ → Status
status_of role faults.NotDetected turn = NotDetected turn
status_of role (faults.Spent segment since) turn = LinkLost role segment turn
status_of role fault turn = PeerFault fault turn

-- the answer to how a run ends
abbrev pub answer_of : Role → PeerEnd → Status
answer_of role (IsDone turns) = Done
answer_of role (GivesUp fault turn) = status_of role fault turn

-- the run ended as the end gave its link up
abbrev pub RanBy : FolderState → FolderState → Names → Status → Type 0
RanBy old new n answer = (fault : LinkFault) × (turn : ℕ) × (answer ≡ status_of n.role fault turn) × RanTo old new n (GivesUp fault turn)

-- why the job is not done: for the inputs' lengths, for what becomes of the run, or for the folder
abbrev pub EndsBy : FolderState → FolderState → Names → Stop → Type 0
EndsBy old new n (Own answer) = (KeepsAll old new × IsTooLong old n answer) ⊎ RanBy old new n answer
EndsBy old new n (Read fault) =
    (KeepsAll old new × FailsToLook old new n fault)
    ⊎ (ReadFails old new (n.bits ∷ []) fault × StopsBetween old new n)
    ⊎ ((fault ≡ folder.Failed) × ReadFails old new (n.file ∷ []) fault × StopsInReading old new n)
EndsBy old new n (Write fault) = StopsCreating old new n ⊎ StopsInTurn old new n
EndsBy old new n (Say fault) = ⊥
EndsBy old new n NoMemory = KeepsAll old new × IsWithin old n.bits FILE_LIMIT × IsWithin old n.file FILE_LIMIT

-- how the job ends: done in so many turns, or before
abbrev pub Ends : FolderState → FolderState → Names → Result ℕ Stop → Type 0
Ends old new n (Ok turns) = RanTo old new n (IsDone turns)
Ends old new n (Err stop) = EndsBy old new n stop

-- The job of the command: done, its line says the number of turns.
abbrev pub peer_job : Names → Job ℕ
peer_job n = record {
  inputs = inputs_of n;
  outputs = outputs_of n;
  Ends = λ old new end. Ends old new n end × SaysNothing old new;
  line_of = done_line;
}
