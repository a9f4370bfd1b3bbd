-- What the command promises, over the folder before and after it. What is said of a name's octets holds where the folder tells that name.
use Rattle.std.specs.Prelude.{◌≡◌, ℕ, IsTrue, List}
use Rattle.outside_calls.specs.Folder.{FolderState, octets_at, Said}
use Rattle.shared_terms.specs.declared.fault.LinkFault.{LinkFault}
use Rattle.command_base.specs.declared.status.Status.{Status}
use Rattle.command_base.specs.declared.status.Status.TheVariants.{Done, NotDetected, LinkLost, PeerFault}
use Rattle.command_base.specs.Job.{Shared}
use Rattle.command_base.specs.Lines.{done_line}
use Rattle.run_commands.specs.Peering.Words.{Names, inputs_of, outputs_of}
use Rattle.run_commands.specs.Peering.Ends.{HoldLeft, status_of}
use Rattle.run_commands.specs.Peering.Runs.{Left, PeerEnd, IsDone, GivesUp, RunsTo}

-- The run of the folder's file and bits ended so, and the outputs hold what it left.
pub record Ran (old new : FolderState) (n : Names) (end : PeerEnd) : Type 0 where
  pub file : List ℕ
  pub octets : List ℕ
  pub file_is : IsTrue (old.tells n.file) → file ≡ octets_at old n.file
  pub bits_are : IsTrue (old.tells n.bits) → octets ≡ octets_at old n.bits
  pub left : Left
  pub run : RunsTo n.role file octets end left
  pub holds : HoldLeft new n left

-- the end gave its link up, and this is the answer to that
abbrev pub GaveUp : FolderState → FolderState → Names → Status → Type 0
GaveUp old new n answer = (fault : LinkFault) × (turn : ℕ) × (answer ≡ status_of n.role fault turn) × Ran old new n (GivesUp fault turn)

-- the run, where the answer is one by which a run itself ends; done says the number of turns
abbrev pub RanBy : FolderState → FolderState → Names → Status → Type 0
RanBy old new n Done = (turns : ℕ) × Said old new (done_line turns) × Ran old new n (IsDone turns)
RanBy old new n (NotDetected turn) = GaveUp old new n (NotDetected turn)
RanBy old new n (LinkLost role segment turn) = GaveUp old new n (LinkLost role segment turn)
RanBy old new n (PeerFault fault turn) = GaveUp old new n (PeerFault fault turn)
RanBy old new n status = Unit {0}

-- The run of the folder's file and bits is made to its end, and nothing else than that ends it but a fault of the folder or want of memory.
pub record Headline (old new : FolderState) (n : Names) (s : Status) : Type 0 where
  pub shared : Shared (inputs_of n) (outputs_of n) old new s
  pub ran : RanBy old new n s
