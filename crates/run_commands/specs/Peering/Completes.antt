-- Which answer the inputs have over a sound folder, and when it is that the command is done.
use Rattle.std.specs.Prelude.{◌≡◌, ◌⊎◌, ℕ, ◌<◌, ◌≤◌, IsTrue, length}
use Rattle.outside_calls.specs.Folder.{FolderState, octets_at}
use Rattle.shared_terms.specs.declared.fault.LinkFault.{LinkFault}
use Rattle.command_base.specs.declared.status.Status.{Status}
use Rattle.command_base.specs.declared.status.Status.TheVariants.{TooLong, NoMemory}
use Rattle.command_base.specs.Sound.{IsSound, DoneUnlessMemory}
use Rattle.run_commands.specs.Peering.Words.{Names, inputs_of, outputs_of}
use Rattle.run_commands.specs.Peering.Runs.{Left, PeerEnd, GivesUp, RunsTo}
use Rattle.run_commands.specs.Peering.Ends.{HoldLeft, answer_of}

-- The inputs are told, and have at most 1,048,576 octets each.
pub record AreTold (old : FolderState) (n : Names) : Type 0 where
  pub file_told : IsTrue (old.tells n.file)
  pub bits_told : IsTrue (old.tells n.bits)
  pub file_within : length (octets_at old n.file) ≤ 1048576
  pub bits_within : length (octets_at old n.bits) ≤ 1048576

-- the run of the folder's file and bits ends so, and leaves this
abbrev pub InputsRunTo : FolderState → Names → PeerEnd → Left → Type 0
InputsRunTo old n end left = RunsTo n.role (octets_at old n.file) (octets_at old n.bits) end left

-- The answer is that to this end of a run, and the outputs hold what it leaves.
pub record Answered (new : FolderState) (n : Names) (end : PeerEnd) (left : Left) (s : Status) : Type 0 where
  pub answer : s ≡ answer_of n.role end
  pub holds : HoldLeft new n left

-- Over a sound folder, unless memory was not found: however the run of the inputs ends, that is the answer; where the end doesn't give its
-- link up in it, the command is done; and an input that is longer is too long, the bits first.
pub record Completes (old new : FolderState) (n : Names) (s : Status) : Type 0 where
  pub exact : IsSound old new (inputs_of n) (outputs_of n) → AreTold old n → (end : PeerEnd) (left : Left) → InputsRunTo old n end left
      → Answered new n end left s ⊎ (s ≡ NoMemory)
  pub done : IsSound old new (inputs_of n) (outputs_of n) → AreTold old n
      → ((fault : LinkFault) (turn : ℕ) (left : Left) → InputsRunTo old n (GivesUp fault turn) left → ⊥) → DoneUnlessMemory s
  pub bits_long : IsSound old new (inputs_of n) (outputs_of n) → IsTrue (old.tells n.bits) → 1048576 < length (octets_at old n.bits)
      → (s ≡ TooLong 3) ⊎ (s ≡ NoMemory)
  pub file_long : IsSound old new (inputs_of n) (outputs_of n) → IsTrue (old.tells n.bits) → length (octets_at old n.bits) ≤ 1048576
      → IsTrue (old.tells n.file) → 1048576 < length (octets_at old n.file) → (s ≡ TooLong 2) ⊎ (s ≡ NoMemory)
