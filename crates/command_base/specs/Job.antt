-- What a command's job is, and how a command answers: its job ends, and then its last line is said.
use Rattle.std.specs.Prelude.{◌≡◌, ◌≢◌, ◌⊎◌, ℕ, List, Result, Ok, Err}
use Rattle.outside_calls.specs.Folder.{FolderState, KeepsName, Rose}
use Rattle.command_base.specs.declared.status.Status.{Status}
use Rattle.command_base.specs.declared.status.Status.TheVariants as status
use Rattle.command_base.specs.declared.stop.Stop.{Stop}
use Rattle.command_base.specs.declared.stop.Stop.TheVariants.{Say}
use Rattle.command_base.specs.Status.{IsRefusal, PassesNoneOver}
use Rattle.command_base.specs.Lines.{status_line}
use Rattle.outside_calls.specs.Outputs.{KeepsAll, IsNoneOf, OnlyOutputs, SomeRose}
use Rattle.command_base.specs.Stops.{fault_status, stop_status, end_status, EndCounts}
use Rattle.command_base.specs.Tells.{Tells}

-- A job that is done with a value of D: the names that it reads and writes, how it ends, and the line that is said once it is done.
pub record Job (D : Type 0) : Type 1 where
  pub inputs : List (List ℕ)
  pub outputs : List (List ℕ)
  pub Ends : FolderState → FolderState → Result D Stop → Type 0
  pub line_of : D → List ℕ

-- what is said of a job that stopped, and the answer; where a line was not said nothing more is
abbrev pub SaysStop : List (List ℕ) → FolderState → FolderState → Stop → Status → Type 0
SaysStop words before new (Say fault) s = (new ≡ before) × (s ≡ fault_status status.WriteFault fault)
SaysStop words before new stop s = Tells before new (status_line words (stop_status stop)) (stop_status stop) s

-- what is said last, and the answer
abbrev pub SaysLast : {D : Type 0} → (D → List ℕ) → List (List ℕ) → FolderState → FolderState → Result D Stop → Status → Type 0
SaysLast line_of words before new (Ok done) s = Tells before new (line_of done) status.Done s
SaysLast line_of words before new (Err stop) s = SaysStop words before new stop s

-- The job ended, and then its last line was said.
pub record Answers {D : Type 0} (j : Job D) (words : List (List ℕ)) (old new : FolderState) (s : Status) : Type 0 where
  pub end : Result D Stop
  pub before : FolderState
  pub ends : j.Ends old before end
  pub only : OnlyOutputs old before j.outputs
  pub refused : IsRefusal (end_status end) → KeepsAll old before
  pub counts : EndCounts old before j.inputs j.outputs end
  pub says : SaysLast j.line_of words before new end s

-- What every command promises that reads and writes these names alone. Memory that the folder didn't refuse is wanted before any name has changed.
pub record Shared (inputs outputs : List (List ℕ)) (old new : FolderState) (s : Status) : Type 0 where
  pub names : (other : List ℕ) → IsNoneOf other outputs → KeepsName old new other
  pub refused : IsRefusal s → KeepsAll old new
  pub read : s ≡ status.ReadFault → SomeRose old.read_faults new.read_faults inputs
  pub write : s ≡ status.WriteFault → SomeRose old.write_faults new.write_faults outputs ⊎ Rose old.say_faults new.say_faults
  pub memory : s ≡ status.NoMemory → Rose old.refusals new.refusals ⊎ KeepsAll old new
  pub known : s ≢ status.Usage
  pub stand : PassesNoneOver old new s
