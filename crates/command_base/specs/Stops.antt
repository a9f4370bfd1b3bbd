-- Why a job stops before it is done: its status, and what the folder counted.
use Rattle.std.specs.Prelude.{ℕ, List, Result, Ok, Err}
use Rattle.outside_calls.specs.Folder.{FolderState, Rose, FaultsStand, CountsStand}
use Rattle.outside_calls.specs.declared.folder.FolderFault.{FolderFault}
use Rattle.outside_calls.specs.declared.folder.FolderFault.TheVariants as folder
use Rattle.outside_calls.specs.Outputs.{SomeRose}
use Rattle.command_base.specs.declared.status.Status.{Status}
use Rattle.command_base.specs.declared.status.Status.TheVariants as status
use Rattle.command_base.specs.declared.stop.Stop.{Stop}
use Rattle.command_base.specs.declared.stop.Stop.TheVariants.{Own, Read, Write, Say, NoMemory}

-- the status of a folder's fault: this one where a call failed
abbrev pub fault_status : Status → FolderFault → Status
fault_status failed folder.Failed = failed
fault_status failed folder.NoMemory = status.NoMemory

abbrev pub stop_status : Stop → Status
stop_status (Own answer) = answer
stop_status (Read fault) = fault_status status.ReadFault fault
stop_status (Write fault) = fault_status status.WriteFault fault
stop_status (Say fault) = fault_status status.WriteFault fault
stop_status NoMemory = status.NoMemory

abbrev pub end_status : {D : Type 0} → Result D Stop → Status
end_status (Ok done) = status.Done
end_status (Err stop) = stop_status stop

-- answers that a command has of its own: for what its inputs are, or what became of them
abbrev pub IsOwn : Status → Type 0
IsOwn (status.BadScript line cause) = Unit {0}
IsOwn (status.BadRecording at) = Unit {0}
IsOwn (status.BadHex at) = Unit {0}
IsOwn (status.BadXid fault) = Unit {0}
IsOwn (status.TooLong word) = Unit {0}
IsOwn (status.LineLost role symbol) = Unit {0}
IsOwn (status.NotDetected turn) = Unit {0}
IsOwn (status.LinkLost role segment turn) = Unit {0}
IsOwn (status.ChanceMatch role turn) = Unit {0}
IsOwn (status.PeerFault fault turn) = Unit {0}
IsOwn (status.AuditNo line cause) = Unit {0}
IsOwn (status.BadTap role turn) = Unit {0}
IsOwn (status.PairLinkLost link role segment turn) = Unit {0}
IsOwn (status.PairNotDetected link turn) = Unit {0}
IsOwn answer = ⊥

-- why one of these inputs is not read
abbrev pub ReadFails : FolderState → FolderState → List (List ℕ) → FolderFault → Type 0
ReadFails old new inputs folder.Failed = SomeRose old.read_faults new.read_faults inputs
ReadFails old new inputs folder.NoMemory = FaultsStand old new × Rose old.refusals new.refusals

-- why one of these outputs is not made, or not written
abbrev pub WriteFails : FolderState → FolderState → List (List ℕ) → FolderFault → Type 0
WriteFails old new outputs folder.Failed = SomeRose old.write_faults new.write_faults outputs
WriteFails old new outputs folder.NoMemory = FaultsStand old new × Rose old.refusals new.refusals

-- why a line is not said
abbrev pub SayFails : FolderState → FolderState → FolderFault → Type 0
SayFails old new folder.Failed = Rose old.say_faults new.say_faults
SayFails old new folder.NoMemory = FaultsStand old new × Rose old.refusals new.refusals

-- what was counted where a job stops: a fault of its own names, or none
abbrev pub StopCounts : FolderState → FolderState → List (List ℕ) → List (List ℕ) → Stop → Type 0
StopCounts old new inputs outputs (Own answer) = IsOwn answer × CountsStand old new
StopCounts old new inputs outputs (Read fault) = ReadFails old new inputs fault
StopCounts old new inputs outputs (Write fault) = WriteFails old new outputs fault
StopCounts old new inputs outputs (Say fault) = SayFails old new fault
StopCounts old new inputs outputs NoMemory = FaultsStand old new

-- what was counted where a job ends: nothing where it is done
abbrev pub EndCounts : {D : Type 0} → FolderState → FolderState → List (List ℕ) → List (List ℕ) → Result D Stop → Type 0
EndCounts old new inputs outputs (Ok done) = CountsStand old new
EndCounts old new inputs outputs (Err stop) = StopCounts old new inputs outputs stop
