-- Exit statuses.
use Rattle.std.specs.Prelude.{◌⊎◌, ℕ}
use Rattle.outside_calls.specs.Folder.{FolderState, CountsStand}
use Rattle.command_base.specs.declared.status.Status.{Status}
use Rattle.command_base.specs.declared.status.Status.TheVariants.{Done, Usage, BadScript, BadRecording, BadHex, BadXid, TooLong, ReadFault, WriteFault, LineLost, NotDetected, LinkLost, ChanceMatch, NoMemory, PeerFault, AuditNo, BadTap, PairLinkLost, PairNotDetected}

abbrev pub code_of : Status → ℕ
code_of Done = 0
code_of Usage = 2
code_of (BadScript line cause) = 3
code_of (BadRecording at) = 3
code_of (BadHex at) = 3
code_of (BadXid fault) = 3
code_of (TooLong word) = 4
code_of ReadFault = 5
code_of WriteFault = 6
code_of (LineLost role symbol) = 7
code_of (NotDetected turn) = 8
code_of (LinkLost role segment turn) = 9
code_of (ChanceMatch role turn) = 10
code_of NoMemory = 11
code_of (PeerFault fault turn) = 12
code_of (AuditNo line cause) = 13
code_of (BadTap role turn) = 14
code_of (PairLinkLost link role segment turn) = 9
code_of (PairNotDetected link turn) = 8

-- input that is refused before anything is written
abbrev pub IsRefusal : Status → Type 0
IsRefusal Usage = Unit {0}
IsRefusal (BadScript line cause) = Unit {0}
IsRefusal (BadHex at) = Unit {0}
IsRefusal (BadXid fault) = Unit {0}
IsRefusal (TooLong word) = Unit {0}
IsRefusal status = ⊥

-- answers that a fault of the folder, or its want of memory, may have
abbrev pub IsFolderFault : Status → Type 0
IsFolderFault ReadFault = Unit {0}
IsFolderFault WriteFault = Unit {0}
IsFolderFault NoMemory = Unit {0}
IsFolderFault status = ⊥

-- a fault of the folder is the answer, or none was counted: none is passed over
abbrev pub PassesNoneOver : FolderState → FolderState → Status → Type 0
PassesNoneOver old new s = IsFolderFault s ⊎ CountsStand old new
