-- When nothing but want of memory keeps the command from being done.
use Rattle.std.specs.Prelude.{◌≤◌, IsTrue, length}
use Rattle.outside_calls.specs.Folder.{FolderState, octets_at}
use Rattle.command_base.specs.declared.status.Status.{Status}
use Rattle.command_base.specs.Sound.{IsSound, DoneUnlessMemory}
use Rattle.signal_commands.specs.Encoding.Words.{EncodeNames, inputs_of, outputs_of}

-- the file is told and has at most 1,048,576 octets, and the folder is sound
abbrev pub Completes : FolderState → FolderState → EncodeNames → Status → Type 0
Completes old new n s = IsSound old new (inputs_of n) (outputs_of n) → IsTrue (old.tells n.file) → length (octets_at old n.file) ≤ 1048576
    → DoneUnlessMemory s
