-- When nothing but want of memory keeps the command from being done.
use Rattle.std.specs.Prelude.{◌≡◌, ℕ, ◌*◌, ◌≤◌, IsTrue, List, [], ◌++◌, length}
use Rattle.scramblers.specs.declared.mode.Mode.{Mode}
use Rattle.recordings.specs.Recording.{header_of}
use Rattle.outside_calls.specs.Folder.{FolderState, octets_at}
use Rattle.command_base.specs.declared.status.Status.{Status}
use Rattle.command_base.specs.Sound.{IsSound, DoneUnlessMemory}
use Rattle.signal_commands.specs.Margins.Words.{MarginNames, inputs_of}

-- A recording of a header, and of eight octets for each of at most 1,048,576 octets.
pub record AreMeasurable (recording octets : List ℕ) : Type 0 where
  pub within : length octets ≤ 1048576
  pub mode : Mode
  pub content : List ℕ
  pub recording_is : recording ≡ header_of mode ++ content
  pub fits : length content ≡ 8 * length octets

-- both names are told and hold such a recording and such octets, and the folder is sound
abbrev pub Completes : FolderState → FolderState → MarginNames → Status → Type 0
Completes old new n s =
    IsSound old new (inputs_of n) [] → IsTrue (old.tells n.rec) → IsTrue (old.tells n.file)
    → AreMeasurable (octets_at old n.rec) (octets_at old n.file) → DoneUnlessMemory s
