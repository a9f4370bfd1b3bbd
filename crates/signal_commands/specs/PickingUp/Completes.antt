-- When nothing but want of memory keeps the command from being done.
use Rattle.std.specs.Prelude.{◌≡◌, ℕ, ◌≤◌, IsTrue, List, [], ◌∷◌, ◌++◌, length}
use Rattle.scramblers.specs.declared.mode.Mode.{Mode}
use Rattle.recordings.specs.Recording.{header_of}
use Rattle.outside_calls.specs.Folder.{FolderState, octets_at}
use Rattle.command_base.specs.declared.status.Status.{Status}
use Rattle.command_base.specs.Sound.{IsSound, DoneUnlessMemory}
use Rattle.signal_commands.specs.PickingUp.Ends.{IsFollowed}

-- A recording of at most 8,388,616 octets: a header, and whole samples with which the line isn't lost, whatever state it began in.
pub record IsRecording (octets : List ℕ) : Type 0 where
  pub within : length octets ≤ 8388616
  pub mode : Mode
  pub content : List ℕ
  pub octets_are : octets ≡ header_of mode ++ content
  pub followed : IsFollowed content

-- the name is told and holds such a recording, and the folder is sound
abbrev pub Completes : FolderState → FolderState → List ℕ → Status → Type 0
Completes old new rec s = IsSound old new (rec ∷ []) [] → IsTrue (old.tells rec) → IsRecording (octets_at old rec) → DoneUnlessMemory s
