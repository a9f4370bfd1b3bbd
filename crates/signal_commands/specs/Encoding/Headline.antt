-- What the command promises, over the folder before and after it. What is said of a name's octets holds where the
-- folder tells that name.
use Rattle.std.specs.Prelude.{◌≡◌, ◌⊎◌, ℕ, IsTrue, List}
use Rattle.outside_calls.specs.Folder.{FolderState, octets_at, KeepsName, Said}
use Rattle.signal_commands.specs.Encoding.Recorder.{IsRecordingOf}
use Rattle.command_base.specs.declared.status.Status.{Status}
use Rattle.command_base.specs.declared.status.Status.TheVariants.{Done}
use Rattle.command_base.specs.Job.{Shared}
use Rattle.command_base.specs.Lines.{samples_line}
use Rattle.outside_calls.specs.Outputs.{Holds, HoldsFront}
use Rattle.signal_commands.specs.Encoding.Words.{EncodeNames, inputs_of, outputs_of}

-- the file's octets have a recording, and the output holds the beginning of it
abbrev pub HoldsBeginning : FolderState → FolderState → EncodeNames → Type 0
HoldsBeginning old new n = IsTrue (old.tells n.file) → IsTrue (old.tells n.rec) →
    (recording : List ℕ) × (samples : ℕ) × IsRecordingOf n.rate n.mode (octets_at old n.file) recording samples
    × HoldsFront new n.rec recording

-- the output holds the recording of the file's octets, and the number of its samples was said
abbrev pub HoldsWhole : FolderState → FolderState → EncodeNames → Type 0
HoldsWhole old new n = (samples : ℕ) × Said old new (samples_line samples)
    × (IsTrue (old.tells n.file) → IsTrue (old.tells n.rec) → (recording : List ℕ)
    × IsRecordingOf n.rate n.mode (octets_at old n.file) recording samples × Holds new n.rec recording)

-- The output becomes the file's recording, or the beginning of it where the command ends by a fault.
pub record Headline (old new : FolderState) (n : EncodeNames) (s : Status) : Type 0 where
  pub shared : Shared (inputs_of n) (outputs_of n) old new s
  pub rec : KeepsName old new n.rec ⊎ HoldsBeginning old new n
  pub whole : s ≡ Done → HoldsWhole old new n
